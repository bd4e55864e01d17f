use Rattle.std.proofs.Common.{[], ◌∷◌, ◌*◌, sym, ◌∙◌, arith}
use Rattle.tables.specs.Row.{row_width}
use Rattle.packed.proofs.Fitting.{put_within-fits, put_within-short}
use Rattle.tables.proofs.Laws.{put_five}
use Rattle.tables.proofs.put_row.Goals as goal

pub returns-then-at-rows : goal.returns-then-at-rows
returns-then-at-rows c =
    let a = c.args in
    put_five a.rows.now (row_width * a.at) a.row.kind a.row.span a.row.word2 a.row.word3 a.row.size (omega arith) ∙ sym (put_within-fits a.rows.now (row_width * a.at) (a.row.kind ∷ a.row.span ∷ a.row.word2 ∷ a.row.word3 ∷ a.row.size ∷ []) (omega arith))

pub returns-else-at-rows : goal.returns-else-at-rows
returns-else-at-rows c =
    let a = c.args in
    sym (put_within-short a.rows.now (row_width * a.at) (a.row.kind ∷ a.row.span ∷ a.row.word2 ∷ a.row.word3 ∷ a.row.size ∷ []) (omega arith))
