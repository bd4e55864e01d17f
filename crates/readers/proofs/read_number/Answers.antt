use Rattle.std.proofs.Common.{ap, ◌∙◌}
use Rattle.value.specs.Meaning.{number_named}
use Rattle.value.specs.Tree.{VNumber, SizeOfV, row_count}
use Rattle.value.specs.Step.{give}
use Rattle.rows.specs.Layout.{own_row, rows_of}
use Rattle.readers.proofs.Laws.{reads_next}
use Rattle.readers.proofs.read_number.Goals as goal

pub returns : goal.returns
unfolding rows_of own_row row_count SizeOfV
returns c =
    let k = number_named c.args.number in
    let n = c.in_ok-n in
    reads_next n.next (VNumber k n.n) (ap (give (VNumber k)) n.ensures.0) n.ensures.1 (c.put_row.ensures ∙ rw (c.word.ensures, c.width.ensures))
