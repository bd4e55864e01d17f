-- What is compared was decided before: the rows are a table of the value, which has room.
use Rattle.std.proofs.Common.{length}
use Rattle.std.proofs.lemmas.Result.{err_from_is_err_and}
use Rattle.writing.proofs.Writing.{Written, written, put-ready}
use Rattle.previewing.proofs.Previewing.{preview-refused, preview-counted}
use Rattle.previewing.proofs.preview.Goals as goal
use Rattle.previewing.proofs.preview.Goals.{In_ok-size}

-- behind the size
decided : (c : In_ok-size) → let a = c.args in Written a.grammar.now a.rows.now a.n a.store.now (length a.out.now) a.index
decided c =
    let a = c.args in
    written a.grammar.now a.rows.now a.n a.store.now (length a.out.now) a.index (λ j _. (c.type_inv.rows j).fits) (λ j. (c.type_inv.store j).fits) c.in_ok-size.ensures

pub compare_rows-changed-requires : goal.compare_rows-changed-requires
compare_rows-changed-requires c =
    let a = c.args in
    put-ready a.grammar.now a.rows.now a.n a.store.now (length a.out.now) a.index (decided c)

pub returns-in_err-size : goal.returns-in_err-size
returns-in_err-size c =
    let a = c.args in
    let p = err_from_is_err_and c.from_residual.result c.from_residual.ensures.1 in
    rw (p.1, p.2) (preview-refused a.grammar.now a.rows.now a.n a.store.now a.out.now a.index c.in_err-size.ensures)

pub returns : goal.returns
returns c =
    let a = c.args in
    preview-counted a.grammar.now a.rows.now a.n a.store.now a.out.now a.index (decided (goal.at.returns c).In_ok-size) c.in_ok-size.ensures c.compare_rows-changed.ensures
