-- What is put was decided before: the rows are a table of the value, which has room.
use Rattle.std.proofs.Common.{ap, ◌∙◌, length}
use Rattle.std.proofs.lemmas.Result.{err_from_is_err_and}
use Rattle.packed.specs.Packed.{put}
use Rattle.rows.proofs.Size.{table-bytes}
use Rattle.sizing.specs.Writes.{marshall_val_of}
use Rattle.writing.proofs.Writing.{Written, written, put-ready, marshalls_refused, marshalls_put}
use Rattle.writing.proofs.marshall_val.Goals as goal
use Rattle.writing.proofs.marshall_val.Goals.{In_ok-size}

-- behind the size
decided : (c : In_ok-size) → let a = c.args in Written a.grammar.now a.rows.now a.n a.store.now (length a.out.now) a.index
decided c =
    let a = c.args in
    written a.grammar.now a.rows.now a.n a.store.now (length a.out.now) a.index (λ j _. (c.type_inv.rows j).fits) (λ j. (c.type_inv.store j).fits) c.in_ok-size.ensures

pub marshall_rows-requires : goal.marshall_rows-requires
marshall_rows-requires c =
    let a = c.args in
    put-ready a.grammar.now a.rows.now a.n a.store.now (length a.out.now) a.index (decided (goal.at.marshall_rows-requires c).In_ok-size)

pub returns-in_err-size : goal.returns-in_err-size
returns-in_err-size c =
    let a = c.args in
    let p = err_from_is_err_and c.from_residual.result c.from_residual.ensures.1 in
    rw (p.1, p.2) (marshalls_refused (marshall_val_of a.grammar.now a.rows.now a.n a.store.now (length a.out.now) a.index) a.index a.out.now c.in_err-size.field-0.0 c.in_err-size.ensures)

pub returns : goal.returns
returns c =
    let a = c.args in
    let w = decided (goal.at.returns c).In_ok-size in
    marshalls_put (marshall_val_of a.grammar.now a.rows.now a.n a.store.now (length a.out.now) a.index) a.index a.out.now
    c.in_ok-size.ensures
    w.decided
    (c.marshall_rows.ensures ∙ ap (put a.out.now a.index) (table-bytes a.rows.now a.n a.store.now w.value w.table))
