-- What is put was decided before: the rows are a table of the value, which has room.
use Rattle.std.proofs.Common.{length, ap, ◌∙◌}
use Rattle.std.proofs.lemmas.Result.{err_from_is_err_and}
use Rattle.packed.specs.Packed.{put}
use Rattle.exporting.specs.Export.{export_of}
use Rattle.exporting.proofs.Own.{xdr_bytes}
use Rattle.exporting.proofs.Exporting.{Tabled, decided, put-ready, exports_refused, exports_put}
use Rattle.exporting.proofs.export_xdr.Goals as goal
use Rattle.exporting.proofs.export_xdr.Goals.{In_ok-size}

-- behind the size
ready : (c : In_ok-size) → let a = c.args in Tabled (export_of a.grammar.now a.rows.now a.n a.store.now (length a.out.now) a.index) a.rows.now a.n a.store.now
ready c =
    let a = c.args in
    decided a.grammar.now a.rows.now a.n a.store.now (length a.out.now) a.index (λ j _. (c.type_inv.rows j).fits) (λ j. (c.type_inv.store j).fits) c.in_ok-size.ensures

pub export_rows-requires : goal.export_rows-requires
export_rows-requires c =
    let a = c.args in
    put-ready a.grammar.now a.rows.now a.n a.store.now (length a.out.now) a.index (λ j _. (c.type_inv.grammar j).fits) (ready (goal.at.export_rows-requires c).In_ok-size)

pub returns-in_err-size : goal.returns-in_err-size
returns-in_err-size c =
    let a = c.args in
    let p = err_from_is_err_and c.from_residual.result c.from_residual.ensures.1 in
    rw (p.1, p.2) (exports_refused (export_of a.grammar.now a.rows.now a.n a.store.now (length a.out.now) a.index) a.index a.out.now c.in_err-size.field-0.0 c.in_err-size.ensures)

pub returns : goal.returns
returns c =
    let a = c.args in
    let w = ready (goal.at.returns c).In_ok-size in
    exports_put (export_of a.grammar.now a.rows.now a.n a.store.now (length a.out.now) a.index) a.index a.out.now c.in_ok-size.ensures w.found
    (c.export_rows.ensures ∙ ap (put a.out.now a.index) (xdr_bytes a.rows.now a.n a.store.now w.value w.table))
