use Rattle.std.proofs.Common.{◌∙◌}
use Rattle.std.proofs.lemmas.Result.{err_from_is_err_and}
use Rattle.value.specs.Tree.{SizeOfV}
use Rattle.sizing.specs.Writes.{value_in_grammar}
use Rattle.sizing.proofs.Writes.{size-fits, size_stops}
use Rattle.xdr.specs.Xdr.{xdr_size}
use Rattle.exporting.specs.Export.{value_to_export, export_of}
use Rattle.exporting.proofs.Own.{xdr_small}
use Rattle.exporting.proofs.Exporting.{Tabled, valued, valued_size}
use Rattle.exporting.proofs.size_to_export.Goals as goal
use Rattle.exporting.proofs.size_to_export.Goals.{In_ok-size_in_grammar}

-- behind the record's size
found : (c : In_ok-size_in_grammar) → let a = c.args in Tabled (value_in_grammar a.grammar.now a.rows.now a.n a.store.now) a.rows.now a.n a.store.now
found c =
    let a = c.args in
    valued a.grammar.now a.rows.now a.n a.store.now (λ j _. (c.type_inv.rows j).fits) (λ j. (c.type_inv.store j).fits) c.in_ok-size_in_grammar.ensures.0

pub sum_sizes-requires : goal.sum_sizes-requires
sum_sizes-requires c =
    let a = c.args in
    let h = found (goal.at.sum_sizes-requires c).In_ok-size_in_grammar in
    (h.table.few, xdr_small a.rows.now a.n a.store.now h.value h.table)

pub returns-in_err-size_in_grammar : goal.returns-in_err-size_in_grammar
unfolding value_to_export export_of
returns-in_err-size_in_grammar c =
    let a = c.args in
    let p = err_from_is_err_and c.from_residual.result c.from_residual.ensures.1 in
    rw (p.1, p.2) (size_stops xdr_size SizeOfV (value_in_grammar a.grammar.now a.rows.now a.n a.store.now) _ _ c.in_err-size_in_grammar.ensures.0)

pub returns : goal.returns
unfolding value_to_export export_of
returns c =
    let a = c.args in
    let h = valued_size a.grammar.now a.rows.now a.n a.store.now (found (goal.at.returns c).In_ok-size_in_grammar) c.sum_sizes.ensures in
    c.check_room.ensures ∙ size-fits xdr_size a.len a.index (value_in_grammar a.grammar.now a.rows.now a.n a.store.now) h
