use Rattle.std.proofs.Common.{◌∙◌}
use Rattle.std.proofs.lemmas.Result.{err_from_is_err_and}
use Rattle.value.specs.Tree.{SizeOfV}
use Rattle.sizing.specs.Writes.{value_in_grammar, value_to_write, marshall_val_of}
use Rattle.sizing.proofs.Writes.{size-fits, size_stops}
use Rattle.sizing.proofs.size_to_write.Goals as goal

pub returns-in_err-size : goal.returns-in_err-size
unfolding value_to_write marshall_val_of
returns-in_err-size c =
    let a = c.args in
    let p = err_from_is_err_and c.from_residual.result c.from_residual.ensures.1 in
    rw (p.1, p.2) (size_stops SizeOfV SizeOfV (value_in_grammar a.grammar.now a.rows.now a.n a.store.now) _ _ c.in_err-size.ensures.0)

pub returns : goal.returns
unfolding value_to_write marshall_val_of
returns c =
    let a = c.args in
    c.check_room.ensures ∙ size-fits SizeOfV a.len a.index (value_in_grammar a.grammar.now a.rows.now a.n a.store.now) c.in_ok-size.ensures.0
