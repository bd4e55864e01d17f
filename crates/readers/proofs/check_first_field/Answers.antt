use Rattle.std.proofs.Common.{refl}
use Rattle.std.proofs.lemmas.Result.{err_from_is_err_and}
use Rattle.readers.proofs.FirstField.{field_stopped, field_admitted, field-read}
use Rattle.readers.proofs.check_first_field.Goals as goal

pub returns-in_err-end : goal.returns-in_err-end
returns-in_err-end c =
    let a = c.args in
    let p = err_from_is_err_and c.from_residual.result c.from_residual.ensures.1 in
    rw (p.1, p.2) (field_stopped a.grammar.now a.«record».now a.capacity c.in_err-end.ensures c.in_err-end.field-0.0 refl)

pub read_first_field-requires : goal.read_first_field-requires
read_first_field-requires c =
    let a = c.args in
    field_admitted a.grammar.now a.«record».now a.capacity c.in_ok-end.ensures c.in_ok-end.end refl (λ j l. (c.type_inv.grammar j).fits) (λ j. (c.type_inv.record j).fits)

pub returns : goal.returns
returns c =
    let a = c.args in
    field-read a.grammar.now a.«record».now a.capacity c.in_ok-end.ensures c.in_ok-end.end refl c.read_first_field.ensures
