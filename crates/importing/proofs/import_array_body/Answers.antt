use Rattle.std.proofs.Common.{◌≡◌, ℕ, ◌+◌, ◌-◌, take, drop, arith, ap, ◌∙◌, one-mul}
use Rattle.std.proofs.lemmas.Result.{err_from_is_err_and}
use Rattle.xdr.specs.Xdr.{padding}
use Rattle.xdr.specs.Import.{zeros}
use Rattle.xdr.proofs.Sizes.{padding-few}
use Rattle.xdr.proofs.AtArray.{body_missing, body_room, body_zeros}
use Rattle.importing.proofs.import_array_body.Goals as goal

pub overflow_add-end : goal.overflow_add-end
overflow_add-end c = omega (arith, padding-few c.args.size, c.padding.ensures)

pub returns-then-part-end : goal.returns-then-part-end
returns-then-part-end c =
    let a = c.args in
    rw c.at_byte.ensures (body_missing a.room a.used a.size a.part.now a.start (omega (arith, c.padding.ensures, c.if-part-end.true)))

pub returns-in_err-room : goal.returns-in_err-room
returns-in_err-room c =
    let a = c.args in
    let p = err_from_is_err_and c.from_residual.result c.from_residual.ensures.1 in
    rw (p.1, p.2) (body_room a.room a.used a.size a.part.now a.start (omega (arith, c.padding.ensures, c.if-part-end.false)) (rw one-mul at c.in_err-room.ensures))

pub returns : goal.returns
returns c =
    let a = c.args in
    let p = c.padding.ensures in
    let n : a.size + c.padding.result - a.size ≡ padding a.size = omega (arith, p) in
    rw (c.accept_if.ensures, c.at_byte-2.ensures)
    (body_zeros a.room a.used a.size a.part.now a.start (omega (arith, p, c.if-part-end.false)) (rw one-mul at c.in_ok-room.ensures)
    (c.zeros.ensures ∙ ap (λ (m : ℕ). zeros (take m (drop a.size a.part.now))) n))
