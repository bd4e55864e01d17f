use Rattle.std.proofs.Common.{◌≡◌, ◌^◌, ◌<◌, ap, sym, ◌∙◌, refl, w32, w64, arith, rules, SFits}
use Rattle.std.proofs.lemmas.Int.{to_z-of_z}
use Rattle.refusal.specs.Outcome.{accepted}
use Rattle.value.specs.Kinds.{number, int32, int64, kind_of}
use Rattle.tables.specs.Row.{row_at}
use Rattle.rows.proofs.Laws.{number-below}
use Rattle.signed.specs.Signed.{signed_of_row}
use Rattle.signed.proofs.Laws.{cast-signed}
use Rattle.signed.proofs.number_at.Goals as goal

pub returns-in-Some-Number-Int32 : goal.returns-in-Some-Number-Int32
unfolding signed_of_row
returns-in-Some-Number-Int32 c =
    let r = row_at c.args.rows.now c.args.row in
    let arm = c.in-Some-Number-Int32 in
    let p = c.word2_at-pattern.result in
    let e : kind_of r.kind ≡ number int32 = sym (rw (arm.field-0-is, arm.field-0-0-is, c.kind_at.ensures) at arm.ensures) in
    let h : p < 2 ^ 32 = omega (arith, c.word2_at-pattern.ensures, number-below int32 r (rw e at c.requires)) in
    let f : SFits w32 c.cast_signed.result = search rules in
    let g : SFits w64 c.from.result = search rules in
    rw e (ap accepted (to_z-of_z w64 c.from.result g ∙ c.from.ensures ∙ to_z-of_z w32 c.cast_signed.result f ∙ c.cast_signed.ensures ∙ cast-signed w32 4 refl p refl h ∙ rw c.word2_at-pattern.ensures))

pub returns-in-Some-Number-Int64 : goal.returns-in-Some-Number-Int64
unfolding signed_of_row
returns-in-Some-Number-Int64 c =
    let r = row_at c.args.rows.now c.args.row in
    let arm = c.in-Some-Number-Int64 in
    let call = c.cast_signed-in-Some-Number-Int64 in
    let p = c.word2_at-pattern.result in
    let e : kind_of r.kind ≡ number int64 = sym (rw (arm.field-0-is, arm.field-0-0-is, c.kind_at.ensures) at arm.ensures) in
    let f : SFits w64 call.result = search rules in
    rw e (ap accepted (to_z-of_z w64 call.result f ∙ call.ensures ∙ cast-signed w64 8 refl p refl (omega arith) ∙ rw c.word2_at-pattern.ensures))
