use Rattle.std.proofs.Common.{ℕ, min, arith, ap, ◌∙◌}
use Rattle.readers.proofs.Root.{within_none, within-lent}
use Rattle.readers.proofs.capacity_within.Goals as goal

pub returns-then-words-eq0 : goal.returns-then-words-eq0
returns-then-words-eq0 c =
    let a = c.args in
    (c.in_force.ensures.0 ∙ within_none a.capacity a.words c.if-words-eq0.true, c.in_force.ensures.1, λ h. absurd (omega (arith, h, c.if-words-eq0.true)))

pub returns : goal.returns
returns c =
    let a = c.args in
    let k = c.capacity_of.ensures in
    (c.min.ensures ∙ ap (λ (m : ℕ). min a.capacity m) k.0 ∙ within-lent a.capacity a.words c.if-words-eq0.false, omega (arith, k.1), λ h. omega (arith, k.2))
