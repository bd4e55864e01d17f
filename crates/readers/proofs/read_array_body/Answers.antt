use mathlib.Core.Path.{sym, ap, ◌∙◌}
use native.Mathlib.Omega.{arith}
use borrow.Author.Tests.{le-leb, lt-leb}
use Rattle.refusal.specs.Outcome.{refused}
use Rattle.refusal.proofs.Outcome.{test-true, test-false}
use Rattle.value.proofs.Laws.{count_fits}
use Rattle.readers.proofs.read_array_body.Goals as goal

pub returns-then-left-width : goal.returns-then-left-width
returns-then-left-width c = ap refused c.at_byte.ensures ∙ sym (test-false _ _ (lt-leb _ _ c.if-left-width.true))

pub overflow_mul-result : goal.overflow_mul-result
overflow_mul-result c =
    let h = (count_fits c.requires.0).0 c.if-left-width.false in
    omega (arith, h, c.well_formed.0.0)

pub returns : goal.returns
returns c = sym (test-true _ _ (le-leb _ _ c.if-left-width.false))
