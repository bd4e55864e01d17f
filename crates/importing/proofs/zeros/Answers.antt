use Rattle.std.proofs.Common.{sym, ◌∙◌}
use Rattle.importing.proofs.Laws.{zeros-next, zeros-not, zeros-none}
use Rattle.importing.proofs.zeros.Goals as goal

pub loop-b-preserved : goal.loop-b-preserved
loop-b-preserved c = c.loop-b.invariant ∙ zeros-next c.args.bytes.now c.loop-b.b-index c.loop-b-test.true c.if-b-ne0.false

pub returns-then-b-ne0 : goal.returns-then-b-ne0
returns-then-b-ne0 c = sym (c.loop-b.invariant ∙ zeros-not c.args.bytes.now c.loop-b.b-index c.loop-b-test.true c.if-b-ne0.true)

pub returns : goal.returns
returns c = sym (c.loop-b.invariant ∙ zeros-none c.args.bytes.now c.loop-b.b-index c.loop-b-test.false)
