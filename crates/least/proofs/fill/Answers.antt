use Rattle.least.proofs.Laws.{filled_none}
use Rattle.least.proofs.fill.Goals as goal

pub loop-k-init : goal.loop-k-init
loop-k-init c = filled_none c.args.grammar.now c.word-k.result c.word-k.ensures.0
