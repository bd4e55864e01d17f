use Rattle.std.proofs.Common.{◌∙◌, arith}
use Rattle.grammar.proofs.Laws.{node-accepted}
use Rattle.grammar.proofs.check_nodes.Goals as goal

pub loop-j-init : goal.loop-j-init
loop-j-init c =
    node-accepted c.args.words.now c.word-nodes.result c.loop-k.k c.loop-k-test.true (omega arith) (omega arith) c.in_ok-check_node.ensures ∙ c.loop-k.invariant
