-- Both loops' invariants: what is left from here decides the whole.
use Rattle.std.proofs.Common.{◌≡◌, ◌+◌, ◌-◌}
use Rattle.refusal.specs.Outcome.{bind}
use Rattle.tables.specs.Grammar.{node_count}
use Rattle.grammar.specs.Check.{check_children, check_nodes}
use Rattle.grammar.proofs.check_nodes.Given as goal

abbrev pub invariant-loop-j : goal.invariant-loop-j
invariant-loop-j l = bind (check_children l.words l.k (l.first + l.j) (l.j-end - l.j)) (λ _. check_nodes l.words (l.k + 1) (l.nodes - (l.k + 1))) ≡ check_nodes l.words 0 (node_count l.words)

abbrev pub invariant-loop-k : goal.invariant-loop-k
invariant-loop-k l = check_nodes l.words l.k (l.nodes - l.k) ≡ check_nodes l.words 0 (node_count l.words)
