-- The second walk's functions meet their contracts. A child's number is above its node's: the measure is what is left up to 256, twice
-- for a value, one more for elements, one less for fields.
use Rattle.std.proofs.Common.{◌+◌, ◌-◌, ◌*◌}
use Rattle.tables.specs.Grammar.{first_word, count_word}
use Rattle.grammar.specs.Tree.{tree_of, child_trees}
use Rattle.sizing.specs.InGrammar.{check_all_in_grammar, check_each_in_grammar}
use Rattle.sizing.specs.Checks.{StandingAll}
use Rattle.sizing.proofs.Walk.{Left}
use Rattle.sizing.proofs.+in_grammar_checks.Given as goal

abbrev pub decreases-check_all_in_grammar : goal.decreases-check_all_in_grammar
decreases-check_all_in_grammar l = 2 * (256 - l.node) + 1

abbrev pub decreases-check_each_in_grammar : goal.decreases-check_each_in_grammar
decreases-check_each_in_grammar l = 2 * (255 - l.node) + 1

abbrev pub decreases-check_in_grammar : goal.decreases-check_in_grammar
decreases-check_in_grammar l = 2 * (256 - l.node)

abbrev pub invariant-check_all_in_grammar-loop : goal.invariant-check_all_in_grammar-loop
invariant-check_all_in_grammar-loop l =
    let left = l.count - l.counter in
    let g = tree_of l.grammar l.node in
    StandingAll l.rows left l.i × Left l.rows l.count l.row (λ vs. check_all_in_grammar vs g l.row) left l.i (λ vs. check_all_in_grammar vs g l.i)

abbrev pub invariant-check_each_in_grammar-loop-k : goal.invariant-check_each_in_grammar-loop-k
invariant-check_each_in_grammar-loop-k l =
    let n = count_word l.grammar l.node in
    let f = first_word l.grammar l.node in
    let trees = child_trees l.grammar (tree_of l.grammar) in
    StandingAll l.rows (n - l.k) l.i × Left l.rows n l.row (λ vs. check_each_in_grammar vs (trees f n) l.row) (n - l.k) l.i (λ vs. check_each_in_grammar vs (trees (f + l.k) (n - l.k)) l.i)
