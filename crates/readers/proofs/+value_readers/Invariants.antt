-- The readers of the cycle meet their contracts. The measure is the rows still free: three times for a value, two more for an array,
-- a tuple or a case, one more for contents.
use Prim.Native.Nat.{◌+◌, ◌-◌, ◌*◌, ◌≤◌}
use Rattle.value.specs.Step.{elements}
use Rattle.value.specs.Reading.{read_val, read_fields}
use Rattle.tables.specs.Grammar.{first_word, count_word, child_word}
use Rattle.grammar.specs.Tree.{tree_of, child_trees}
use Rattle.readers.specs.Meaning.{state_of}
use Rattle.readers.proofs.Loop.{Remaining}
use Rattle.readers.proofs.+value_readers.Given as goal

abbrev pub decreases-read_array : goal.decreases-read_array
decreases-read_array l = 3 * (l.s.capacity - l.s.begun) + 2

abbrev pub decreases-read_array_contents : goal.decreases-read_array_contents
decreases-read_array_contents l = 3 * (l.s.capacity - l.s.begun) + 1

abbrev pub decreases-read_case : goal.decreases-read_case
decreases-read_case l = 3 * (l.s.capacity - l.s.begun) + 2

abbrev pub decreases-read_tuple : goal.decreases-read_tuple
decreases-read_tuple l = 3 * (l.s.capacity - l.s.begun) + 2

abbrev pub decreases-read_tuple_contents : goal.decreases-read_tuple_contents
decreases-read_tuple_contents l = 3 * (l.s.capacity - l.s.begun) + 1

abbrev pub decreases-read_value : goal.decreases-read_value
decreases-read_value l = 3 * (l.s.capacity - l.s.begun)

abbrev pub invariant-read_array_contents-loop : goal.invariant-read_array_contents-loop
invariant-read_array_contents-loop l =
    let element = read_val l.initial.t.capacity l.bytes (tree_of l.grammar (child_word l.grammar (first_word l.grammar l.node + 0))) in
    Remaining l.bytes l.initial.rows l.initial.t (elements l.count element (state_of l.initial.t)) l.rows l.t (elements (l.count - l.counter) element (state_of l.t))

abbrev pub invariant-read_tuple_contents-loop-i : goal.invariant-read_tuple_contents-loop-i
invariant-read_tuple_contents-loop-i l = (l.i ≤ count_word l.grammar l.node) × Remaining l.bytes l.initial.rows l.initial.t (read_fields l.initial.t.capacity l.bytes (child_trees l.grammar (tree_of l.grammar) (first_word l.grammar l.node) (count_word l.grammar l.node)) (state_of l.initial.t)) l.rows l.t (read_fields l.initial.t.capacity l.bytes (child_trees l.grammar (tree_of l.grammar) (first_word l.grammar l.node + l.i) (count_word l.grammar l.node - l.i)) (state_of l.t))
