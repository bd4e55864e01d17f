-- The examples, by computation.
use Rattle.std.proofs.Common.{refl}
use Rattle.packed.specs.Packed.{unpack_little_endian, unpack_little_endian_seq}
use Rattle.value.specs.Kinds.{kinds, kind_of}
use Rattle.value.specs.Step.{elements}
use Rattle.value.specs.Reading.{claim, take_number, take_numbers, read_body, read_whole}
use Rattle.value.specs.Least.{add_least, min_least, least, below_least}
use Rattle.grammar.specs.Check.{check_layout, check_node, check_children, check_nodes, check_grammar}
use Rattle.grammar.specs.Tree.{node_tree, child_trees, tree_to, tree_of}
use Rattle.accepting.specs.Accepts.{accepts_of}
use Rattle.accepting.specs.Examples.{LengthsHold, ExamplesHold}

pub lengths_hold : LengthsHold
unfolding least add_least min_least tree_of tree_to node_tree child_trees kind_of kinds
lengths_hold = refl

pub examples_hold : ExamplesHold
unfolding accepts_of least add_least min_least below_least check_grammar check_layout check_nodes check_node check_children tree_of tree_to node_tree child_trees kind_of kinds read_whole claim take_number take_numbers read_body elements unpack_little_endian unpack_little_endian_seq
examples_hold = refl
