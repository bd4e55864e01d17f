-- The bench examples, by computation.
use Rattle.std.proofs.Common.{refl}
use Rattle.packed.specs.Packed.{unpack_little_endian, unpack_little_endian_seq}
use Rattle.value.specs.Kinds.{kinds, kind_of}
use Rattle.value.specs.Tree.{SizeOfV, row_count}
use Rattle.value.specs.Signed.{signed_of, pattern_of}
use Rattle.value.specs.Step.{elements}
use Rattle.value.specs.Reading.{claim, take_number, take_numbers, read_body, read_at, read_whole}
use Rattle.grammar.specs.Check.{check_layout, check_node, check_children, check_nodes, check_grammar}
use Rattle.grammar.specs.Tree.{node_tree, child_trees, tree_to, tree_of}
use Rattle.rows.specs.Layout.{own_row, rows_of}
use Rattle.rows.specs.Walk.{row_value, check_row, walk_children, check_size_word, walk_to, walk}
use Rattle.rows.specs.Locate.{look_up}
use Rattle.signed.specs.Signed.{signed_of_row, signed_number_of}
use Rattle.reading.specs.Calls.{parse_val_of, demarshall_of}
use Rattle.route.specs.Bench.{constant_nodes, BenchHolds}

pub bench-holds : BenchHolds
unfolding parse_val_of demarshall_of check_grammar check_layout check_nodes check_node check_children tree_of tree_to node_tree child_trees kind_of kinds read_at read_whole claim take_number take_numbers read_body elements unpack_little_endian unpack_little_endian_seq rows_of own_row row_count SizeOfV constant_nodes signed_number_of look_up walk walk_to walk_children check_row check_size_word row_value signed_of_row signed_of pattern_of
bench-holds = refl
