-- The examples, by computation.
use Rattle.std.proofs.Common.{refl}
use Rattle.packed.specs.Packed.{unpack_little_endian, unpack_little_endian_seq, pack_little_endian, room, put}
use Rattle.big_endian.specs.BigEndian.{pack_big_endian, pack_big_endian_seq}
use Rattle.value.specs.Kinds.{kinds, kind_of}
use Rattle.value.specs.Tree.{SizeOfV, row_count}
use Rattle.grammar.specs.Check.{check_layout, check_node, check_children, check_nodes, check_grammar}
use Rattle.grammar.specs.Tree.{node_tree, child_trees, tree_to, tree_of}
use Rattle.rows.specs.Walk.{row_value, check_row, walk_children, check_size_word, walk_to, walk}
use Rattle.sizing.specs.InGrammar.{check_in_grammar}
use Rattle.sizing.specs.Writes.{value_in_grammar}
use Rattle.xdr.specs.Xdr.{padding, padded, xdr_of}
use Rattle.exporting.specs.Export.{value_to_export, export_of}
use Rattle.exporting.specs.Examples.{ExamplesHold}

pub examples_hold : ExamplesHold
unfolding export_of value_to_export value_in_grammar check_in_grammar check_grammar check_layout check_nodes check_node check_children tree_of tree_to node_tree child_trees walk walk_to walk_children check_row check_size_word row_value kind_of kinds unpack_little_endian unpack_little_endian_seq pack_little_endian pack_big_endian pack_big_endian_seq room put SizeOfV row_count padding padded xdr_of
examples_hold = refl
