-- The examples, by computation.
use mathlib.Core.Path.{refl}
use Rattle.packed.specs.Packed.{unpack_little_endian, pack_little_endian, pack_little_endian_seq, room, put}
use Rattle.big_endian.specs.BigEndian.{unpack_big_endian, unpack_big_endian_seq}
use Rattle.value.specs.Kinds.{kinds, kind_of}
use Rattle.value.specs.Tree.{SizeOfV, row_count}
use Rattle.value.specs.Step.{elements}
use Rattle.grammar.specs.Check.{check_layout, check_node, check_children, check_nodes, check_grammar}
use Rattle.grammar.specs.Tree.{node_tree, child_trees, tree_to, tree_of}
use Rattle.rows.specs.Layout.{own_row}
use Rattle.xdr.specs.Xdr.{padding, store_of, rows_in}
use Rattle.xdr.specs.Import.{zeros, claim, take_number, check_body, take_numbers, import_body, import_whole}
use Rattle.importing.specs.Calls.{admit_of, import_of}
use Rattle.importing.specs.Examples.{ExamplesHold}

pub examples_hold : ExamplesHold
unfolding import_of admit_of check_grammar check_layout check_nodes check_node check_children tree_of tree_to node_tree child_trees kind_of kinds import_whole import_body claim take_number take_numbers check_body zeros elements unpack_big_endian unpack_big_endian_seq unpack_little_endian padding room put rows_in own_row row_count SizeOfV store_of pack_little_endian pack_little_endian_seq
examples_hold = (refl, refl)
