-- Texts by computation: case A of document 01 and without its last byte, and inputs that are not laid out.
use Rattle.std.proofs.Common.{◌≡◌, refl, List, [], ◌∷◌, ◌++◌, map, ℕ, take}
use Rattle.packed.specs.Packed.{unpack_little_endian, unpack_little_endian_seq, pack_little_endian, pack_little_endian_seq}
use Rattle.value.specs.Kinds.{kinds, kind_of}
use Rattle.value.specs.Tree.{SizeOfV, row_count}
use Rattle.value.specs.Step.{elements}
use Rattle.value.specs.Reading.{claim, take_number, take_numbers, read_whole, read_body}
use Rattle.grammar.specs.Check.{check_layout, check_node, check_children, check_nodes, check_grammar}
use Rattle.grammar.specs.Tree.{node_tree, child_trees, tree_to, tree_of}
use Rattle.rows.specs.Layout.{own_row, rows_of}
use Rattle.reading.specs.Calls.{demarshall_of}
use Rattle.text.specs.Digits.{digits_within, digits}
use Rattle.text.specs.Text.{lines_of}
use Rattle.input.specs.Input.{count_at, record_after, layout_of}
use Rattle.text.specs.Show.{read_input, shown}

abbrev grammar_a : List ℕ
grammar_a = 3 ∷ 4 ∷ 0 ∷ 2 ∷ 1 ∷ 0 ∷ 0 ∷ 5 ∷ 0 ∷ 0 ∷ 2 ∷ 1 ∷ 2 ∷ []

abbrev record_a : List ℕ
record_a = 7 ∷ 0 ∷ 0 ∷ 0 ∷ 2 ∷ 0 ∷ 0 ∷ 0 ∷ 0 ∷ 0 ∷ 0 ∷ 0 ∷ 65 ∷ 66 ∷ []

-- an input: the counts, and behind them the grammar of case A and the first bytes of its record
abbrev input_a : ℕ → ℕ → List ℕ
input_a words size = pack_little_endian 4 words ++ (pack_little_endian_seq 4 grammar_a ++ (pack_little_endian 4 size ++ take size record_a))

-- as document 01 prints them, with request 10's size last; without its last byte `refused 9 byte 4`, and with a word count of 14 `refused 19 byte 74`
pub texts : map (λ input. shown (read_input input)) (input_a 13 14 ∷ input_a 13 13 ∷ input_a 14 14 ∷ []) ≡
    (114 ∷ 111 ∷ 119 ∷ 115 ∷ 32 ∷ 51 ∷ 10 ∷ 52 ∷ 32 ∷ 51 ∷ 32 ∷ 50 ∷ 32 ∷ 48 ∷ 32 ∷ 49 ∷ 52 ∷ 10 ∷ 49 ∷ 32 ∷ 49 ∷ 32 ∷ 55 ∷ 32 ∷ 48 ∷ 32 ∷ 52 ∷ 10 ∷ 53 ∷ 32 ∷ 49 ∷ 32 ∷ 50 ∷ 32 ∷ 49 ∷ 50 ∷ 32 ∷ 49 ∷ 48 ∷ 10 ∷ [])
    ∷ (114 ∷ 101 ∷ 102 ∷ 117 ∷ 115 ∷ 101 ∷ 100 ∷ 32 ∷ 57 ∷ 32 ∷ 98 ∷ 121 ∷ 116 ∷ 101 ∷ 32 ∷ 52 ∷ 10 ∷ [])
    ∷ (114 ∷ 101 ∷ 102 ∷ 117 ∷ 115 ∷ 101 ∷ 100 ∷ 32 ∷ 49 ∷ 57 ∷ 32 ∷ 98 ∷ 121 ∷ 116 ∷ 101 ∷ 32 ∷ 55 ∷ 52 ∷ 10 ∷ [])
    ∷ []
unfolding shown lines_of digits digits_within read_input layout_of count_at record_after unpack_little_endian unpack_little_endian_seq pack_little_endian pack_little_endian_seq demarshall_of check_grammar check_layout check_nodes check_node check_children kind_of kinds tree_of tree_to child_trees node_tree read_whole read_body claim take_number take_numbers elements rows_of own_row row_count SizeOfV
texts = refl
