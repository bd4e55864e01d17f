-- Layouts and walks by computation.
use Rattle.std.proofs.Common.{◌≡◌, refl, List, [], ◌∷◌, ◌++◌, ℕ}
use Rattle.refusal.specs.Outcome.{Outcome, accepted, refused, Reason, reason, row}
use Rattle.packed.specs.Packed.{unpack_little_endian, unpack_little_endian_seq}
use Rattle.value.specs.Kinds.{kinds, kind_of}
use Rattle.value.specs.Tree.{Val, VTuple, VUint32, VByteArray, vnil, vcons, SizeOfV, row_count}
use Rattle.rows.specs.Layout.{own_row, rows_of}
use Rattle.rows.specs.Walk.{row_value, check_row, walk_children, check_size_word, walk_to, walk}

-- case A of document 01: the value, its record and its rows
abbrev value_a : Val
value_a = VTuple (vcons (VUint32 7) (vcons (VByteArray (65 ∷ 66 ∷ [])) vnil))

abbrev record_a : List ℕ
record_a = 7 ∷ 0 ∷ 0 ∷ 0 ∷ 2 ∷ 0 ∷ 0 ∷ 0 ∷ 0 ∷ 0 ∷ 0 ∷ 0 ∷ 65 ∷ 66 ∷ []

-- its rows, with these words: span, word 2 and size of row 0, the size of row 1, and kind, span, place and size of row 2
abbrev root : ℕ → ℕ → ℕ → List ℕ
root span count size = 4 ∷ span ∷ count ∷ 0 ∷ size ∷ []

abbrev field0 : ℕ → List ℕ
field0 size = 1 ∷ 1 ∷ 7 ∷ 0 ∷ size ∷ []

abbrev field1 : ℕ → ℕ → ℕ → ℕ → List ℕ
field1 kind span place size = kind ∷ span ∷ 2 ∷ place ∷ size ∷ []

abbrev walk_a : List ℕ → List ℕ → List ℕ → Outcome Reason Val
walk_a a b c = walk (a ++ (b ++ c)) 3 record_a

pub layout-A : rows_of value_a 0 ≡ root 3 2 14 ++ (field0 4 ++ field1 5 1 12 10)
unfolding rows_of own_row row_count SizeOfV
layout-A = refl

pub walk-A : walk_a (root 3 2 14) (field0 4) (field1 5 1 12 10) ≡ accepted value_a
unfolding walk walk_to walk_children check_row check_size_word row_value kind_of kinds SizeOfV unpack_little_endian unpack_little_endian_seq
walk-A = refl

-- a row that breaks the span's rule and lies outside the store: 13
pub span-first : walk_a (root 3 2 14) (field0 4) (field1 5 2 13 10) ≡ refused (reason 13 (row 2))
unfolding walk walk_to walk_children check_row check_size_word row_value kind_of kinds SizeOfV
span-first = refl

-- a row left over is not looked at: 13 at the parent, not 14 at row 2
pub left_over : walk_a (root 3 1 14) (field0 4) (field1 5 1 13 10) ≡ refused (reason 13 (row 0))
unfolding walk walk_to walk_children check_row check_size_word row_value kind_of kinds SizeOfV
left_over = refl

-- a child missing is found after the children that are there: 14 at row 2, not 13 at the parent
pub child_first : walk_a (root 3 18446744073709551615 14) (field0 4) (field1 5 1 13 10) ≡ refused (reason 14 (row 2))
unfolding walk walk_to walk_children check_row check_size_word row_value kind_of kinds SizeOfV
child_first = refl

-- ---- a wrong size: after the row's children, before the next row

pub size-of_the_root : walk_a (root 3 2 15) (field0 4) (field1 5 1 12 10) ≡ refused (reason 13 (row 0))
unfolding walk walk_to walk_children check_row check_size_word row_value kind_of kinds SizeOfV unpack_little_endian unpack_little_endian_seq
size-of_the_root = refl

pub size-of_a_field : walk_a (root 3 2 14) (field0 5) (field1 5 1 12 10) ≡ refused (reason 13 (row 1))
unfolding walk walk_to walk_children check_row check_size_word row_value kind_of kinds SizeOfV
size-of_a_field = refl

-- the root's is looked at after its fields
pub field-before-root : walk_a (root 3 2 15) (field0 5) (field1 5 1 12 10) ≡ refused (reason 13 (row 1))
unfolding walk walk_to walk_children check_row check_size_word row_value kind_of kinds SizeOfV
field-before-root = refl

-- a field's before the next field: not 13 at row 2 of kind 11
pub size-before-kind : walk_a (root 3 2 14) (field0 5) (field1 11 1 12 10) ≡ refused (reason 13 (row 1))
unfolding walk walk_to walk_children check_row check_size_word row_value kind_of kinds SizeOfV
size-before-kind = refl

-- nor 14 at row 2
pub size-before_place : walk_a (root 3 2 14) (field0 5) (field1 5 1 13 10) ≡ refused (reason 13 (row 1))
unfolding walk walk_to walk_children check_row check_size_word row_value kind_of kinds SizeOfV
size-before_place = refl

-- an array's 14 comes before its own size
pub place_before-size : walk_a (root 3 2 14) (field0 4) (field1 5 1 13 11) ≡ refused (reason 14 (row 2))
unfolding walk walk_to walk_children check_row check_size_word row_value kind_of kinds SizeOfV
place_before-size = refl

-- and before the root's
pub place_before-root : walk_a (root 3 2 15) (field0 4) (field1 5 1 13 10) ≡ refused (reason 14 (row 2))
unfolding walk walk_to walk_children check_row check_size_word row_value kind_of kinds SizeOfV
place_before-root = refl
