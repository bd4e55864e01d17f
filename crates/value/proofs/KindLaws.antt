-- The tables of kinds agree.
use Rattle.std.proofs.Common.{◌≡◌, refl, Bool, ◌||◌, ℕ, suc, ◌≤◌, ◌<◌, length, eqb, lit<, lit≤}
use Rattle.std.proofs.Math.ListN.{get_or-eq_default}
use Rattle.value.specs.Kinds.{Number, uint32, uint64, int32, int64, width, number_kind, Elements, bytes, uint32s, uint64s, element_width, elements_kind, kinds, last_kind, kind_of, constant, number, array, tuple, elements, union, other}

pub number-kind : (k : Number) → kind_of (number_kind k) ≡ number k
unfolding kind_of kinds
number-kind uint32 = refl
number-kind uint64 = refl
number-kind int32 = refl
number-kind int64 = refl

pub elements-kind : (k : Elements) → kind_of (elements_kind k) ≡ elements k
unfolding kind_of kinds
elements-kind bytes = refl
elements-kind uint32s = refl
elements-kind uint64s = refl

pub other-kinds : (kind_of 0 ≡ constant) × (kind_of 3 ≡ array) × (kind_of 4 ≡ tuple) × (kind_of 8 ≡ union)
unfolding kind_of kinds
other-kinds = (refl, refl, refl, refl)

pub width_positive : (k : Number) → 0 < width k
width_positive uint32 = lit< tt
width_positive uint64 = lit< tt
width_positive int32 = lit< tt
width_positive int64 = lit< tt

pub width-most : (k : Number) → width k ≤ 8
width-most uint32 = lit≤ tt
width-most uint64 = lit≤ tt
width-most int32 = lit≤ tt
width-most int64 = lit≤ tt

pub element_width_positive : (k : Elements) → 0 < element_width k
element_width_positive bytes = lit< tt
element_width_positive uint32s = lit< tt
element_width_positive uint64s = lit< tt

-- the kind words that have children
abbrev pub is_parent : ℕ → Bool
is_parent word = eqb word 3 || (eqb word 4 || eqb word 8)

-- the table has the kind words 0 to `last_kind`
pub kinds-length : length kinds ≡ suc last_kind
unfolding kinds
kinds-length = refl

-- every kind word above the table's
pub kind-other : (word : ℕ) → length kinds ≤ word → kind_of word ≡ other
unfolding kind_of
kind-other word h = get_or-eq_default kinds other h
