-- The kinds, by classes, and what tells the kinds of a class apart: number and width. Definitions that go by width take it from here.
use Rattle.std.specs.Prelude.{List, [], ◌∷◌, ℕ, get_or}

-- the kinds of one number; a signed one is held as its unsigned bit pattern (`Signed`)
pub data Number : Type 0 where
  uint32 : Number
  uint64 : Number
  int32 : Number
  int64 : Number

-- the bytes of the number
abbrev pub width : Number → ℕ
width uint32 = 4
width uint64 = 8
width int32 = 4
width int64 = 8

abbrev pub number_kind : Number → ℕ
number_kind uint32 = 1
number_kind uint64 = 2
number_kind int32 = 9
number_kind int64 = 10

-- the kinds of numbers of one width behind their count
pub data Elements : Type 0 where
  bytes : Elements
  uint32s : Elements
  uint64s : Elements

-- the bytes of each number
abbrev pub element_width : Elements → ℕ
element_width bytes = 1
element_width uint32s = 4
element_width uint64s = 8

abbrev pub elements_kind : Elements → ℕ
elements_kind bytes = 5
elements_kind uint32s = 6
elements_kind uint64s = 7

-- the classes; `other` is every kind word that the papers do not name
pub data Kind : Type 0 where
  constant : Kind
  number : Number → Kind
  array : Kind
  tuple : Kind
  elements : Elements → Kind
  union : Kind
  other : Kind

-- kinds 0 to 10, in order
unfoldable pub kinds : List Kind
kinds = constant ∷ number uint32 ∷ number uint64 ∷ array ∷ tuple ∷ elements bytes ∷ elements uint32s ∷ elements uint64s ∷ union ∷ number int32 ∷ number int64 ∷ []

-- the last of them
abbrev pub last_kind : ℕ
last_kind = 10

-- a kind word by value, 0 to 10 and all above
unfoldable pub kind_of : ℕ → Kind
kind_of word = get_or kinds word other
