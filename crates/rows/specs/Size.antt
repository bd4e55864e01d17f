-- The bytes of a row by itself, what the rows come to, and the sizes that the rows of children say.
use Rattle.std.specs.Prelude.{◌≡◌, ℕ, zero, suc, ◌+◌, ◌*◌, ◌≤◌, List, [], ◌++◌, take, drop}
use Rattle.refusal.specs.Outcome.{Outcome, accepted, refused, map, Reason}
use Rattle.packed.specs.Packed.{pack_little_endian}
use Rattle.value.specs.Kinds.{width, element_width, Kind, kind_of, constant, number, array, tuple, elements, union, other}
use Rattle.value.specs.Tree.{Vals, SizeOfV}
use Rattle.tables.specs.Row.{Row, row_at}
use Rattle.rows.specs.Walk.{walk_children, walk_row, walk}

-- what `compute_size_of` answers: the walk's refusal, or GM's `SizeOfV` of the value
abbrev pub compute_size_of : List ℕ → ℕ → List ℕ → Outcome Reason ℕ
compute_size_of t n s = map SizeOfV (walk t n s)

-- a size, if there is one, is not above a bound
abbrev pub AtMost : ℕ → Outcome Reason ℕ → Type 0
AtMost bound (accepted size) = size ≤ bound
AtMost bound (refused e) = Unit {0}

-- the bytes that a row adds to its value's, without its children's, by the byte rule
unfoldable pub own_bytes : Kind → Row → List ℕ → List ℕ
own_bytes constant r s = []
own_bytes (number k) r s = pack_little_endian (width k) r.word2
own_bytes array r s = pack_little_endian 8 r.word2
own_bytes tuple r s = []
own_bytes (elements k) r s = pack_little_endian 8 r.word2 ++ take (element_width k * r.word2) (drop r.word3 s)
own_bytes union r s = pack_little_endian 8 r.word2
own_bytes other r s = []

-- how many they are
abbrev pub own_size : Kind → Row → ℕ
own_size constant r = 0
own_size (number k) r = width k
own_size array r = 8
own_size tuple r = 0
own_size (elements k) r = 8 + element_width k * r.word2
own_size union r = 8
own_size other r = 0

-- the most they can be: a count, and all of the largest store
abbrev pub most_own_size : ℕ
most_own_size = 8 + 1048576

-- ---- all rows, by any rule `own` for a row's own bytes, given the store where its array lies, and any rule `size` for how many they are

-- what a rule says of row i, by its kind and words
abbrev pub of_row : {A : Type 0} → (Kind → Row → A) → List ℕ → ℕ → A
of_row f t i = f (kind_of (row_at t i).kind) (row_at t i)

-- the own bytes of row i
abbrev pub own_at : (Kind → Row → List ℕ → List ℕ) → List ℕ → List ℕ → ℕ → List ℕ
own_at own t s i = of_row (λ k r. own k r s) t i

-- the own bytes of n rows from row i on, one behind the other
unfoldable pub own_from : (Kind → Row → List ℕ → List ℕ) → List ℕ → List ℕ → ℕ → ℕ → List ℕ
own_from own t s i zero = []
own_from own t s i (suc n) = own_at own t s i ++ own_from own t s (suc i) n

-- their own sizes, added up
unfoldable pub sum_from : (Kind → Row → ℕ) → List ℕ → ℕ → ℕ → ℕ
sum_from size t i zero = 0
sum_from size t i (suc n) = of_row size t i + sum_from size t (suc i) n

-- the same by the byte rule
abbrev pub own_bytes_at : List ℕ → List ℕ → ℕ → List ℕ
own_bytes_at t s i = own_at own_bytes t s i

abbrev pub bytes_from : List ℕ → List ℕ → ℕ → ℕ → List ℕ
bytes_from t s i n = own_from own_bytes t s i n

abbrev pub own_size_at : List ℕ → ℕ → ℕ
own_size_at t i = of_row own_size t i

abbrev pub size_from : List ℕ → ℕ → ℕ → ℕ
size_from t i n = sum_from own_size t i n

-- ---- children, as their rows say

-- the fifth words of so many children from row i on, each behind the rows of the one before, added up
unfoldable pub child_sizes : List ℕ → ℕ → ℕ → ℕ
child_sizes t zero i = 0
child_sizes t (suc count) i = (row_at t i).size + child_sizes t count (i + (row_at t i).span)

-- these children passed the walk, in some store and up to some end, and their sizes are those of 4,096 rows at most
pub record ChildrenHold (t : List ℕ) (count first : ℕ) : Type 0 where
  pub store : List ℕ
  pub parent : ℕ
  pub end : ℕ
  pub values : Vals
  pub few : end ≤ 4096
  pub reach : first ≤ end
  pub walked : walk_children t (walk_row t store end) parent end count first ≡ accepted values
  pub small : child_sizes t count first ≤ most_own_size * 4096
