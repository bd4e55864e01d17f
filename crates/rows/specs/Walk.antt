-- The walk over a row table: the value that the rows stand for, or the first refusal in document 01's order, with
-- document 02's test of a row's size behind its children. Defined on every input.
use Rattle.std.specs.Prelude.{ℕ, zero, suc, ◌+◌, ◌-◌, ◌*◌, ◌^◌, Bool, true, false, ◌&&◌, List, length, take, drop, leb, ltb, eqb}
use Rattle.refusal.specs.Outcome.{Outcome, accepted, refused, bind, test, map, Reason, reason, byte, row}
use Rattle.packed.specs.Packed.{unpack_little_endian_seq}
use Rattle.value.specs.Kinds.{width, element_width, Kind, kind_of, constant, number, array, tuple, elements, union, other}
use Rattle.value.specs.Tree.{Val, Vals, VConstant, VNumber, VArray, VTuple, VNumberArray, VCase, vnil, vcons, SizeOfV}
use Rattle.tables.specs.Row.{row_width, Row, row_at}

-- a row's words by its kind: no children, so span 1; a number's limit, which every word keeps at width 8; unused words 0
abbrev pub keeps_rule : Kind → Row → Bool
keeps_rule constant r = eqb r.span 1 && (eqb r.word2 0 && eqb r.word3 0)
keeps_rule (number k) r = eqb r.span 1 && (ltb r.word2 (256 ^ width k) && eqb r.word3 0)
keeps_rule array r = eqb r.word3 0
keeps_rule tuple r = eqb r.word3 0
keeps_rule (elements k) r = eqb r.span 1
keeps_rule union r = eqb r.word3 0
keeps_rule other r = false

-- an array's elements within a store of so many bytes, count 0 too
abbrev pub within_store : Kind → Row → ℕ → Bool
within_store constant r len = true
within_store (number k) r len = true
within_store array r len = true
within_store tuple r len = true
within_store (elements k) r len = leb (r.word3 + element_width k * r.word2) len
within_store union r len = true
within_store other r len = true

-- the children that a row wants
abbrev pub child_count : Kind → Row → ℕ
child_count constant r = 0
child_count (number k) r = 0
child_count array r = r.word2
child_count tuple r = r.word2
child_count (elements k) r = 0
child_count union r = 1
child_count other r = 0

-- the first of some values, for a case, which has one
abbrev pub only_child : Vals → Val
only_child vnil = VConstant
only_child (vcons v vs) = v

-- the value of a row, by its children's values
unfoldable pub row_value : Kind → Row → List ℕ → Vals → Val
row_value constant r s vs = VConstant
row_value (number k) r s vs = VNumber k r.word2
row_value array r s vs = VArray vs
row_value tuple r s vs = VTuple vs
row_value (elements k) r s vs = VNumberArray k (unpack_little_endian_seq (element_width k) (take (element_width k * r.word2) (drop r.word3 s)) r.word2)
row_value union r s vs = VCase r.word2 (only_child vs)
row_value other r s vs = VConstant

-- row i by itself, which may reach to `end`, with a store of so many bytes: 13, then 14, else the children that it wants
unfoldable pub check_row : Row → ℕ → ℕ → ℕ → Outcome Reason ℕ
check_row r len i end =
    test (leb 1 r.span && (leb (i + r.span) end && keeps_rule (kind_of r.kind) r)) (reason 13 (row i))
    (λ _. test (within_store (kind_of r.kind) r len) (reason 14 (row i))
    (λ _. accepted (child_count (kind_of r.kind) r)))

-- the children that row `parent` wants, from row i on, where `walk` walks one. They are to fill the rows up to `end`: a child missing
-- or rows left over, which are not walked, is 13 at the parent
unfoldable pub walk_children : List ℕ → (ℕ → Outcome Reason Val) → ℕ → ℕ → ℕ → ℕ → Outcome Reason Vals
walk_children t walk parent end zero i = test (eqb i end) (reason 13 (row parent)) (λ _. accepted vnil)
walk_children t walk parent end (suc count) i =
    test (ltb i end) (reason 13 (row parent))
    (λ _. bind (walk i) (λ v. map (vcons v) (walk_children t walk parent end count (i + (row_at t i).span))))

-- row i as a whole, whose value its children have given: 13 where its fifth word is not the value's size
unfoldable pub check_size_word : Row → ℕ → Val → Outcome Reason Val
check_size_word r i v = test (eqb r.size (SizeOfV v)) (reason 13 (row i)) (λ _. accepted v)

module _ (t s : List ℕ) where
  -- row i, which may reach to `end`, and what is in it down to a depth: the row by itself, its children, its size
  unfoldable pub walk_to : ℕ → ℕ → ℕ → Outcome Reason Val
  walk_to zero end i = refused (reason 13 (row i))
  walk_to (suc depth) end i =
      bind (check_row (row_at t i) (length s) i end) (λ count.
      bind (walk_children t (walk_to depth (i + (row_at t i).span)) i (i + (row_at t i).span) count (suc i)) (λ vs.
      check_size_word (row_at t i) i (row_value (kind_of (row_at t i).kind) (row_at t i) s vs)))

  -- row i, which may reach to `end`. A child is behind its parent, so `end - i` levels are all there are (`walk_depth` of proofs/)
  abbrev pub walk_row : ℕ → ℕ → Outcome Reason Val
  walk_row end i = walk_to (end - i) end i

-- n from 1 to 4,096, and the words of the rows there
abbrev pub count_holds : List ℕ → ℕ → Bool
count_holds t n = ltb 0 n && (leb n 4096 && leb (row_width * n) (length t))

-- n rows with a store: 6, 12, then the walk from the root, which reaches to n exactly
unfoldable pub walk : List ℕ → ℕ → List ℕ → Outcome Reason Val
walk t n s =
    test (leb (length s) 1048576) (reason 6 (byte 0))
    (λ _. test (count_holds t n) (reason 12 (row 0))
    (λ _. test (eqb (row_at t 0).span n) (reason 13 (row 0))
    (λ _. walk_row t s n 0)))
