-- Reading with refusals, over the whole record and a position. Defined on every input.
use Rattle.std.specs.Prelude.{List, ℕ, zero, suc, ◌+◌, ◌-◌, ◌*◌, ◌/◌, length, take, drop, leb, ltb, eqb}
use Rattle.refusal.specs.Outcome.{Outcome, accepted, refused, bind, test, Reason, reason, byte}
use Rattle.packed.specs.Packed.{unpack_little_endian, unpack_little_endian_seq}
use Rattle.value.specs.Kinds.{width, element_width}
use Rattle.value.specs.Tree.{G, Gs, GConstant, GNumber, GArray, GTuple, GNumberArray, GTaggedUnion, gnil, gcons, Val, Vals, VConstant, VNumber, VArray, VTuple, VNumberArray, VCase, vnil, SizeOfV, row_count}
use Rattle.value.specs.Step.{Step, yield, next, give, both, elements}

-- the byte position, and the values begun: one for each time a row is asked for, the refused time included
pub record State : Type 0 where
  pub at : ℕ
  pub begun : ℕ

-- a refusal, and the state where it ended the reading
pub record Stop : Type 0 where
  pub why : Reason
  pub state : State

-- a step over the record
abbrev pub Reading : Type 0 → Type 0
Reading A = Outcome Stop (Step State A)

-- refusal `number` of the value that starts at s
abbrev pub stop : ℕ → State → Stop
stop number s = record { why = reason number (byte s.at); state = s }

-- the values begun by a reading, accepted or refused
abbrev pub begun_of : {A : Type 0} → Reading A → ℕ
begun_of (accepted t) = t.state.begun
begun_of (refused e) = e.state.begun

-- no value begun
abbrev pub start : ℕ → State
start index = record { at = index; begun = 0 }

-- n bytes on
abbrev pub move : ℕ → State → State
move n s = record { at = s.at + n; begun = s.begun }

-- one value more begun
abbrev pub begin : State → State
begin s = record { at = s.at; begun = suc s.begun }

module _ (capacity : ℕ) where
  -- a row for the value that starts at s, while fewer values are begun than there are rows
  unfoldable pub claim : State → Outcome Stop State
  claim s = test (ltb s.begun capacity) (stop 8 (begin s)) (λ _. accepted (begin s))

  -- what follows where there is a row
  abbrev pub claimed : {A : Type 0} → (State → Reading A) → State → Reading A
  claimed r s = bind (claim s) r

  -- the rows left
  abbrev pub free : State → ℕ
  free s = capacity - s.begun

module _ (d : List ℕ) where
  -- the w bytes at s as a number
  unfoldable pub take_number : ℕ → State → Reading ℕ
  take_number w s = test (leb (s.at + w) (length d)) (stop 9 s) (λ _. yield (unpack_little_endian w (take w (drop s.at d))) (move w s))

  -- the count at s and the numbers of w bytes behind it. Compared by division: the product may be above 2^64
  unfoldable pub take_numbers : ℕ → State → Reading (List ℕ)
  take_numbers w s = next (take_number 8 s) (λ n t. test (leb n ((length d - s.at - 8) / w)) (stop 9 s) (λ _. yield (unpack_little_endian_seq w (take (w * n) (drop t.at d)) n) (move (w * n) t)))

  -- a value, where it ends with the record
  abbrev pub at_end : {A : Type 0} → A → State → Reading A
  at_end a t = test (eqb t.at (length d)) (stop 11 t) (λ _. yield a t)

module _ (capacity : ℕ) (d : List ℕ) where
  -- a value that starts at s, its row claimed
  unfoldable mutual
    pub read_body : G → State → Reading Val
    read_body GConstant s = yield VConstant s
    read_body (GNumber k) s = give (VNumber k) (take_number d (width k) s)
    read_body (GArray g) s = next (take_number d 8 s) (λ n t. test (leb n (free capacity s)) (stop 8 s) (λ _. give VArray (elements n (claimed capacity (λ u. read_body g u)) t)))
    read_body (GTuple gs) s = give VTuple (read_fields gs s)
    read_body (GNumberArray k) s = give (VNumberArray k) (take_numbers d (element_width k) s)
    read_body (GTaggedUnion gs) s = next (take_number d 8 s) (λ c t. give (VCase c) (read_case_at gs c s t))

    pub read_fields : Gs → State → Reading Vals
    read_fields gnil s = yield vnil s
    read_fields (gcons g gs) s = both (claimed capacity (λ u. read_body g u) s) (λ t. read_fields gs t)

    -- the value of case c, whose tag stands at s; there is none: 10
    pub read_case_at : Gs → ℕ → State → State → Reading Val
    read_case_at gnil c s t = refused (stop 10 s)
    read_case_at (gcons g gs) zero s t = claimed capacity (λ u. read_body g u) t
    read_case_at (gcons g gs) (suc c) s t = read_case_at gs c s t

  -- a value of the grammar that starts at s
  abbrev pub read_val : G → State → Reading Val
  read_val g s = claimed capacity (read_body g) s

  -- GM's `ParseVal` from an index on, where 1 to 6 are not given
  unfoldable pub read_at : G → ℕ → Reading Val
  read_at g index = test (leb index (length d)) (stop 7 (start index)) (λ _. read_val g (start index))

  -- GM's `Demarshall`, where 1 to 6 are not given: from byte 0 on, with the end reached
  unfoldable pub read_whole : G → Reading Val
  read_whole g = next (read_val g (start 0)) (at_end d)

-- what reading v from s gives
abbrev pub read_to : Val → State → Step State Val
read_to v s = record { value = v; state = record { at = s.at + SizeOfV v; begun = s.begun + row_count v } }
