-- Reading XDR with refusals, over the whole record and a position, into a store of so many bytes. Defined on every input.
use Rattle.std.specs.Prelude.{Bool, true, ◌&&◌, List, [], ◌∷◌, ℕ, zero, suc, ◌+◌, ◌-◌, ◌*◌, length, take, drop, leb, ltb, eqb}
use Rattle.refusal.specs.Outcome.{Outcome, accepted, refused, bind, test, Reason, reason, byte}
use Rattle.packed.specs.Packed.{room}
use Rattle.big_endian.specs.BigEndian.{unpack_big_endian, unpack_big_endian_seq}
use Rattle.value.specs.Kinds.{width, Elements, element_width}
use Rattle.value.specs.Tree.{G, Gs, GConstant, GNumber, GArray, GTuple, GNumberArray, GTaggedUnion, gnil, gcons, Val, Vals, VConstant, VNumber, VArray, VTuple, VNumberArray, VCase, vnil, row_count}
use Rattle.value.specs.Step.{Step, yield, next, give, both, elements}
use Rattle.xdr.specs.Xdr.{padding, xdr_size, store_of}

-- the byte position, the values begun, and the bytes of the store used
pub record Filling : Type 0 where
  pub at : ℕ
  pub begun : ℕ
  pub used : ℕ

-- a step over the record
abbrev pub Importing : Type 0 → Type 0
Importing A = Outcome Reason (Step Filling A)

-- refusal `number` of the value that starts at s
abbrev pub refusal : ℕ → Filling → Reason
refusal number s = reason number (byte s.at)

-- from byte 0 on, with an empty store
abbrev pub start : Filling
start = record { at = 0; begun = 0; used = 0 }

-- n bytes on
abbrev pub move : ℕ → Filling → Filling
move n s = record { at = s.at + n; begun = s.begun; used = s.used }

-- one value more begun
abbrev pub begin : Filling → Filling
begin s = record { at = s.at; begun = suc s.begun; used = s.used }

-- n bytes more of the store used
abbrev pub fill : ℕ → Filling → Filling
fill n s = record { at = s.at; begun = s.begun; used = s.used + n }

-- whether all bytes are zero
unfoldable pub zeros : List ℕ → Bool
zeros [] = true
zeros (b ∷ bs) = eqb b 0 && zeros bs

module _ (capacity : ℕ) where
  -- a row for the value that starts at s, while fewer values are begun than there are rows
  unfoldable pub claim : Filling → Outcome Reason Filling
  claim s = test (ltb s.begun capacity) (refusal 8 s) (λ _. accepted (begin s))

  -- what follows where there is a row
  abbrev pub claimed : {A : Type 0} → (Filling → Importing A) → Filling → Importing A
  claimed r s = bind (claim s) r

  -- the rows left
  abbrev pub free : Filling → ℕ
  free s = capacity - s.begun

-- the w bytes at s as a number
unfoldable pub take_number : List ℕ → ℕ → Filling → Importing ℕ
take_number d w s = test (leb (s.at + w) (length d)) (refusal 9 s) (λ _. yield (unpack_big_endian w (drop s.at d)) (move w s))

-- what follows the count of the value that starts at byte p: `size` bytes of elements and their padding are in the part behind it, else 9;
-- the elements have room in a store of len bytes behind those used, else 17; and the padding is zero, else 23
unfoldable pub check_body : ℕ → ℕ → ℕ → List ℕ → ℕ → Outcome Reason (Unit {0})
check_body len used size part p =
    test (leb (size + padding size) (length part)) (reason 9 (byte p))
    (λ _. bind (room len used size)
    (λ _. test (zeros (take (padding size) (drop size part))) (reason 23 (byte p)) accepted))

module _ (d : List ℕ) (len : ℕ) where
  -- n numbers behind the count, which stands at s
  abbrev pub take_body : Elements → ℕ → Filling → Filling → Importing (List ℕ)
  take_body k n s t =
      let size : ℕ = element_width k * n in
      bind (check_body len s.used size (drop t.at d) s.at) (λ _. yield (unpack_big_endian_seq (element_width k) (drop t.at d) n) (fill size (move (size + padding size) t)))

  -- the count at s and the numbers behind it
  unfoldable pub take_numbers : Elements → Filling → Importing (List ℕ)
  take_numbers k s = next (take_number d 4 s) (λ n t. take_body k n s t)

-- a value, where it ends with the record
abbrev pub at_end : {A : Type 0} → List ℕ → A → Filling → Importing A
at_end d a t = test (eqb t.at (length d)) (refusal 11 t) (λ _. yield a t)

module _ (capacity len : ℕ) (d : List ℕ) where
  -- a value that starts at s, its row claimed
  unfoldable mutual
    pub import_body : G → Filling → Importing Val
    import_body GConstant s = yield VConstant s
    import_body (GNumber k) s = give (VNumber k) (take_number d (width k) s)
    import_body (GArray g) s = next (take_number d 4 s) (λ n t. test (leb n (free capacity s)) (refusal 8 s) (λ _. give VArray (elements n (claimed capacity (λ u. import_body g u)) t)))
    import_body (GTuple gs) s = give VTuple (import_fields gs s)
    import_body (GNumberArray k) s = give (VNumberArray k) (take_numbers d len k s)
    import_body (GTaggedUnion gs) s = next (take_number d 4 s) (λ c t. give (VCase c) (import_case_at gs c s t))

    pub import_fields : Gs → Filling → Importing Vals
    import_fields gnil s = yield vnil s
    import_fields (gcons g gs) s = both (claimed capacity (λ u. import_body g u) s) (λ t. import_fields gs t)

    -- the value of case c, whose discriminant stands at s; there is none: 10
    pub import_case_at : Gs → ℕ → Filling → Filling → Importing Val
    import_case_at gnil c s t = refused (refusal 10 s)
    import_case_at (gcons g gs) zero s t = claimed capacity (λ u. import_body g u) t
    import_case_at (gcons g gs) (suc c) s t = import_case_at gs c s t

  -- a value of the grammar that starts at s
  abbrev pub import_val : G → Filling → Importing Val
  import_val g s = claimed capacity (import_body g) s

  -- the whole import, where 1 to 6 are not given: from byte 0 on, with the end reached
  unfoldable pub import_whole : G → Importing Val
  import_whole g = next (import_val g start) (at_end d)

-- what importing v from s gives
abbrev pub import_to : Val → Filling → Step Filling Val
import_to v s = record { value = v; state = record { at = s.at + xdr_size v; begun = s.begun + row_count v; used = s.used + length (store_of v) } }
