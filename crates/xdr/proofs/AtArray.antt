-- What an import answers at an array of numbers, case by case.
use Rattle.std.proofs.Common.{◌≡◌, refl, sym, ◌∙◌, Bool, true, false, ◌&&◌, List, [], ◌∷◌, ℕ, zero, suc, ◌+◌, ◌-◌, ◌≤◌, ◌<◌, arith, length, get_or, take, drop, length-drop, get_or-take, get_or-drop, length-take-le, leb, eqb, le-leb, leb-true, eq-eqb, ne_eqb}
use borrow.Author.Tests.{lt-leb}
use Rattle.refusal.specs.Outcome.{Outcome, accepted, refused, bind, test, Reason, reason, byte}
use Rattle.refusal.proofs.Outcome.{test-false}
use Rattle.packed.specs.Packed.{room}
use Rattle.packed.proofs.Calls.{room-test, room-all}
use Rattle.big_endian.specs.BigEndian.{unpack_big_endian_seq}
use Rattle.value.specs.Kinds.{Elements, element_width}
use Rattle.value.specs.Tree.{Val, GNumberArray, VNumberArray}
use Rattle.value.specs.Step.{yield, give}
use Rattle.xdr.specs.Xdr.{padding}
use Rattle.xdr.specs.Import.{Filling, Importing, refusal, move, fill, zeros, take_number, check_body, take_numbers, import_body}
use Rattle.xdr.specs.AtArray.{count_at, element_bytes, elements_end, array_end, AtArray}

-- ---- the padding

zeros-all : (bs : List ℕ) → ((j : ℕ) → j < length bs → get_or bs j 0 ≡ 0) → zeros bs ≡ true
unfolding zeros
zeros-all [] h = refl
zeros-all (b ∷ bs) h = rw (eq-eqb b 0 (h 0 (omega arith)), zeros-all bs (λ j l. h (suc j) (omega arith)))

zeros-some : (bs : List ℕ) (j : ℕ) → (get_or bs j 0 ≡ 0 → ⊥) → zeros bs ≡ false
unfolding zeros
zeros-some [] j h = absurd (h refl)
zeros-some (b ∷ bs) zero h = rw (ne_eqb b 0 h)
zeros-some (b ∷ bs) (suc j) h = rw (zeros-some bs j h) (none (eqb b 0))
  where
    none : (b : Bool) → b && false ≡ false
    none true = refl
    none false = refl

-- ---- what follows the count

module _ (len used size : ℕ) (part : List ℕ) (p : ℕ) where
  pub body_missing : length part < size + padding size → refused (reason 9 (byte p)) ≡ check_body len used size part p
  unfolding check_body
  body_missing h = sym (test-false _ _ (lt-leb (size + padding size) (length part) h))

  module _ (h : size + padding size ≤ length part) where
    pub body_room : {e : Reason} → refused e ≡ room len used size → refused e ≡ check_body len used size part p
    unfolding check_body
    body_room r = rw (le-leb (size + padding size) (length part) h, ← r)

    pub body_zeros : accepted tt ≡ room len used size → {b : Bool} → b ≡ zeros (take (padding size) (drop size part)) → test b (reason 23 (byte p)) accepted ≡ check_body len used size part p
    unfolding check_body
    body_zeros r e = rw (le-leb (size + padding size) (length part) h, ← r, e)

-- ---- the array

module _ (capacity len : ℕ) (d : List ℕ) (k : Elements) (s : Filling) where
  abbrev size : ℕ
  size = element_bytes d k s

  abbrev part : List ℕ
  part = drop (s.at + 4) d

  -- what an outcome behind the count comes to
  abbrev behind : Outcome Reason (Unit {0}) → Importing Val
  behind o = give (VNumberArray k) (bind o (λ _. yield (unpack_big_endian_seq (element_width k) part (count_at d s)) (fill size (move (size + padding size) (move 4 s)))))

  counted : s.at + 4 ≤ length d → {o : Outcome Reason (Unit {0})} → o ≡ check_body len s.used size part s.at → import_body capacity len d (GNumberArray k) s ≡ behind o
  unfolding import_body take_numbers take_number
  counted h e = rw (le-leb (s.at + 4) (length d) h, e)

  cut : length d < array_end d k s → import_body capacity len d (GNumberArray k) s ≡ refused (refusal 9 s)
  unfolding import_body take_numbers take_number
  cut h = go (leb (s.at + 4) (length d)) refl
    where
      go : (b : Bool) → leb (s.at + 4) (length d) ≡ b → import_body capacity len d (GNumberArray k) s ≡ refused (refusal 9 s)
      go true e = let i = leb-true (s.at + 4) (length d) e in counted i (body_missing len s.used size part s.at (rw length-drop (omega arith)))
      go false e = rw e

  module _ (h : array_end d k s ≤ length d) where
    inside : size + padding size ≤ length part
    inside = rw length-drop (omega arith)

    -- byte j of the padding
    padding-byte : (j : ℕ) → j < padding size → get_or (take (padding size) (drop size part)) j 0 ≡ get_or d (elements_end d k s + j) 0
    padding-byte j l =
        let e : s.at + 4 + (size + j) ≡ elements_end d k s + j = omega arith in
        get_or-take (padding size) (drop size part) j 0 l ∙ get_or-drop size part j 0 ∙ get_or-drop (s.at + 4) d (size + j) 0 ∙ rw e

    tight : len < s.used + size → import_body capacity len d (GNumberArray k) s ≡ refused (reason 17 (byte len))
    tight r = counted (omega arith) (body_room len s.used size part s.at inside (sym (room-test len s.used size ∙ test-false _ _ (lt-leb (s.used + size) len r))))

    module _ (r : s.used + size ≤ len) where
      looked : {b : Bool} → b ≡ zeros (take (padding size) (drop size part)) → import_body capacity len d (GNumberArray k) s ≡ behind (test b (reason 23 (byte s.at)) accepted)
      looked e = counted (omega arith) (body_zeros len s.used size part s.at inside (room-all len s.used size r) e)

      not-zero : (p : ℕ) → elements_end d k s ≤ p → p < array_end d k s → (get_or d p 0 ≡ 0 → ⊥) → import_body capacity len d (GNumberArray k) s ≡ refused (refusal 23 s)
      not-zero p a b n =
          let j = p - elements_end d k s in
          let e : elements_end d k s + j ≡ p = omega arith in
          looked (sym (zeros-some (take (padding size) (drop size part)) j (λ z. n (sym (padding-byte j (omega arith) ∙ rw e) ∙ z))))

      all-zero : ((p : ℕ) → elements_end d k s ≤ p → p < array_end d k s → get_or d p 0 ≡ 0) → import_body capacity len d (GNumberArray k) s ≡ yield (VNumberArray k (unpack_big_endian_seq (element_width k) part (count_at d s))) (record { at = array_end d k s; begun = s.begun; used = s.used + size })
      all-zero z =
          let l : length (take (padding size) (drop size part)) ≡ padding size = length-take-le (padding size) (drop size part) (rw length-drop (omega (arith, inside))) in
          let e : s.at + 4 + (size + padding size) ≡ array_end d k s = omega arith in
          looked (sym (zeros-all (take (padding size) (drop size part)) (λ j i. padding-byte j (omega arith) ∙ z (elements_end d k s + j) (omega arith) (omega arith)))) ∙ rw e

  pub at-array : AtArray capacity len d k s
  at-array = record { missing = cut; too_short = tight; not_zero = not-zero; imported = all-zero }
