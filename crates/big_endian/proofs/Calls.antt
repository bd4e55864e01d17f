-- What the code's proofs need: a number with its bytes turned round, and the step of the loop that copies.
use Rattle.std.proofs.Common.{◌≡◌, refl, ap, sym, ◌∙◌, List, [], ◌∷◌, ◌++◌, reverse, Result, Ok, Err, IsOk, append_assoc, append-nil, ℕ, zero, suc, ◌+◌, ◌*◌, ◌/◌, ◌<◌, ◌≤◌, mul-suc, mul-zero, mul-le-mul_left, mul_comm, le-div_iff_mul-le, add_comm, le_refl, add-one, arith, length, get_or, take, take-suc, drop, length-drop, take_all, drop-drop, length-take-le}
use borrow.Rule.Slice.PartMut.{put_mid}
use mathlib.Core.List.{reverse-append}
use Rattle.std.proofs.Math.ListN.{length-reverse}
use Rattle.refusal.specs.declared.Refusal.{Refusal}
use Rattle.refusal.specs.Outcome.{Outcome, accepted, map, Fills, Reason}
use Rattle.refusal.specs.Meaning.{outcome_of}
use Rattle.refusal.proofs.Outcome.{clash, map-accepted}
use Rattle.packed.specs.Packed.{Bytes, unpack_little_endian, pack_little_endian, present, bytes_at, unpack_at, put, put_at}
use Rattle.packed.proofs.Laws.{bytes_drop, bytes_take, unpack_cons, length_pack, pack_bytes, pack_unpack}
use Rattle.packed.proofs.Put.{put_more, put_whole}
use Rattle.packed.proofs.Calls.{present-all, present-fits, fills_put, fills_answers}
use Rattle.big_endian.specs.BigEndian.{pack_big_endian, unpack_big_endian, unpack_big_endian_at, reverse_each}
use Rattle.big_endian.proofs.Laws.{bytes-reverse, unpack_big_take, pack_unpack_big, length-reverse_each}

-- ---- a number byte by byte

-- the number of no bytes
pub unpack_big_none : (s : List ℕ) → 0 ≡ unpack_big_endian 0 s
unfolding unpack_big_endian unpack_little_endian
unpack_big_none s = refl

-- one byte more: what stood before it has 256 times the weight
pub unpack_big_next : (i : ℕ) (s : List ℕ) → i < length s → get_or s i 0 + unpack_big_endian i s * 256 ≡ unpack_big_endian (i + 1) s
unfolding unpack_big_endian
unpack_big_next i s h =
    let e : reverse (take (suc i) s) ≡ get_or s i 0 ∷ reverse (take i s) = ap reverse (take-suc s i 0 h) ∙ reverse-append (take i s) (get_or s i 0 ∷ []) in
    let u : unpack_little_endian (suc i) (reverse (take (suc i) s)) ≡ get_or s i 0 + 256 * unpack_little_endian i (reverse (take i s)) = ap (unpack_little_endian (suc i)) e ∙ unpack_cons i (get_or s i 0) (reverse (take i s)) in
    rw (add-one, u) (omega arith)

-- ---- one number

-- the number of the bytes of n turned round, as `swap_bytes` gives it
abbrev pub swapped : ℕ → ℕ → ℕ
swapped w n = unpack_little_endian w (reverse (pack_little_endian w n))

-- its bytes are those of n most byte first
pub pack_swapped : (w n : ℕ) → pack_little_endian w (swapped w n) ≡ pack_big_endian w n
unfolding pack_big_endian
pack_swapped w n =
    let bs = reverse (pack_little_endian w n) in
    let l : length bs ≡ w = length-reverse (pack_little_endian w n) ∙ length_pack w n in
    pack_unpack w bs (bytes-reverse (pack_little_endian w n) (pack_bytes w n)) (omega arith) ∙ take_all w bs (omega arith)

module _ (w : ℕ) (s : List ℕ) (index : ℕ) where
  bs : List ℕ
  bs = take w (drop index s)

  -- what the least byte first unpacker gives, turned round
  pub unpack_swapped : {n : ℕ} → Bytes s → accepted n ≡ unpack_at w s index → accepted (swapped w n) ≡ unpack_big_endian_at w s index
  unfolding unpack_big_endian bs
  unpack_swapped {n} b h =
      let p = map-accepted (unpack_little_endian w) (bytes_at s index w) (sym h) in
      let q = map-accepted (λ _. bs) (present (length s) index w) p.1 in
      let f : index + w ≤ length s = present-fits (length s) index w (sym q.1) in
      let l : length bs ≡ w = length-take-le w (drop index s) (rw length-drop (omega arith)) in
      let t : pack_little_endian w n ≡ take w bs = ap (pack_little_endian w) (p.2 ∙ ap (unpack_little_endian w) q.2) ∙ pack_unpack w bs (bytes_take w (drop index s) (bytes_drop index s b)) (omega arith) in
      ap (λ (x : List ℕ). accepted (unpack_little_endian w (reverse x))) t
      ∙ ap (λ (x : List ℕ). accepted (unpack_big_endian w x)) (sym q.2)
      ∙ ap (map (unpack_big_endian w)) (sym p.1)

-- the number that a slice of its bytes holds
pub unpack_big-part : (w k at : ℕ) (s : List ℕ) → k ≡ w → at + w ≤ length s → unpack_big_endian_at w (take k (drop at s)) 0 ≡ accepted (unpack_big_endian w (drop at s))
unpack_big-part w k at s e h =
    let bs = take k (drop at s) in
    let l : length bs ≡ w = length-take-le k (drop at s) (rw length-drop (omega arith)) ∙ e in
    ap (λ (o : Outcome Reason (Unit {0})). map (unpack_big_endian w) (map (λ _. take w (drop 0 bs)) o)) (sym (present-all (length bs) 0 w (omega arith)))
    ∙ ap accepted (unpack_big_take w w bs (le_refl w) ∙ unpack_big_take w k (drop at s) (omega arith))

-- a number put into a slice of as many bytes
module _ (w k at : ℕ) (now bs : List ℕ) (l : length bs ≡ w) (e : k ≡ w) (h : at + w ≤ length now) where
  part : List ℕ
  part = take k (drop at now)

  length-part : length part ≡ w
  unfolding part
  length-part = length-take-le k (drop at now) (rw length-drop (omega arith)) ∙ e

  pub put_part : {o : Outcome Reason (Unit {0})} {exit : List ℕ} → Fills (put_at (take k (drop at now)) 0 bs) o (take k (drop at now)) exit → put_mid at k now exit ≡ put now at bs
  unfolding put part
  put_part f =
      let x : _ = fills_put part 0 bs w l (omega (arith, length-part)) f ∙ put_whole part bs (l ∙ sym length-part) in
      rw (x, drop-drop, e, l)

  pub put_part-answers : {o : Outcome Reason (Unit {0})} {exit : List ℕ} → Fills (put_at (take k (drop at now)) 0 bs) o (take k (drop at now)) exit → o ≡ accepted tt
  unfolding part
  put_part-answers f = fills_answers part 0 bs w l (omega (arith, length-part)) f

-- a `Result` that means a value is `Ok`
pub ok-accepted : {A : Type 0} (r : Result A Refusal) {a : A} → outcome_of r ≡ accepted a → IsOk r
ok-accepted (Ok a) h = refl
ok-accepted (Err e) h = clash h

-- and what its value is
pub ok-value : {A B : Type 0} (f : A → B) {r : Result A Refusal} {a : A} {b : B} → r ≡ Ok a → map f (outcome_of r) ≡ accepted b → f a ≡ b
ok-value f {r} {a} {b} e h = let k : ◌≡◌ {A = Outcome Reason _} (accepted (f a)) (accepted b) = rw e at h in cc

-- ---- each element turned round

-- by the last element
reverse_each-snoc : (w n : ℕ) (s : List ℕ) → reverse_each w s (suc n) ≡ reverse_each w s n ++ reverse (take w (drop (w * n) s))
unfolding reverse_each
reverse_each-snoc w zero s = rw mul-zero (append-nil (reverse (take w s)))
reverse_each-snoc w (suc n) s =
    let e : w + w * n ≡ w * suc n = rw mul-suc (add_comm w (w * n)) in
    rw (reverse_each-snoc w n (drop w s), drop-drop, e, append_assoc)

-- an element more is within all
pub one_more : (w i n : ℕ) → i < n → w * i + w ≤ w * n
one_more w i n h = rw (sym (mul-suc w i)) (mul-le-mul_left w h)

-- a loop that turns elements round: each is unpacked most byte first and packed least byte first behind those before it
pub reverse_each-next : (w : ℕ) (src out now : List ℕ) (index n i v : ℕ) → Bytes src → i < n → w * n ≤ length src → index + w * n ≤ length out → now ≡ put out index (reverse_each w src i) → v ≡ unpack_big_endian w (drop (w * i) src) → put now (index + w * i) (pack_little_endian w v) ≡ put out index (reverse_each w src (i + 1))
reverse_each-next w src out now index n i v b h inside fits e f =
    let m : w * i + w ≤ w * n = one_more w i n h in
    let t = reverse (take w (drop (w * i) src)) in
    let d : w ≤ length (drop (w * i) src) = rw length-drop (omega arith) in
    let l : length (reverse_each w src i) ≡ w * i = length-reverse_each w i src (omega arith) in
    let k : length t ≡ w = length-reverse (take w (drop (w * i) src)) ∙ length-take-le w (drop (w * i) src) d in
    let p : pack_little_endian w v ≡ t = ap (pack_little_endian w) f ∙ pack_unpack_big w (drop (w * i) src) (bytes_drop (w * i) src b) d in
    rw (e, p, add-one, reverse_each-snoc) (put_more out index (reverse_each w src i) t (index + w * i) (omega arith) (omega arith))

-- the elements of a slice are within it; what is left is a cut one
pub elements-inside : (w len : ℕ) → 0 < w → w * (len / w) ≤ len
elements-inside w len pos = let p : len / w * w ≤ len = (le-div_iff_mul-le pos).0 (le_refl (len / w)) in omega (arith, mul_comm w (len / w))
