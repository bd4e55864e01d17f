-- Bytes put where they have room: one behind the other, and one before the other.
use Rattle.std.proofs.Common.{◌≡◌, sym, ap, ◌∙◌, inl, inr, List, [], ◌∷◌, ◌++◌, append_assoc, ℕ, ◌+◌, ◌≤◌, ◌<◌, arith, length, take, drop, length-append, length-take-le, drop_at, take-take, le-leb}
use Rattle.std.proofs.Math.Decide.{dec_le}
use Rattle.std.proofs.Math.Seq.{take-append-le}
use borrow.Author.Tests.{lt-leb}
use Rattle.refusal.specs.Outcome.{Outcome, contents, map, Reason}
use Rattle.refusal.proofs.Outcome.{test-true, test-false}
use Rattle.packed.specs.Packed.{put, put_within, Lent}
use Rattle.packed.proofs.Put.{length-put, put-nothing, put_more}
use Rattle.packed.proofs.Calls.{room-test}

module _ (out : List ℕ) (index : ℕ) (bs : List ℕ) where
  -- what stands where there is room, or is as it was
  exit : Outcome Reason (Unit {0}) → List ℕ
  exit o = contents (map (λ _. put out index bs) o) out

  pub put_within-fits : index + length bs ≤ length out → put_within out index bs ≡ put out index bs
  unfolding put_within exit
  put_within-fits h = ap exit (room-test (length out) index (length bs) ∙ test-true _ _ (le-leb (index + length bs) (length out) h))

  pub put_within-short : length out < index + length bs → put_within out index bs ≡ out
  unfolding put_within exit
  put_within-short h = ap exit (room-test (length out) index (length bs) ∙ test-false _ _ (lt-leb (index + length bs) (length out) h))

pub length-put_within : (out : List ℕ) (index : ℕ) (bs : List ℕ) → length (put_within out index bs) ≡ length out
length-put_within out index bs = go (dec_le (index + length bs) (length out))
  where
    go : Dec (index + length bs ≤ length out) → length (put_within out index bs) ≡ length out
    go (yes h) = ap length (put_within-fits out index bs h) ∙ length-put out index bs h
    go (no h) = ap length (put_within-short out index bs (omega arith))

pub put_within-nothing : (out : List ℕ) (index : ℕ) → put_within out index [] ≡ out
put_within-nothing out index = go (dec_le index (length out))
  where
    go : Dec (index ≤ length out) → put_within out index [] ≡ out
    go (yes h) = put_within-fits out index [] (omega arith) ∙ put-nothing out index
    go (no h) = put_within-short out index [] (omega arith)

pub put_within-none : (out : List ℕ) (index : ℕ) (bs : List ℕ) → out ≡ [] → put_within out index bs ≡ out
put_within-none out index [] e = put_within-nothing out index
put_within-none out index (b ∷ bs) e = put_within-short out index (b ∷ bs) (let z : length out ≡ 0 = ap length e in omega arith)

-- bytes put right before bytes
put_front : (out : List ℕ) (index : ℕ) (xs ys : List ℕ) (k : ℕ) → k ≡ index + length xs → k + length ys ≤ length out → put (put out k ys) index xs ≡ put out index (xs ++ ys)
unfolding put
put_front out index xs ys k e h =
    let m : length (take k out) ≡ k = length-take-le k out (omega arith) in
    let t : take index (take k out ++ (ys ++ drop (k + length ys) out)) ≡ take index out = take-append-le index (take k out) (ys ++ drop (k + length ys) out) (omega arith) ∙ take-take index k out (omega arith) in
    let d : drop (index + length xs) (take k out ++ (ys ++ drop (k + length ys) out)) ≡ ys ++ drop (k + length ys) out = ap (λ (i : ℕ). drop i (take k out ++ (ys ++ drop (k + length ys) out))) (sym e) ∙ drop_at (take k out) (ys ++ drop (k + length ys) out) k m in
    let l : k + length ys ≡ index + length (xs ++ ys) = omega (arith, length-append xs ys) in
    rw (t, d, append_assoc, l)

module _ (out : List ℕ) (index k : ℕ) (xs ys : List ℕ) (e : k ≡ index + length xs) where
  put_within-both : index + (length xs + length ys) ≤ length out → put_within out index (xs ++ ys) ≡ put out index (xs ++ ys)
  put_within-both f = put_within-fits out index (xs ++ ys) (rw length-append f)

  pub put_within-behind : Lent (index + (length xs + length ys)) out → put_within (put_within out index xs) k ys ≡ put_within out index (xs ++ ys)
  put_within-behind (inl n) = ap (λ (m : List ℕ). put_within m k ys) (put_within-none out index xs n) ∙ put_within-none out k ys n ∙ sym (put_within-none out index (xs ++ ys) n)
  put_within-behind (inr f) =
      let n : length (put out index xs) ≡ length out = length-put out index xs (omega arith) in
      ap (λ (m : List ℕ). put_within m k ys) (put_within-fits out index xs (omega arith)) ∙ put_within-fits (put out index xs) k ys (omega arith) ∙ put_more out index xs ys k e (omega arith) ∙ sym (put_within-both f)

  pub put_within-before : Lent (index + (length xs + length ys)) out → put_within (put_within out k ys) index xs ≡ put_within out index (xs ++ ys)
  put_within-before (inl n) = ap (λ (m : List ℕ). put_within m index xs) (put_within-none out k ys n) ∙ put_within-none out index xs n ∙ sym (put_within-none out index (xs ++ ys) n)
  put_within-before (inr f) =
      let n : length (put out k ys) ≡ length out = length-put out k ys (omega arith) in
      ap (λ (m : List ℕ). put_within m index xs) (put_within-fits out k ys (omega arith)) ∙ put_within-fits (put out k ys) index xs (omega arith) ∙ put_front out index xs ys k e (omega arith) ∙ sym (put_within-both f)
