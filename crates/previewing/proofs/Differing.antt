-- The laws of `differing`: of one list and of two joined, of an output and what is put into it, and of the loop that counts.
use Rattle.std.proofs.Common.{◌≡◌, refl, ap, sym, ◌∙◌, Bool, true, false, cond, List, [], ◌∷◌, ◌++◌, ℕ, zero, suc, ◌+◌, ◌≤◌, ◌<◌, arith, length, get_or, take, drop, length-take, eqb, drop-cons, drop-drop, take-add, length-take-le, eq-eqb, ne_eqb, eqb-true}
use Rattle.std.proofs.Math.Seq.{take-length}
use Rattle.packed.specs.Packed.{put}
use Rattle.previewing.specs.Preview.{differing, CountsPlaces}

-- ---- one list

pub differing-none : (a : List ℕ) → differing a [] ≡ 0
unfolding differing
differing-none [] = refl
differing-none (x ∷ a) = refl

-- a list differs from no front part of itself
pub differing-front : (n : ℕ) (a : List ℕ) → differing a (take n a) ≡ 0
unfolding differing
differing-front zero a = differing-none a
differing-front (suc n) [] = refl
differing-front (suc n) (x ∷ a) = rw (eq-eqb x x refl) (omega (arith, differing-front n a))

differing_self : (a : List ℕ) → differing a a ≡ 0
differing_self a = ap (differing a) (sym (take-length a)) ∙ differing-front (length a) a

-- one place is 0 or 1
one-most : (b : Bool) → cond b 0 1 ≤ 1
one-most true = omega arith
one-most false = omega arith

pub differing-most : (a b : List ℕ) → (differing a b ≤ length a) × (differing a b ≤ length b)
unfolding differing
differing-most [] b = (omega arith, omega arith)
differing-most (x ∷ a) [] = (omega arith, omega arith)
differing-most (x ∷ a) (y ∷ b) =
    let h = differing-most a b in
    let o = one-most (eqb x y) in
    (omega (arith, h.0), omega (arith, h.1))

-- from n places
pub front-most : (a : List ℕ) (n : ℕ) (b : List ℕ) {r : ℕ} → r ≡ differing a (take n b) → r ≤ n
front-most a n b e = omega (arith, e, (differing-most a (take n b)).1, length-take n b)

-- ---- two lists joined

pub differing_join : (a xs ys : List ℕ) → differing a (xs ++ ys) ≡ differing a xs + differing (drop (length xs) a) ys
unfolding differing
differing_join a [] ys = rw (differing-none a) (omega arith)
differing_join [] (x ∷ xs) ys = refl
differing_join (z ∷ a) (x ∷ xs) ys = omega (arith, differing_join a xs ys)

-- ---- an output and what is put into it

-- only the bytes that are put may differ
pub differing-put : (out : List ℕ) (index : ℕ) (bs : List ℕ) → index ≤ length out → differing out (put out index bs) ≡ differing (drop index out) bs
unfolding put
differing-put out index bs h =
    let behind = drop (index + length bs) out in
    let e : drop (length (take index out)) out ≡ drop index out = ap (λ (k : ℕ). drop k out) (length-take-le index out h) in
    let f : differing (drop (length bs) (drop index out)) behind ≡ 0 = ap (λ (x : List ℕ). differing x behind) (drop-drop (length bs) index out) ∙ differing_self behind in
    let g : differing (drop index out) (bs ++ behind) ≡ differing (drop index out) bs = differing_join (drop index out) bs behind ∙ rw f (omega arith) in
    differing_join out (take index out) (bs ++ behind) ∙ rw (differing-front index out, e) (omega (arith, g))

-- ---- the loops that count

-- what is behind the end of a list is not looked at
pub differing_cut : (n : ℕ) (a b : List ℕ) → differing (take n a) (take n b) ≡ differing a (take n b)
unfolding differing
differing_cut zero a b = sym (differing-none a)
differing_cut (suc n) [] b = refl
differing_cut (suc n) (x ∷ a) [] = refl
differing_cut (suc n) (x ∷ a) (y ∷ b) = ap (λ (d : ℕ). cond (eqb x y) 0 1 + d) (differing_cut n a b)

pub differing_over : (a b : List ℕ) → differing (take (length b) a) b ≡ differing a b
differing_over a b = ap (differing (take (length b) a)) (sym (take-length b)) ∙ differing_cut (length b) a b ∙ ap (differing a) (take-length b)

-- n places more
pub next-block : (a b : List ℕ) (k n : ℕ) → k ≤ length b → differing a (take (k + n) b) ≡ differing a (take k b) + differing (drop k a) (take n (drop k b))
next-block a b k n q = rw (take-add, differing_join, length-take-le k b q)

-- one place more
module _ (a b : List ℕ) (k : ℕ) (p : k < length a) (q : k < length b) where
  next : differing a (take (k + 1) b) ≡ differing a (take k b) + cond (eqb (get_or a k 0) (get_or b k 0)) 0 1
  unfolding differing
  next = next-block a b k 1 (omega arith) ∙ rw (drop-cons a k 0 p, drop-cons b k 0 q) (omega (arith, differing-none (drop (suc k) a)))

  pub next-equal : get_or a k 0 ≡ get_or b k 0 → differing a (take (k + 1) b) ≡ differing a (take k b)
  next-equal e = next ∙ rw (eq-eqb _ _ e) (omega arith)

  pub next-different : (get_or a k 0 ≡ get_or b k 0 → ⊥) → differing a (take (k + 1) b) ≡ differing a (take k b) + 1
  next-different n = next ∙ rw (ne_eqb _ _ n)

-- ---- what it counts

equal_lists : (a b : List ℕ) → length a ≡ length b → differing a b ≡ 0 → a ≡ b
unfolding differing
equal_lists [] [] l h = refl
equal_lists [] (y ∷ b) l h = absurd (omega arith)
equal_lists (x ∷ a) [] l h = absurd (omega arith)
equal_lists (x ∷ a) (y ∷ b) l h = go (eqb x y) refl (equal_lists a b (omega arith) (omega arith))
  where
    go : (t : Bool) → eqb x y ≡ t → a ≡ b → x ∷ a ≡ y ∷ b
    go true e z = rw (eqb-true x y e, z)
    go false e z = let o : ◌≡◌ {A = ℕ} (cond (eqb x y) 0 1) 1 = rw e in absurd (omega (arith, h))

pub counts_places : CountsPlaces
unfolding differing
counts_places = record {
  zero = λ a b l. (equal_lists a b l, λ e. rw e (differing_self b));
  equal = λ x a b. rw (eq-eqb x x refl) (omega arith);
  different = λ x y a b n. rw (ne_eqb x y n) (omega arith);
  at_most = λ a b. (differing-most a b).0;
}
