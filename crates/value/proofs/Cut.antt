-- A record beside its first k bytes, both read from one position: what ends within these bytes is read the same, what ends behind them is
-- refused with 9.
use Rattle.std.proofs.Common.{◌≡◌, refl, sym, ap, ◌∙◌, Bool, true, false, List, ◌++◌, ℕ, zero, suc, ◌+◌, ◌-◌, ◌*◌, ◌/◌, ◌≤◌, ◌<◌, div-lt_iff_lt-mul, mul_comm, arith, length, take, drop, length-drop, take-append-drop, length-take-le, leb, ltb, le-leb}
use Rattle.std.proofs.Math.Decide.{dec_le}
use Rattle.std.proofs.Math.Seq.{drop-append-le, take-append-le}
use borrow.Author.Tests.{lt-leb}
use Rattle.refusal.specs.Outcome.{accepted, refused, test}
use Rattle.refusal.proofs.Outcome.{Post, fails, post_bind, post_test, post_weaken, post_accepted, bind-test}
use Rattle.packed.specs.Packed.{unpack_little_endian}
use Rattle.value.specs.Kinds.{width, element_width}
use Rattle.value.specs.Tree.{G, Gs, GConstant, GNumber, GArray, GTuple, GNumberArray, GTaggedUnion, gnil, gcons, Val, Vals, VConstant, VNumber, VArray, VTuple, VNumberArray, VCase, vnil, vcons}
use Rattle.value.specs.Step.{Step, yield, next, give, both, elements}
use Rattle.value.specs.Reading.{State, Stop, Reading, stop, start, move, begin, claim, claimed, free, take_number, take_numbers, at_end, read_body, read_fields, read_case_at, read_val, read_whole}
use Rattle.value.proofs.KindLaws.{element_width_positive}
use Rattle.value.proofs.Laws.{count_fits}
use Rattle.value.proofs.Agreement.{gives}
use Rattle.value.proofs.Reading.{whole_post}

-- refused with 9
abbrev Lost : {A : Type 0} → Reading A → Type 0
Lost y = (u : State) × (y ≡ refused (stop 9 u))

-- what was read of the record from byte p on, beside y, the same reading of its first k bytes
record CutAt {A : Type 0} (k p : ℕ) (y : Reading A) (t : Step State A) : Type 0 where
  -- it ended at p or behind it
  forward : p ≤ t.state.at
  -- it ended within the first k bytes
  same : t.state.at ≤ k → y ≡ accepted t
  -- it began within them and ended behind them
  lost : p ≤ k → k < t.state.at → Lost y

-- where the record is refused, nothing is claimed
abbrev Cut : {A : Type 0} → ℕ → ℕ → Reading A → Reading A → Type 0
Cut k p x y = Post (CutAt k p y) (λ _. Unit {0}) x

-- ---- one step behind another

-- a step from byte q on, behind one from byte p on that ended there. Of the first k bytes, z is both: the second, y, where the first ended within
-- them, else refused with 9
follows : {A : Type 0} {k p q : ℕ} {x y z : Reading A} → p ≤ q → (q ≤ k → z ≡ y) → (p ≤ k → k < q → Lost z) → Cut k q x y → Cut k p x z
follows {A} {k} {p} {q} {x} {y} {z} h e l c = post_weaken from (λ _ _. tt) c
  where
    ended : (t : Step State A) → CutAt k q y t → p ≤ k → k < t.state.at → Dec (q ≤ k) → Lost z
    ended t i j m (yes n) = let u = i.lost n m in (u.0, e n ∙ u.1)
    ended t i j m (no n) = l j (omega (arith, n))

    from : (t : Step State A) → CutAt k q y t → CutAt k p z t
    from t i = record {
      forward = omega (arith, i.forward);
      same = λ j. e (omega (arith, i.forward)) ∙ i.same j;
      lost = λ j m. ended t i j m (dec_le q k);
    }

cut-next : {A B : Type 0} {k p : ℕ} {x y : Reading A} (m n : A → State → Reading B) → Cut k p x y → ((a : A) (t : State) → Cut k t.at (m a t) (n a t)) → Cut k p (next x m) (next y n)
cut-next {A} {B} {k} {p} {x} {y} m n c f = post_bind _ c (λ a h. follows h.forward
    (λ l. ap (λ (o : Reading A). next o n) (h.same l))
    (λ i l. let u = h.lost i l in (u.0, ap (λ (o : Reading A). next o n) u.1))
    (f a.value a.state))

-- a step without bytes
cut-yield : {A : Type 0} {k : ℕ} (a : A) (t : State) → Cut k t.at (yield a t) (yield a t)
cut-yield a t = gives (record { forward = omega arith; same = λ _. refl; lost = λ i l. absurd (omega arith) })

cut-give : {A B : Type 0} {k p : ℕ} {x y : Reading A} (f : A → B) → Cut k p x y → Cut k p (give f x) (give f y)
cut-give f c = cut-next _ _ c (λ a t. cut-yield (f a) t)

cut-both : {k p : ℕ} {x y : Reading Val} (m n : State → Reading Vals) → Cut k p x y → ((t : State) → Cut k t.at (m t) (n t)) → Cut k p (both x m) (both y n)
cut-both m n c f = cut-next _ _ c (λ v t. cut-give (vcons v) (f t))

-- ---- the steps: some test the same of both, others how many bytes are left

cut-test : {A : Type 0} {k p : ℕ} (b : Bool) (e : Stop) (m n : Unit {0} → Reading A) → Cut k p (m tt) (n tt) → Cut k p (test b e m) (test b e n)
cut-test true e m n c = c
cut-test false e m n c = fails e tt

cut-claimed : {A : Type 0} {k : ℕ} (capacity : ℕ) (m n : State → Reading A) (s : State) → Cut k s.at (m (begin s)) (n (begin s)) → Cut k s.at (claimed capacity m s) (claimed capacity n s)
unfolding claim
cut-claimed capacity m n s c = rw (bind-test _ _ _ m, bind-test _ _ _ n) (cut-test (ltb s.begun capacity) _ (λ _. m (begin s)) (λ _. n (begin s)) c)

cut-elements : {k : ℕ} (m n : State → Reading Val) → ((s : State) → Cut k s.at (m s) (n s)) → (count : ℕ) (s : State) → Cut k s.at (elements count m s) (elements count n s)
unfolding elements
cut-elements m n c zero s = cut-yield vnil s
cut-elements m n c (suc count) s = cut-both (elements count m) (elements count n) (c s) (λ t. cut-elements m n c count t)

module _ (d : List ℕ) (k : ℕ) (l : k ≤ length d) where
  front_length : length (take k d) ≡ k
  front_length = length-take-le k d l

  -- bytes that lie within the first k
  front_bytes : (p n : ℕ) → p + n ≤ k → take n (drop p (take k d)) ≡ take n (drop p d)
  front_bytes p n h =
      let i : length (drop p (take k d)) ≡ k - p = length-drop p (take k d) ∙ rw front_length in
      let e : drop p d ≡ drop p (take k d) ++ drop k d = rw take-append-drop at (drop-append-le p (take k d) (drop k d) (rw front_length (omega arith))) in
      rw e (sym (take-append-le n (drop p (take k d)) (drop k d) (omega arith)))

  cut-number : {A : Type 0} (w : ℕ) (s : State) (m n : ℕ → State → Reading A) → ((a : ℕ) → Cut k (s.at + w) (m a (move w s)) (n a (move w s))) → Cut k s.at (next (take_number d w s) m) (next (take_number (take k d) w s) n)
  unfolding take_number
  cut-number w s m n c =
      let a : ℕ = unpack_little_endian w (take w (drop s.at d)) in
      rw (bind-test (leb (s.at + w) (length d)) _ _ _) (post_test (leb (s.at + w) (length d)) _ (λ _. m a (move w s)) (λ _. follows {y = n a (move w s)} (omega arith)
      (λ i. rw (front_length, le-leb (s.at + w) k i, front_bytes s.at w i))
      (λ _ i. (s, rw (front_length, lt-leb (s.at + w) k i)))
      (c a)) (λ _. tt))

  -- a count and its numbers. The count is compared with the bytes left, of which the record may have more than its first k bytes
  cut-numbers : (w : ℕ) (s : State) → 0 < w → Cut k s.at (take_numbers d w s) (take_numbers (take k d) w s)
  unfolding take_numbers
  cut-numbers w s pos = cut-number 8 s _ _ (λ a. post_test (leb a ((length d - s.at - 8) / w)) _ _ (λ _. gives (record {
    forward = omega arith;
    same = λ i. rw (front_length, le-leb a ((k - s.at - 8) / w) ((count_fits pos).1 (omega arith)), front_bytes (s.at + 8) (w * a) i);
    lost = λ i j. (s, rw (front_length, lt-leb a ((k - s.at - 8) / w) ((div-lt_iff_lt-mul pos).1 (rw (mul_comm a w) (omega arith)))));
  })) (λ _. tt))

  -- ---- the readings

  module _ (capacity : ℕ) where
    mutual
      unfolding read_body

      cut_body : (g : G) (s : State) → Cut k s.at (read_body capacity d g s) (read_body capacity (take k d) g s)
      cut_body GConstant s = cut-yield VConstant s
      cut_body (GNumber n) s = cut-number (width n) s _ _ (λ a. cut-yield (VNumber n a) (move (width n) s))
      cut_body (GArray g) s = cut-number 8 s _ _ (λ a. cut-test (leb a (free capacity s)) _ _ _ (cut-give VArray (cut-elements _ _ (λ t. cut-claimed capacity _ _ t (cut_body g (begin t))) a (move 8 s))))
      cut_body (GTuple gs) s = cut-give VTuple (cut_fields gs s)
      cut_body (GNumberArray n) s = cut-give (VNumberArray n) (cut-numbers (element_width n) s (element_width_positive n))
      cut_body (GTaggedUnion gs) s = cut-number 8 s _ _ (λ a. cut-give (VCase a) (cut-case gs a s (move 8 s)))

      cut_fields : (gs : Gs) (s : State) → Cut k s.at (read_fields capacity d gs s) (read_fields capacity (take k d) gs s)
      cut_fields gnil s = cut-yield vnil s
      cut_fields (gcons g gs) s = cut-both _ _ (cut-claimed capacity _ _ s (cut_body g (begin s))) (λ t. cut_fields gs t)

      cut-case : (gs : Gs) (c : ℕ) (s t : State) → Cut k t.at (read_case_at capacity d gs c s t) (read_case_at capacity (take k d) gs c s t)
      cut-case gnil c s t = fails _ tt
      cut-case (gcons g gs) zero s t = cut-claimed capacity _ _ t (cut_body g (begin t))
      cut-case (gcons g gs) (suc c) s t = cut-case gs c s t

    cut-val : (g : G) (s : State) → Cut k s.at (read_val capacity d g s) (read_val capacity (take k d) g s)
    cut-val g s = cut-claimed capacity _ _ s (cut_body g (begin s))

-- the first k bytes of a record accepted whole, fewer than all, are refused with 9
pub whole-cut : (capacity : ℕ) (d : List ℕ) (g : G) (t : Step State Val) → read_whole capacity d g ≡ accepted t → (k : ℕ) → k < length d → (u : State) × (read_whole capacity (take k d) g ≡ refused (stop 9 u))
unfolding read_whole
whole-cut capacity d g t h k l =
    let x = post_accepted (rw h at (whole_post capacity d g)) in
    let c = (post_accepted (rw x.0 at (cut-val d k (omega arith) capacity g (start 0)))).lost (omega arith) (omega (arith, x.1)) in
    (c.0, ap (λ (y : Reading Val). next y (at_end (take k d))) c.1)
