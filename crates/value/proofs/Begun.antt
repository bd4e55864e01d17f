-- How many values a reading begins: at least one, and at most as many as there are rows, or at a refusal one more.
use Rattle.std.proofs.Common.{◌≡◌, refl, Bool, List, ℕ, zero, suc, ◌+◌, ◌-◌, ◌*◌, ◌/◌, ◌≤◌, arith, length, take, drop, leb, ltb, eqb, ltb→lt}
use Rattle.refusal.specs.Outcome.{accepted, refused, test}
use Rattle.refusal.proofs.Outcome.{Post, fails, post_bind, post_test, post_weaken, post_accepted, post_refused, bind-test}
use Rattle.packed.specs.Packed.{unpack_little_endian}
use Rattle.value.specs.Kinds.{width, element_width}
use Rattle.value.specs.Tree.{G, Gs, GConstant, GNumber, GArray, GTuple, GNumberArray, GTaggedUnion, gnil, gcons, Val, Vals, VConstant, VNumber, VArray, VTuple, VNumberArray, VCase, vnil, vcons}
use Rattle.value.specs.Step.{Step, yield, next, give, both, elements}
use Rattle.value.specs.Reading.{State, Stop, Reading, begun_of, stop, start, move, begin, claim, claimed, free, take_number, take_numbers, read_body, read_fields, read_case_at, read_val, read_whole}
use Rattle.value.proofs.Agreement.{gives}

module _ (capacity : ℕ) where
  -- at least n values are begun where a reading ends, and each of them has its row; at a refusal all but perhaps the last
  abbrev pub Begins : {A : Type 0} → ℕ → Reading A → Type 0
  Begins {A} n x = Post (λ (t : Step State A). (n ≤ t.state.begun) × (t.state.begun ≤ capacity)) (λ (e : Stop). (n ≤ e.state.begun) × (e.state.begun ≤ suc capacity)) x

  at_least : {A : Type 0} {m n : ℕ} {x : Reading A} → m ≤ n → Begins n x → Begins m x
  at_least h c = post_weaken (λ t p. (omega (arith, p.0), p.1)) (λ e p. (omega (arith, p.0), p.1)) c

  begins_yield : {A : Type 0} (a : A) (s : State) → s.begun ≤ capacity → Begins s.begun (yield a s)
  begins_yield a s h = gives (omega arith, h)

  begins_next : {A B : Type 0} {n : ℕ} {x : Reading A} (k : A → State → Reading B) → Begins n x → ((a : A) (t : State) → t.begun ≤ capacity → Begins t.begun (k a t)) → Begins n (next x k)
  begins_next k c f = post_bind _ c (λ a p. at_least p.0 (f a.value a.state p.1))

  begins_give : {A B : Type 0} {n : ℕ} {x : Reading A} (f : A → B) → Begins n x → Begins n (give f x)
  begins_give f c = begins_next _ c (λ a t h. begins_yield (f a) t h)

  begins_both : {n : ℕ} {x : Reading Val} (k : State → Reading Vals) → Begins n x → ((t : State) → t.begun ≤ capacity → Begins t.begun (k t)) → Begins n (both x k)
  begins_both k c f = begins_next _ c (λ v t h. begins_give (vcons v) (f t h))

  -- a test whose refusal begins nothing
  begins_test : {A : Type 0} (b : Bool) (number : ℕ) (s : State) (k : Unit {0} → Reading A) → s.begun ≤ capacity → Begins s.begun (k tt) → Begins s.begun (test b (stop number s) k)
  begins_test b number s k h c = post_test b _ k (λ _. c) (λ _. (omega arith, omega arith))

  -- the one step that begins a value
  begins_claimed : {A : Type 0} (k : State → Reading A) (s : State) → s.begun ≤ capacity → (suc s.begun ≤ capacity → Begins (suc s.begun) (k (begin s))) → Begins (suc s.begun) (claimed capacity k s)
  unfolding claim
  begins_claimed k s h c = rw (bind-test _ _ _ k) (post_test (ltb s.begun capacity) _ _ (λ b. c (ltb→lt s.begun capacity b)) (λ _. (omega arith, omega arith)))

  -- a value behind those begun at s
  begins_more : {A : Type 0} (k : State → Reading A) (s : State) → s.begun ≤ capacity → (suc s.begun ≤ capacity → Begins (suc s.begun) (k (begin s))) → Begins s.begun (claimed capacity k s)
  begins_more k s h c = at_least (omega arith) (begins_claimed k s h c)

  begins_elements : (k : State → Reading Val) → ((s : State) → s.begun ≤ capacity → Begins s.begun (k s)) → (n : ℕ) (s : State) → s.begun ≤ capacity → Begins s.begun (elements n k s)
  unfolding elements
  begins_elements k c zero s h = begins_yield vnil s h
  begins_elements k c (suc n) s h = begins_both (elements n k) (c s h) (λ t i. begins_elements k c n t i)

  module _ (d : List ℕ) where
    -- a number, and what goes on from it
    begins_number : {A : Type 0} (w : ℕ) (s : State) (k : ℕ → State → Reading A) → s.begun ≤ capacity → ((n : ℕ) → Begins s.begun (k n (move w s))) → Begins s.begun (next (take_number d w s) k)
    unfolding take_number
    begins_number w s k h c = rw (bind-test (leb (s.at + w) (length d)) _ _ _) (begins_test (leb (s.at + w) (length d)) 9 s _ h (c (unpack_little_endian w (take w (drop s.at d)))))

    begins_numbers : (w : ℕ) (s : State) → s.begun ≤ capacity → Begins s.begun (take_numbers d w s)
    unfolding take_numbers
    begins_numbers w s h = begins_number 8 s _ h (λ n. begins_test (leb n ((length d - s.at - 8) / w)) 9 s _ h (begins_yield _ (move (w * n) (move 8 s)) h))

    mutual
      unfolding read_body

      begins_body : (g : G) (s : State) → s.begun ≤ capacity → Begins s.begun (read_body capacity d g s)
      begins_body GConstant s h = begins_yield VConstant s h
      begins_body (GNumber k) s h = begins_number (width k) s _ h (λ n. begins_yield (VNumber k n) (move (width k) s) h)
      begins_body (GArray g) s h = begins_number 8 s _ h (λ n. begins_test (leb n (free capacity s)) 8 s _ h (begins_give VArray (begins_elements _ (λ t i. begins_more _ t i (λ j. begins_body g (begin t) j)) n (move 8 s) h)))
      begins_body (GTuple gs) s h = begins_give VTuple (begins_fields gs s h)
      begins_body (GNumberArray k) s h = begins_give (VNumberArray k) (begins_numbers (element_width k) s h)
      begins_body (GTaggedUnion gs) s h = begins_number 8 s _ h (λ c. begins_give (VCase c) (begins_case gs c s (move 8 s) h refl))

      begins_fields : (gs : Gs) (s : State) → s.begun ≤ capacity → Begins s.begun (read_fields capacity d gs s)
      begins_fields gnil s h = begins_yield vnil s h
      begins_fields (gcons g gs) s h = begins_both _ (begins_more _ s h (λ i. begins_body g (begin s) i)) (λ t i. begins_fields gs t i)

      begins_case : (gs : Gs) (c : ℕ) (s t : State) → s.begun ≤ capacity → s.begun ≡ t.begun → Begins t.begun (read_case_at capacity d gs c s t)
      begins_case gnil c s t h e = fails (stop 10 s) (omega arith, omega arith)
      begins_case (gcons g gs) zero s t h e = begins_more _ t (omega arith) (λ i. begins_body g (begin t) i)
      begins_case (gcons g gs) (suc c) s t h e = begins_case gs c s t h e

    begins_val : (g : G) (s : State) → s.begun ≤ capacity → Begins (suc s.begun) (read_val capacity d g s)
    begins_val g s h = begins_claimed _ s h (λ i. begins_body g (begin s) i)

    pub begins_whole : (g : G) → Begins 1 (read_whole capacity d g)
    unfolding read_whole
    begins_whole g = begins_next _ (begins_val g (start 0) (omega arith)) (λ v t h. begins_test (eqb t.at (length d)) 11 t _ h (begins_yield v t h))

    pub begun-whole : (g : G) → (1 ≤ begun_of (read_whole capacity d g)) × (begun_of (read_whole capacity d g) ≤ suc capacity)
    begun-whole g = go (read_whole capacity d g) (begins_whole g)
      where
        go : (x : Reading Val) → Begins 1 x → (1 ≤ begun_of x) × (begun_of x ≤ suc capacity)
        go (accepted t) b = let p = post_accepted b in (p.0, omega (arith, p.1))
        go (refused e) b = post_refused b
