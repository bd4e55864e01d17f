-- One reading at two capacities, c and one at least as large, m: with c it is what it is with m, or refused with 8.
use Rattle.std.proofs.Common.{◌≡◌, refl, ap, Bool, true, false, ◌⊎◌, inl, inr, List, ℕ, zero, suc, ◌≤◌, arith, leb, ltb, le-leb, leb-true, lt-ltb, ltb-true}
use Rattle.refusal.specs.Outcome.{accepted, refused, test}
use Rattle.refusal.proofs.Outcome.{bind-test}
use Rattle.value.specs.Tree.{G, Gs, GConstant, GNumber, GArray, GTuple, GNumberArray, GTaggedUnion, gnil, gcons, Val, Vals, VArray, VTuple, VCase, vcons}
use Rattle.value.specs.Step.{next, give, both, elements}
use Rattle.value.specs.Reading.{State, Reading, stop, begin, claim, claimed, free, take_number, read_body, read_fields, read_case_at, read_val}

-- x is y, or refused with 8
abbrev pub Or8 : {A : Type 0} → Reading A → Reading A → Type 0
Or8 x y = (x ≡ y) ⊎ ((u : State) × (x ≡ refused (stop 8 u)))

-- one step, and what follows it at each capacity
or8_behind : {A B : Type 0} (x : Reading A) (k l : A → State → Reading B) → ((a : A) (t : State) → Or8 (k a t) (l a t)) → Or8 (next x k) (next x l)
or8_behind (accepted t) k l f = f t.value t.state
or8_behind (refused r) k l f = inl refl

or8_next : {A B : Type 0} {x y : Reading A} (k l : A → State → Reading B) → Or8 x y → ((a : A) (t : State) → Or8 (k a t) (l a t)) → Or8 (next x k) (next y l)
or8_next {A} {B} {x} {y} k l (inl e) f = rw e (or8_behind y k l f)
or8_next {A} {B} {x} {y} k l (inr h) f = inr (h.0, ap (λ (o : Reading A). next o k) h.1)

or8_give : {A B : Type 0} {x y : Reading A} (f : A → B) → Or8 x y → Or8 (give f x) (give f y)
or8_give f h = or8_next _ _ h (λ a t. inl refl)

or8_both : {x y : Reading Val} (k l : State → Reading Vals) → Or8 x y → ((t : State) → Or8 (k t) (l t)) → Or8 (both x k) (both y l)
or8_both k l h f = or8_next _ _ h (λ v t. or8_give (vcons v) (f t))

or8_elements : (k l : State → Reading Val) → ((s : State) → Or8 (k s) (l s)) → (n : ℕ) (s : State) → Or8 (elements n k s) (elements n l s)
unfolding elements
or8_elements k l f zero s = inl refl
or8_elements k l f (suc n) s = or8_both (elements n k) (elements n l) (f s) (λ t. or8_elements k l f n t)

-- a test by 8 that holds with m where it holds with c
or8_test : {A : Type 0} (b d : Bool) (s : State) (k l : Unit {0} → Reading A) → (b ≡ true → d ≡ true) → Or8 (k tt) (l tt) → Or8 (test b (stop 8 s) k) (test d (stop 8 s) l)
or8_test true d s k l h f = rw (h refl) f
or8_test false d s k l h f = inr (s, refl)

module _ (c m : ℕ) (h : c ≤ m) where
  or8_claimed : {A : Type 0} (k l : State → Reading A) (s : State) → Or8 (k (begin s)) (l (begin s)) → Or8 (claimed c k s) (claimed m l s)
  unfolding claim
  or8_claimed k l s f = rw (bind-test _ _ _ k, bind-test _ _ _ l) (or8_test (ltb s.begun c) (ltb s.begun m) (begin s) _ _ (λ e. lt-ltb s.begun m (omega (arith, ltb-true s.begun c e))) f)

  module _ (d : List ℕ) where
    mutual
      unfolding read_body

      or8_body : (g : G) (s : State) → Or8 (read_body c d g s) (read_body m d g s)
      or8_body GConstant s = inl refl
      or8_body (GNumber k) s = inl refl
      or8_body (GArray g) s = or8_behind (take_number d 8 s) _ _ (λ n t. or8_test (leb n (free c s)) (leb n (free m s)) s _ _ (λ e. le-leb n (free m s) (omega (arith, leb-true n (free c s) e))) (or8_give VArray (or8_elements _ _ (λ u. or8_claimed _ _ u (or8_body g (begin u))) n t)))
      or8_body (GTuple gs) s = or8_give VTuple (or8_fields gs s)
      or8_body (GNumberArray k) s = inl refl
      or8_body (GTaggedUnion gs) s = or8_behind (take_number d 8 s) _ _ (λ n t. or8_give (VCase n) (or8_case gs n s t))

      or8_fields : (gs : Gs) (s : State) → Or8 (read_fields c d gs s) (read_fields m d gs s)
      or8_fields gnil s = inl refl
      or8_fields (gcons g gs) s = or8_both _ _ (or8_claimed _ _ s (or8_body g (begin s))) (λ t. or8_fields gs t)

      or8_case : (gs : Gs) (n : ℕ) (s t : State) → Or8 (read_case_at c d gs n s t) (read_case_at m d gs n s t)
      or8_case gnil n s t = inl refl
      or8_case (gcons g gs) zero s t = or8_claimed _ _ t (or8_body g (begin t))
      or8_case (gcons g gs) (suc n) s t = or8_case gs n s t

    pub or8_val : (g : G) (s : State) → Or8 (read_val c d g s) (read_val m d g s)
    or8_val g s = or8_claimed _ _ s (or8_body g (begin s))
