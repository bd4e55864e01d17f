-- Where an accepted reading ends: behind the bytes of what was read. So the size of a value is the position behind it less its start.
use Rattle.std.proofs.Common.{◌≡◌, refl, ◌∙◌, List, ℕ, zero, suc, ◌+◌, ◌-◌, ◌*◌, ◌/◌, arith, length, take, drop, leb, ltb}
use Rattle.refusal.proofs.Outcome.{Post, fails, post_bind, post_test, bind-test}
use Rattle.packed.specs.Packed.{unpack_little_endian}
use Rattle.packed.proofs.Laws.{length_unpack_seq}
use Rattle.value.specs.Kinds.{width, element_width}
use Rattle.value.specs.Tree.{G, Gs, GConstant, GNumber, GArray, GTuple, GNumberArray, GTaggedUnion, gnil, gcons, Val, Vals, VArray, VTuple, VNumberArray, VCase, SizeOfV, SeqSum}
use Rattle.value.specs.Step.{Step, next, give, both, elements}
use Rattle.value.specs.Reading.{State, Stop, Reading, move, begin, claim, claimed, free, take_number, take_numbers, read_body, read_fields, read_case_at, read_val}
use Rattle.value.proofs.Agreement.{gives}

-- what was read from byte p on, and the position behind its bytes
pub record Behind {A : Type 0} (size : A → ℕ) (p : ℕ) (t : Step State A) : Type 0 where
  pub at : t.state.at ≡ p + size t.value

abbrev pub EndsBehind : {A : Type 0} → (A → ℕ) → ℕ → Reading A → Type 0
EndsBehind size p x = Post (Behind size p) (λ (e : Stop). Unit {0}) x

-- a function of the value, which may start before it
ends-give : {A B : Type 0} {size : A → ℕ} {size' : B → ℕ} {p q : ℕ} {x : Reading A} (f : A → B) → EndsBehind size q x → ((a : A) → q + size a ≡ p + size' (f a)) → EndsBehind size' p (give f x)
ends-give f c e = post_bind _ c (λ a h. gives (record { at = h.at ∙ e a.value }))

ends-both : {p : ℕ} {x : Reading Val} (k : State → Reading Vals) → EndsBehind SizeOfV p x → ((t : State) → EndsBehind SeqSum t.at (k t)) → EndsBehind SeqSum p (both x k)
unfolding SizeOfV
ends-both k c f = post_bind _ c (λ a h. post_bind _ (f a.state) (λ b i. gives (record { at = omega (arith, h.at, i.at) })))

module _ (capacity : ℕ) where
  ends-claimed : (k : State → Reading Val) (s : State) → EndsBehind SizeOfV s.at (k (begin s)) → EndsBehind SizeOfV s.at (claimed capacity k s)
  unfolding claim
  ends-claimed k s c = rw (bind-test _ _ _ k) (post_test (ltb s.begun capacity) _ _ (λ _. c) (λ _. tt))

  ends-all : (k : State → Reading Val) → ((s : State) → EndsBehind SizeOfV s.at (k s)) → (n : ℕ) (s : State) → EndsBehind SeqSum s.at (elements n k s)
  unfolding elements SizeOfV
  ends-all k c zero s = gives (record { at = omega arith })
  ends-all k c (suc n) s = ends-both (elements n k) (c s) (λ t. ends-all k c n t)

  module _ (d : List ℕ) where
    -- a number, and what goes on from it
    ends-number : {A : Type 0} {size : A → ℕ} {p : ℕ} (w : ℕ) (s : State) (k : ℕ → State → Reading A) → ((n : ℕ) → EndsBehind size p (k n (move w s))) → EndsBehind size p (next (take_number d w s) k)
    unfolding take_number
    ends-number w s k c = rw (bind-test (leb (s.at + w) (length d)) _ _ _) (post_test (leb (s.at + w) (length d)) _ _ (λ _. c (unpack_little_endian w (take w (drop s.at d)))) (λ _. tt))

    ends-numbers : (w : ℕ) (s : State) → EndsBehind (λ ns. 8 + w * length ns) s.at (take_numbers d w s)
    unfolding take_numbers
    ends-numbers w s = ends-number 8 s _ (λ n. post_test (leb n ((length d - s.at - 8) / w)) _ _ (λ _. gives (record { at = rw (length_unpack_seq w (take (w * n) (drop (s.at + 8) d)) n) (omega arith) })) (λ _. tt))

    mutual
      unfolding read_body SizeOfV

      pub ends_body : (g : G) (s : State) → EndsBehind SizeOfV s.at (read_body capacity d g s)
      ends_body GConstant s = gives (record { at = omega arith })
      ends_body (GNumber k) s = ends-number (width k) s _ (λ n. gives (record { at = refl }))
      ends_body (GArray g) s = ends-number 8 s _ (λ n. post_test (leb n (free capacity s)) _ _ (λ _. ends-give VArray (ends-all (read_val capacity d g) (λ t. ends-claimed (read_body capacity d g) t (ends_body g (begin t))) n (move 8 s)) (λ vs. omega arith)) (λ _. tt))
      ends_body (GTuple gs) s = ends-give VTuple (ends_fields gs s) (λ vs. refl)
      ends_body (GNumberArray k) s = ends-give (VNumberArray k) (ends-numbers (element_width k) s) (λ ns. refl)
      ends_body (GTaggedUnion gs) s = ends-number 8 s _ (λ c. ends-give (VCase c) (ends-case gs c s (move 8 s)) (λ v. omega arith))

      pub ends_fields : (gs : Gs) (s : State) → EndsBehind SeqSum s.at (read_fields capacity d gs s)
      ends_fields gnil s = gives (record { at = omega arith })
      ends_fields (gcons g gs) s = ends-both (read_fields capacity d gs) (ends-claimed (read_body capacity d g) s (ends_body g (begin s))) (λ t. ends_fields gs t)

      ends-case : (gs : Gs) (c : ℕ) (s t : State) → EndsBehind SizeOfV t.at (read_case_at capacity d gs c s t)
      ends-case gnil c s t = fails _ tt
      ends-case (gcons g gs) zero s t = ends-claimed (read_body capacity d g) t (ends_body g (begin t))
      ends-case (gcons g gs) (suc c) s t = ends-case gs c s t

    pub ends-value : (g : G) (s : State) → EndsBehind SizeOfV s.at (read_val capacity d g s)
    ends-value g s = ends-claimed (read_body capacity d g) s (ends_body g (begin s))

    pub ends-elements : (g : G) (n : ℕ) (s : State) → EndsBehind SeqSum s.at (elements n (read_val capacity d g) s)
    ends-elements g n s = ends-all (read_val capacity d g) (λ t. ends-value g t) n s
