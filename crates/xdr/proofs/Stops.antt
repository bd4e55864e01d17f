-- Where an import is refused, and what a refusal says of the values that the bytes begin with.
use Rattle.std.proofs.Common.{◌≡◌, sym, ap, ◌⊎◌, inl, inr, List, ◌++◌, ℕ, zero, suc, ◌+◌, ◌-◌, ◌*◌, ◌≤◌, ◌<◌, arith, length, take, drop, length-drop, leb, ltb, leb→le}
use Rattle.refusal.specs.Outcome.{refused, Reason, reason, byte}
use Rattle.refusal.proofs.Outcome.{Post, fails, post_bind, post_test, bind-test, clash}
use Rattle.packed.proofs.Calls.{room-test}
use Rattle.value.specs.Kinds.{width, Elements, element_width}
use Rattle.value.specs.Tree.{G, Gs, GConstant, GNumber, GArray, GTuple, GNumberArray, GTaggedUnion, gnil, gcons, Val, Vals, VArray, VTuple, VNumberArray, VCase, vcons, ValueOf, row_count}
use Rattle.value.specs.Step.{Step, next, give, both, elements}
use Rattle.value.proofs.Agreement.{gives}
use Rattle.xdr.specs.Xdr.{padding, xdr_of, xdr_size, store_of}
use Rattle.xdr.specs.Import.{Filling, Importing, start, move, begin, zeros, claim, claimed, free, take_number, check_body, take_numbers, import_body, import_fields, import_case_at, import_val}
use Rattle.xdr.proofs.Import.{Small, Fate, fits, few, tight, import_fate}

abbrev number_of : Reason → ℕ
number_of (reason n l) = n

-- the numbers of an import, with their places: a byte of the record, or the store's length
pub data Stops (d : List ℕ) (len : ℕ) : Reason → Type 0 where
  stops8 : (p : ℕ) → p ≤ length d → Stops d len (reason 8 (byte p))
  stops9 : (p : ℕ) → p ≤ length d → Stops d len (reason 9 (byte p))
  stops10 : (p : ℕ) → p ≤ length d → Stops d len (reason 10 (byte p))
  stops17 : Stops d len (reason 17 (byte len))
  stops23 : (p : ℕ) → p ≤ length d → Stops d len (reason 23 (byte p))

module _ (capacity len : ℕ) (d : List ℕ) where
  -- an accepted import ends inside the record, a refused one stops at such a place
  abbrev Stays : {A : Type 0} → Importing A → Type 0
  Stays {A} x = Post (λ (t : Step Filling A). t.state.at ≤ length d) (Stops d len) x

  stays_give : {A B : Type 0} (f : A → B) {x : Importing A} → Stays x → Stays (give f x)
  stays_give f h = post_bind _ h (λ a l. gives l)

  stays_both : {x : Importing Val} (k : Filling → Importing Vals) → Stays x → ((t : Filling) → t.at ≤ length d → Stays (k t)) → Stays (both x k)
  stays_both k h f = post_bind _ h (λ a l. stays_give (vcons a.value) (f a.state l))

  stays_claimed : (s : Filling) (k : Filling → Importing Val) → s.at ≤ length d → Stays (k (begin s)) → Stays (claimed capacity k s)
  unfolding claim
  stays_claimed s k h f = rw (bind-test _ _ _ k) (post_test (ltb s.begun capacity) _ _ (λ _. f) (λ _. stops8 s.at h))

  stays_number : {A : Type 0} (w : ℕ) (s : Filling) (k : ℕ → Filling → Importing A) → s.at ≤ length d → ((n : ℕ) → s.at + w ≤ length d → Stays (k n (move w s))) → Stays (next (take_number d w s) k)
  unfolding take_number
  stays_number w s k h f = rw (bind-test (leb (s.at + w) (length d)) _ _ _) (post_test (leb (s.at + w) (length d)) _ _ (λ b. f _ (leb→le (s.at + w) (length d) b)) (λ _. stops9 s.at h))

  stays_body : (used size p : ℕ) (part : List ℕ) → p ≤ length d → Post (λ _. size + padding size ≤ length part) (Stops d len) (check_body len used size part p)
  unfolding check_body
  stays_body used size p part h =
      rw (room-test len used size, bind-test (leb (used + size) len))
      (post_test (leb (size + padding size) (length part)) _ _
      (λ a. post_test (leb (used + size) len) _ _ (λ _. post_test (zeros (take (padding size) (drop size part))) _ _ (λ _. gives (leb→le (size + padding size) (length part) a)) (λ _. stops23 p h)) (λ _. stops17))
      (λ _. stops9 p h))

  stays_numbers : (k : Elements) (s : Filling) → s.at ≤ length d → Stays (take_numbers d len k s)
  unfolding take_numbers
  stays_numbers k s h = stays_number 4 s _ h (λ n l. post_bind _ (stays_body s.used (element_width k * n) s.at (drop (s.at + 4) d) h) (λ _ m.
      let e : length (drop (s.at + 4) d) ≡ length d - (s.at + 4) = length-drop (s.at + 4) d in
      gives (omega arith)))

  stays_elements : (k : Filling → Importing Val) → ((s : Filling) → s.at ≤ length d → Stays (k s)) → (n : ℕ) (s : Filling) → s.at ≤ length d → Stays (elements n k s)
  unfolding elements
  stays_elements k f zero s h = gives h
  stays_elements k f (suc n) s h = stays_both (elements n k) (f s h) (λ t l. stays_elements k f n t l)

  mutual
    unfolding import_body

    body_stays : (g : G) (s : Filling) → s.at ≤ length d → Stays (import_body capacity len d g s)
    body_stays GConstant s h = gives h
    body_stays (GNumber k) s h = stays_number (width k) s _ h (λ n l. gives l)
    body_stays (GArray g) s h = stays_number 4 s _ h (λ n l. post_test (leb n (free capacity s)) _ _ (λ _. stays_give VArray (stays_elements _ (λ u i. stays_claimed u _ i (body_stays g (begin u) i)) n (move 4 s) l)) (λ _. stops8 s.at h))
    body_stays (GTuple gs) s h = stays_give VTuple (fields_stay gs s h)
    body_stays (GNumberArray k) s h = stays_give (VNumberArray k) (stays_numbers k s h)
    body_stays (GTaggedUnion gs) s h = stays_number 4 s _ h (λ c l. stays_give (VCase c) (case_stays gs c s (move 4 s) h l))

    fields_stay : (gs : Gs) (s : Filling) → s.at ≤ length d → Stays (import_fields capacity len d gs s)
    fields_stay gnil s h = gives h
    fields_stay (gcons g gs) s h = stays_both (import_fields capacity len d gs) (stays_claimed s _ h (body_stays g (begin s) h)) (λ t l. fields_stay gs t l)

    case_stays : (gs : Gs) (c : ℕ) (s t : Filling) → s.at ≤ length d → t.at ≤ length d → Stays (import_case_at capacity len d gs c s t)
    case_stays gnil c s t h i = fails _ (stops10 s.at h)
    case_stays (gcons g gs) zero s t h i = stays_claimed t _ i (body_stays g (begin t) i)
    case_stays (gcons g gs) (suc c) s t h i = case_stays gs c s t h i

  pub import_stays : (g : G) → Post (λ t. t.state.at ≤ length d) (Stops d len) (import_val capacity len d g start)
  import_stays g = stays_claimed start (import_body capacity len d g) (omega arith) (body_stays g (begin start) (omega arith))

  -- of a value that the record begins with: it is imported, or refused with 8 for want of rows, or with 17 for want of room
  pub front-refused : (g : G) (v : Val) (rest : List ℕ) → ValueOf g v → Small v → d ≡ xdr_of v ++ rest → (n : ℕ) (p : ℕ) → import_val capacity len d g start ≡ refused (reason n (byte p)) → ((n ≡ 8) × (capacity < row_count v)) ⊎ ((n ≡ 17) × (len < length (store_of v)))
  front-refused g v rest o m e n p h = go (import_fate capacity len d o.in_grammar o.typed m start rest (omega arith) e) h
    where
      go : {x : Importing Val} → Fate capacity len v (xdr_size v) (row_count v) (length (store_of v)) start x → x ≡ refused (reason n (byte p)) → ((n ≡ 8) × (capacity < row_count v)) ⊎ ((n ≡ 17) × (len < length (store_of v)))
      go (fits t a b c i j) q = clash (sym q)
      go (few r a) q = let z : reason 8 (byte r) ≡ reason n (byte p) = cc in inl (sym (ap number_of z), omega arith)
      go (tight a) q = let z : reason 17 (byte len) ≡ reason n (byte p) = cc in inr (sym (ap number_of z), omega arith)
