-- A reading with refusals and a parsing of the same bytes agree.
use Rattle.std.proofs.Common.{◌≡◌, refl, ap, subst, ◌∙◌, Bool, true, false, not, List, ℕ, zero, suc, ◌+◌, ◌-◌, ◌*◌, ◌/◌, ◌≤◌, ◌<◌, arith, length, take, drop, length-drop, drop-drop, leb, ltb, T, leb→le, le→leb, ltb→lt, nltb→le}
use Rattle.std.proofs.Math.Dec.{nleb→lt}
use Rattle.refusal.specs.Outcome.{Outcome, accepted, refused, bind, test}
use Rattle.refusal.proofs.Outcome.{Post, holds, fails, post_bind, post_weaken, bind-test}
use Rattle.packed.specs.Packed.{unpack_little_endian}
use Rattle.value.specs.Kinds.{width, element_width}
use Rattle.value.specs.Tree.{G, Gs, GConstant, GNumber, GArray, GTuple, GNumberArray, GTaggedUnion, gnil, gcons, Val, Vals, VConstant, VNumber, VArray, VTuple, VNumberArray, VCase, vnil, vcons, seq_g, seq_v, row_count, row_counts}
use Rattle.value.specs.Step.{Step, yield, give, both, elements}
use Rattle.value.specs.Parse.{Parse, missing, parse_number, parse_numbers, parse, parse_fields, parse_case_at}
use Rattle.value.specs.Reading.{State, Reading, stop, move, begin, claim, claimed, free, take_number, take_numbers, read_body, read_fields, read_case_at, read_val}
use Rattle.value.proofs.KindLaws.{element_width_positive}
use Rattle.value.proofs.Laws.{count_fits}

-- ---- rows

pub row_count_positive : (v : Val) → 0 < row_count v
unfolding row_count
row_count_positive VConstant = omega arith
row_count_positive (VNumber k n) = omega arith
row_count_positive (VArray vs) = omega arith
row_count_positive (VTuple vs) = omega arith
row_count_positive (VNumberArray k ns) = omega arith
row_count_positive (VCase c v) = omega arith

-- a count is never above the rows of what it counts
pub count-rows : (vs : Vals) → length (seq_v vs) ≤ row_counts vs
unfolding row_count
count-rows vnil = omega arith
count-rows (vcons v vs) = omega (arith, row_count_positive v, count-rows vs)

any : {E A : Type 0} (x : Outcome E A) → Post (λ _. Unit {0}) (λ _. Unit {0}) x
any (accepted a) = holds a tt
any (refused e) = fails e tt

pub gives : {E A : Type 0} {P : A → Type 0} {Q : E → Type 0} {a : A} → P a → Post P Q (accepted a)
gives p = holds _ p

-- as many elements as were asked for
pub elements-count : {E S : Type 0} (n : ℕ) (r : S → Outcome E (Step S Val)) (s : S) → Post (λ t. length (seq_v t.value) ≡ n) (λ _. Unit {0}) (elements n r s)
unfolding elements
elements-count zero r s = gives refl
elements-count (suc n) r s = post_bind _ (any (r s)) (λ a x. post_bind _ (elements-count n r a.state) (λ b y. gives (ap suc y)))

-- ---- reading and parsing

-- a reading from s beside a parsing of what stands there: the same value, its rows free at s and counted, the rest from the position on;
-- or no value; or rows that are too few for whatever is parsed
pub data Agrees (capacity : ℕ) (d : List ℕ) {A : Type 0} (rows : A → ℕ) (s : State) : Reading A → Parse A → Type 0 where
  same : (a : A) (t : State) → t.at ≤ length d → t.begun ≡ s.begun + rows a → rows a ≤ free capacity s → Agrees capacity d rows s (yield a t) (yield a (drop t.at d))
  neither : (n : ℕ) (t : State) → Agrees capacity d rows s (refused (stop n t)) missing
  short : (t : State) (y : Parse A) → Post (λ a. free capacity s < rows a.value) (λ _. Unit {0}) y → Agrees capacity d rows s (refused (stop 8 t)) y

module _ {capacity : ℕ} {d : List ℕ} where
  -- a function of the value, with m rows before it
  agrees_give : {A B : Type 0} {rows : A → ℕ} {rows' : B → ℕ} {s t : State} {x : Reading A} {y : Parse A} (m : ℕ) (f : A → B) → ((a : A) → rows' (f a) ≡ m + rows a) → t.begun ≡ s.begun + m → m ≤ free capacity s → Agrees capacity d rows t x y → Agrees capacity d rows' s (give f x) (give f y)
  agrees_give m f e b l (same a u h i j) = same (f a) u h (omega (arith, e a)) (omega (arith, e a))
  agrees_give m f e b l (neither n u) = neither n u
  agrees_give m f e b l (short u y p) = short u (give f y) (post_bind _ p (λ a h. gives (omega (arith, e a.value))))

  -- two tests of one meaning
  agrees_leb : {A : Type 0} {rows : A → ℕ} {s : State} (i j i' j' n : ℕ) (q : State) (k : Unit {0} → Reading A) (l : Unit {0} → Parse A) → (i ≤ j → i' ≤ j') → (i' ≤ j' → i ≤ j) → (i ≤ j → Agrees capacity d rows s (k tt) (l tt)) → Agrees capacity d rows s (test (leb i j) (stop n q) k) (test (leb i' j') tt l)
  agrees_leb {A} {rows} {s} i j i' j' n q k l f g c = go (leb i j) (leb i' j') (leb→le i j) (λ h. le→leb i' j' (f (leb→le i j h))) (λ h. le→leb i j (g (leb→le i' j' h)))
    where
      go : (a b : Bool) → (T a → i ≤ j) → (T a → T b) → (T b → T a) → Agrees capacity d rows s (test a (stop n q) k) (test b tt l)
      go true true e t u = c (e tt)
      go true false e t u = absurd (t tt)
      go false true e t u = absurd (u tt)
      go false false e t u = neither n q

  -- a test for rows
  agrees_free : {A : Type 0} {rows : A → ℕ} {s : State} {y : Parse A} (n m : ℕ) (q : State) (k : Unit {0} → Reading A) → (n ≤ m → Agrees capacity d rows s (k tt) y) → (m < n → Post (λ a. free capacity s < rows a.value) (λ _. Unit {0}) y) → Agrees capacity d rows s (test (leb n m) (stop 8 q) k) y
  agrees_free {A} {rows} {s} {y} n m q k c p = go (leb n m) (leb→le n m) (nleb→lt n m)
    where
      go : (b : Bool) → (T b → n ≤ m) → (T (not b) → m < n) → Agrees capacity d rows s (test b (stop 8 q) k) y
      go true f g = c (f tt)
      go false f g = short q y (p (g tt))

  agrees_claim : {y : Parse Val} (s : State) (r : State → Reading Val) → (s.begun < capacity → Agrees capacity d row_count s (r (begin s)) y) → Agrees capacity d row_count s (claimed capacity r s) y
  unfolding claim
  agrees_claim {y} s r c = go (ltb s.begun capacity) (ltb→lt s.begun capacity) (nltb→le s.begun capacity)
    where
      go : (b : Bool) → (T b → s.begun < capacity) → (T (not b) → capacity ≤ s.begun) → Agrees capacity d row_count s (bind (test b (stop 8 (begin s)) (λ _. accepted (begin s))) r) y
      go true f g = c (f tt)
      go false f g = let h : capacity ≤ s.begun = g tt in short (begin s) y (post_weaken (λ a _. omega (arith, row_count_positive a.value)) (λ e _. tt) (any y))

  agrees_number : {A : Type 0} {rows : A → ℕ} {s : State} (w : ℕ) (q : State) (k : Step State ℕ → Reading A) (l : Step (List ℕ) ℕ → Parse A) → q.at ≤ length d → ((n : ℕ) → q.at + w ≤ length d → Agrees capacity d rows s (k (record { value = n; state = move w q })) (l (record { value = n; state = drop (q.at + w) d }))) → Agrees capacity d rows s (bind (take_number d w q) k) (bind (parse_number w (drop q.at d)) l)
  unfolding take_number parse_number
  agrees_number {A} {rows} {s} w q k l h c =
      let e : length (drop q.at d) ≡ length d - q.at = length-drop q.at d in
      rw (bind-test _ _ _ k, bind-test _ _ _ l, drop-drop)
      (agrees_leb (q.at + w) (length d) w (length (drop q.at d)) _ q _ _ (λ i. omega arith) (λ i. omega arith) (λ i. c (unpack_little_endian w (take w (drop q.at d))) i))

  agrees_numbers : (w : ℕ) (q : State) → q.at ≤ length d → 0 < w → Agrees capacity d (λ _. 0) q (take_numbers d w q) (parse_numbers w (drop q.at d))
  unfolding take_numbers parse_numbers
  agrees_numbers w q h pos = agrees_number 8 q _ _ h (λ n i.
      let e : length (drop (q.at + 8) d) ≡ length d - q.at - 8 = length-drop (q.at + 8) d ∙ omega arith in
      rw (e, drop-drop) (agrees_leb n ((length d - q.at - 8) / w) n ((length d - q.at - 8) / w) _ q _ _ (λ j. j) (λ j. j) (λ j.
      same _ (move (w * n) (move 8 q)) (omega (arith, (count_fits pos).0 j)) (omega arith) (omega arith))))

  agrees_both : {s : State} {x : Reading Val} {y : Parse Val} (k : State → Reading Vals) (l : List ℕ → Parse Vals) → Agrees capacity d row_count s x y → ((t : State) → t.at ≤ length d → Agrees capacity d row_counts t (k t) (l (drop t.at d))) → Agrees capacity d row_counts s (both x k) (both y l)
  unfolding row_count
  agrees_both k l (same v t h i j) c = agrees_give (row_count v) (vcons v) (λ vs. refl) i j (c t h)
  agrees_both k l (neither n t) c = neither n t
  agrees_both k l (short t y p) c = short t (both y l) (post_bind _ p (λ a h. post_bind _ (any (l a.state)) (λ b _. gives (omega arith))))

  pub agrees_elements : (g : G) → ((s : State) → s.at ≤ length d → Agrees capacity d row_count s (read_val capacity d g s) (parse g (drop s.at d))) → (n : ℕ) (s : State) → s.at ≤ length d → Agrees capacity d row_counts s (elements n (read_val capacity d g) s) (elements n (parse g) (drop s.at d))
  unfolding elements row_count
  agrees_elements g r zero s h = same vnil s h (omega arith) (omega arith)
  agrees_elements g r (suc n) s h = agrees_both (elements n (read_val capacity d g)) (elements n (parse g)) (r s h) (λ t i. agrees_elements g r n t i)

module _ (capacity : ℕ) (d : List ℕ) where
  mutual
    unfolding read_body parse row_count

    -- a value begun at s
    agrees_body : (g : G) (s : State) → s.at ≤ length d → s.begun < capacity → Agrees capacity d row_count s (read_body capacity d g (begin s)) (parse g (drop s.at d))
    agrees_body GConstant s h b = same VConstant (begin s) h (omega arith) (omega arith)
    agrees_body (GNumber k) s h b = agrees_number (width k) (begin s) _ _ h (λ n i. same (VNumber k n) (move (width k) (begin s)) i (omega arith) (omega arith))
    agrees_body (GArray g) s h b = agrees_number 8 (begin s) _ _ h (λ n i. agrees_free n (free capacity (begin s)) (begin s) _
        (λ j. agrees_give 1 VArray (λ vs. refl) (omega arith) (omega arith) (agrees_elements g (λ t l. agrees_claim t (read_body capacity d g) (λ f. agrees_body g t l f)) n (move 8 (begin s)) i))
        (λ j. post_bind _ (elements-count n (parse g) (drop (s.at + 8) d)) (λ a e. gives (omega (arith, count-rows a.value)))))
    agrees_body (GTuple gs) s h b = agrees_give 1 VTuple (λ vs. refl) (omega arith) (omega arith) (agrees_fields gs (begin s) h)
    agrees_body (GNumberArray k) s h b = agrees_give 1 (VNumberArray k) (λ ns. omega arith) (omega arith) (omega arith) (agrees_numbers (element_width k) (begin s) h (element_width_positive k))
    agrees_body (GTaggedUnion gs) s h b = agrees_number 8 (begin s) _ _ h (λ c i. agrees_give 1 (VCase c) (λ v. refl) (omega arith) (omega arith) (agrees_case gs c (begin s) (move 8 (begin s)) i))

    pub agrees_fields : (gs : Gs) (s : State) → s.at ≤ length d → Agrees capacity d row_counts s (read_fields capacity d gs s) (parse_fields gs (drop s.at d))
    agrees_fields gnil s h = same vnil s h (omega arith) (omega arith)
    agrees_fields (gcons g gs) s h = agrees_both (read_fields capacity d gs) (parse_fields gs) (agrees_claim s (read_body capacity d g) (λ b. agrees_body g s h b)) (λ t i. agrees_fields gs t i)

    agrees_case : (gs : Gs) (c : ℕ) (q s : State) → s.at ≤ length d → Agrees capacity d row_count s (read_case_at capacity d gs c q s) (parse_case_at gs c (drop s.at d))
    agrees_case gnil c q s h = neither _ q
    agrees_case (gcons g gs) zero q s h = agrees_claim s (read_body capacity d g) (λ b. agrees_body g s h b)
    agrees_case (gcons g gs) (suc c) q s h = agrees_case gs c q s h

  pub agrees : (g : G) (s : State) → s.at ≤ length d → Agrees capacity d row_count s (read_val capacity d g s) (parse g (drop s.at d))
  agrees g s h = agrees_claim s (read_body capacity d g) (λ b. agrees_body g s h b)

-- what an accepted reading says: it ends inside the record, and the rows of what it read were free and are counted
pub agrees_accepted : {A : Type 0} {capacity : ℕ} {d : List ℕ} {rows : A → ℕ} {s : State} {x : Reading A} {y : Parse A} → Agrees capacity d rows s x y → (t : Step State A) → x ≡ accepted t → (t.state.at ≤ length d) × (t.state.begun ≡ s.begun + rows t.value) × (rows t.value ≤ free capacity s)
agrees_accepted {A} {capacity} {d} {rows} {s} (same a u h b f) t e =
    let q : record { value = a; state = u } ≡ t = cc in
    subst (λ (w : Step State A). (w.state.at ≤ length d) × (w.state.begun ≡ s.begun + rows w.value) × (rows w.value ≤ free capacity s)) q (h, b, f)
agrees_accepted (neither n u) t e = let z : ◌≡◌ {A = ℕ} 0 1 = cc in absurd (omega arith)
agrees_accepted (short u y p) t e = let z : ◌≡◌ {A = ℕ} 0 1 = cc in absurd (omega arith)

-- as many fields as grammars
pub fields_count : (capacity : ℕ) (d : List ℕ) (gs : Gs) (s : State) → Post (λ t. length (seq_v t.value) ≡ length (seq_g gs)) (λ _. Unit {0}) (read_fields capacity d gs s)
unfolding read_body
fields_count capacity d gnil s = gives refl
fields_count capacity d (gcons g gs) s = post_bind _ (any (read_val capacity d g s)) (λ a x. post_bind _ (fields_count capacity d gs a.state) (λ b y. gives (ap suc y)))
