-- The readers of the cycle: how an import of parts makes an import of the whole, with its rows and its store.
use mathlib.Core.Path.{◌≡◌, refl, ap, sym, subst, ◌∙◌}
use mathlib.Core.Logic.{inl, inr, ⊎_elim}
use mathlib.Core.Bool.{Bool, true, false}
use mathlib.Core.List.{List, [], ◌∷◌, ◌++◌, append-nil}
use Prim.Native.Nat.{ℕ, zero, suc, ◌+◌, ◌-◌, ◌*◌, ◌^◌, ◌≤◌, ◌<◌}
use native.Mathlib.Nat.{add-zero}
use native.Mathlib.Numerals.{add-one}
use native.Mathlib.Decide.{dec_le, dec_lt}
use native.Mathlib.Omega.{arith}
use lib.ListN.{length, get_or}
use lib.Dec.{leb, ltb}
use borrow.Author.Tests.{lt-ltb, le-ltb, le-leb, lt-leb, ltb-true}
use Rattle.refusal.specs.Outcome.{Outcome, accepted, refused, bind, test, map, Reason}
use Rattle.refusal.specs.Meaning.{reason_of}
use Rattle.refusal.specs.declared.Refusal.{Refusal}
use Rattle.refusal.proofs.Outcome.{clash, map-accepted, test-true, test-false, test_passed, bind_inverse, post_accepted}
use Rattle.packed.specs.Packed.{Bytes, Below, put_within, Lent}
use Rattle.packed.proofs.Fitting.{put_within-nothing, put_within-behind, put_within-before}
use Rattle.value.specs.Kinds.{Kind, kind_of, last_kind, array, tuple, union}
use Rattle.value.specs.Tree.{G, Gs, GArray, GTuple, GTaggedUnion, gnil, gcons, Val, Vals, VArray, VTuple, VCase, vnil, vcons, seq_g, seq_v, case_at, ValidGrammar, ValidGrammars, SizeOfV, SeqSum, row_count, row_counts}
use Rattle.value.specs.Step.{Step, yield, next, give, both, elements}
use Rattle.tables.specs.Grammar.{node_count, kind_word, first_word, count_word, child_word}
use Rattle.tables.specs.Row.{row_width, laid}
use Rattle.grammar.specs.Rule.{CountRule}
use Rattle.grammar.specs.Tree.{node_tree, child_trees, tree_of}
use Rattle.grammar.proofs.Rule.{node-inside, child_inside}
use Rattle.grammar.proofs.Tree.{tree_node, tree_valid, trees_length, trees_at_lem}
use Rattle.rows.specs.Layout.{own_row}
use Rattle.xdr.specs.Xdr.{xdr_size, store_of, store_of_all, rows_in, rows_in_all}
use Rattle.xdr.specs.Import.{Filling, Importing, refusal, begin, claim, free, take_number, import_body, import_fields, import_case_at, import_val}
use Rattle.xdr.proofs.Sizes.{sizes}
use Rattle.xdr.proofs.Rows.{length-rows_in, length-rows_in_all}
use Rattle.xdr.proofs.Import.{import_takes, fields_takes}
use Rattle.importing.specs.declared.Filling.{Filling as CodeFilling}
use Rattle.importing.specs.declared.Lent.{Lent as CodeLent}
use Rattle.std.specs.Prelude.{Ok, Err}
use Rattle.importing.specs.Meaning.{CodeStep, filling_of, step_of, StepSize}
use Rattle.importing.specs.Brings.{Ready, Brings, take_below, closed, Counted, child_place, node_at, trees_at, Table, Children, Node, RowClaimed}
use Rattle.importing.proofs.Laws.{brings_refused, brings_next, take_moves, node-named}

-- ---- buffers

lent_fewer : (m n : ℕ) (l : List ℕ) → n ≤ m → Lent m l → Lent n l
lent_fewer m n l h r = ⊎_elim (λ (e : l ≡ []). inl e) (λ (f : m ≤ length l). inr (omega arith)) r

-- a buffer of the same length
lent-kept : (n : ℕ) (l m : List ℕ) → length m ≡ length l → Lent n l → Lent n m
lent-kept n l m e r = ⊎_elim (λ (q : l ≡ []). inl (none m (e ∙ ap length q))) (λ (h : n ≤ length l). inr (omega arith)) r
  where
    none : (k : List ℕ) → length k ≡ 0 → k ≡ []
    none [] h = refl
    none (x ∷ k) h = absurd (omega arith)

-- ---- what a matched answer says

module _ {A : Type 0} {rows_at : A → ℕ → List ℕ} {storeAt : A → List ℕ} {size_at : A → ℕ} {x : Importing A} {row used size : ℕ} {rows₀ store₀ rows₁ store₁ : List ℕ} {r : CodeStep} where
  pub went_on : (u : CodeFilling) → r ≡ Ok u → Brings rows_at storeAt size_at x row used size rows₀ store₀ r rows₁ store₁ → (a : A) × (x ≡ yield a (filling_of u)) × (rows₁ ≡ laid rows₀ row (rows_at a used)) × (store₁ ≡ put_within store₀ used (storeAt a)) × (u.size ≡ size + size_at a)
  went_on u e b =
      let q : accepted (filling_of u) ≡ map (λ t. t.state) x = ap step_of (sym e) ∙ b.answers in
      let m = map-accepted (λ (t : Step Filling A). t.state) x (sym q) in
      (m.0.value, m.1 ∙ ap (λ (s : Filling). yield m.0.value s) (sym m.2), b.rows m.0 m.1, b.store m.0 m.1, subst (StepSize (size + size_at m.0.value)) e (b.size m.0 m.1))

  pub stopped : (f : Refusal) → r ≡ Err f → Brings rows_at storeAt size_at x row used size rows₀ store₀ r rows₁ store₁ → refused (reason_of f) ≡ x
  stopped f e b = sym (go x (ap step_of (sym e) ∙ b.answers))
    where
      go : (y : Importing A) → refused (reason_of f) ≡ map (λ t. t.state) y → y ≡ refused (reason_of f)
      go (accepted t) h = clash h
      go (refused g) h = cc

  -- where what was imported is something else, with the same rows, bytes and size
  pub brings_as : {B : Type 0} {rowsAs : B → ℕ → List ℕ} {storeAs : B → List ℕ} {sizeAs : B → ℕ} (f : B → A) (y : Importing B) → x ≡ give f y → ((b : B) → rows_at (f b) used ≡ rowsAs b used) → ((b : B) → storeAt (f b) ≡ storeAs b) → ((b : B) → size_at (f b) ≡ sizeAs b) → Brings rows_at storeAt size_at x row used size rows₀ store₀ r rows₁ store₁ → Brings rowsAs storeAs sizeAs y row used size rows₀ store₀ r rows₁ store₁
  brings_as {B} f y e p q z b = record {
    answers = b.answers ∙ ap (map (λ (t : Step Filling A). t.state)) e ∙ same y;
    rows = λ t h. b.rows (record { value = f t.value; state = t.state }) (e ∙ ap (give f) h) ∙ ap (laid rows₀ row) (p t.value);
    store = λ t h. b.store (record { value = f t.value; state = t.state }) (e ∙ ap (give f) h) ∙ ap (put_within store₀ used) (q t.value);
    size = λ t h. subst (λ (n : ℕ). StepSize (size + n) r) (z t.value) (b.size (record { value = f t.value; state = t.state }) (e ∙ ap (give f) h));
  }
    where
      same : (z : Importing B) → map (λ (t : Step Filling A). t.state) (give f z) ≡ map (λ (t : Step Filling B). t.state) z
      same (accepted t) = refl
      same (refused g) = refl

give-accepted : {A B : Type 0} (f : A → B) (x : Importing A) (t : Step Filling B) → give f x ≡ accepted t → (u : Step Filling A) × (x ≡ accepted u) × (t ≡ record { value = f u.value; state = u.state })
give-accepted f (accepted u) t h = (u, refl, cc)
give-accepted f (refused e) t h = clash h

map-give : {A B : Type 0} (f : A → B) (x : Importing A) → map (λ t. t.state) (give f x) ≡ map (λ t. t.state) x
map-give f (accepted t) = refl
map-give f (refused e) = refl

-- ---- values one behind the other

pub brings_none : (rows store : List ℕ) (u : CodeFilling) → Brings rows_in_all store_of_all SeqSum (yield vnil (filling_of u)) u.begun u.used u.size rows store (Ok u) rows store
unfolding rows_in store_of SizeOfV
brings_none rows store u = brings_next u vnil refl (sym (put_within-nothing rows (row_width * u.begun))) (sym (put_within-nothing store u.used)) (sym (add-zero u.size))

-- a value that was imported, with what is imported behind it
module _ {x : Importing Val} {capacity len row used size : ℕ} {rows₀ store₀ rows₁ store₁ rows₂ store₂ : List ℕ} {r : CodeStep} (k : Filling → Importing Vals) (u : CodeFilling) (v : Val) (e : x ≡ yield v (filling_of u)) (b : u.begun ≡ row + row_count v) (h : u.used ≡ used + length (store_of v)) (m : rows₁ ≡ laid rows₀ row (rows_in v used)) (n : store₁ ≡ put_within store₀ used (store_of v)) (o : u.size ≡ size + SizeOfV v) (lr : Lent (row_width * capacity) rows₀) (ls : Lent len store₀) where
  pub brings_both : ((t : Step Filling Vals) → k (filling_of u) ≡ accepted t → (u.begun + row_counts t.value ≤ capacity) × (u.used + length (store_of_all t.value) ≤ len)) → Brings rows_in_all store_of_all SeqSum (k (filling_of u)) u.begun u.used u.size rows₁ store₁ r rows₂ store₂ → Brings rows_in_all store_of_all SeqSum (both x k) row used size rows₀ store₀ r rows₂ store₂
  unfolding rows_in store_of SizeOfV
  brings_both few rest = record {
    answers = rest.answers ∙ sym (ap (λ (y : Importing Val). map (λ t. t.state) (both y k)) e ∙ map-give (vcons v) (k (filling_of u)));
    rows = λ t f.
        let q = give-accepted (vcons v) (k (filling_of u)) t (sym (ap (λ (y : Importing Val). both y k) e) ∙ f) in
        let vs = q.0.value in
        let i = length-rows_in v used in
        let j = length-rows_in_all vs (used + length (store_of v)) in
        let l = (few q.0 q.1).0 in
        rest.rows q.0 q.1 ∙ ap (λ (z : List ℕ). laid z u.begun (rows_in_all vs u.used)) m ∙ ap (λ (p : ℕ). laid (laid rows₀ row (rows_in v used)) u.begun (rows_in_all vs p)) h
        ∙ put_within-behind rows₀ (row_width * row) (row_width * u.begun) (rows_in v used) (rows_in_all vs (used + length (store_of v))) (omega arith) (lent_fewer (row_width * capacity) _ rows₀ (omega arith) lr)
        ∙ ap (λ (y : Step Filling Vals). laid rows₀ row (rows_in_all y.value used)) (sym q.2);
    store = λ t f.
        let q = give-accepted (vcons v) (k (filling_of u)) t (sym (ap (λ (y : Importing Val). both y k) e) ∙ f) in
        let vs = q.0.value in
        let l = (few q.0 q.1).1 in
        rest.store q.0 q.1 ∙ ap (λ (z : List ℕ). put_within z u.used (store_of_all vs)) n
        ∙ put_within-behind store₀ used u.used (store_of v) (store_of_all vs) h (lent_fewer len _ store₀ (omega arith) ls)
        ∙ ap (λ (y : Step Filling Vals). put_within store₀ used (store_of_all y.value)) (sym q.2);
    size = λ t f.
        let q = give-accepted (vcons v) (k (filling_of u)) t (sym (ap (λ (y : Importing Val). both y k) e) ∙ f) in
        let vs = q.0.value in
        let z : u.size + SeqSum vs ≡ size + (SizeOfV v + SeqSum vs) = omega (arith, o) in
        subst (λ (n : ℕ). StepSize n r) (z ∙ ap (λ (y : Step Filling Vals). size + SeqSum y.value) (sym q.2)) (rest.size q.0 q.1);
  }

-- ---- a parent's row, laid before its children's

module _ {A : Type 0} {rows_at : A → ℕ → List ℕ} {storeAt : A → List ℕ} {size_at : A → ℕ} {x : Importing A} {capacity row used size : ℕ} {rows₀ store₀ rows₁ store₁ : List ℕ} (f : A → Val) (kind word2 start : ℕ) (lr : Lent (row_width * capacity) rows₀) where
  pub brings_close : (c : CodeStep) → ((t : Step Filling A) → x ≡ accepted t → (rows_in (f t.value) used ≡ (kind ∷ (t.state.begun - row) ∷ word2 ∷ 0 ∷ SizeOfV (f t.value) ∷ []) ++ rows_at t.value used) × (store_of (f t.value) ≡ storeAt t.value) × (row + row_count (f t.value) ≤ capacity) × (start + SizeOfV (f t.value) ≡ size + size_at t.value)) → Brings rows_at storeAt size_at x (suc row) used size rows₀ store₀ c rows₁ store₁ → Brings rows_in store_of SizeOfV (give f x) row used start rows₀ store₀ c (closed row kind word2 start c rows₁) store₁
  brings_close (Ok u) own b =
      let w = went_on u refl b in
      let o = own (record { value = w.0; state = filling_of u }) w.1 in
      let ws = kind ∷ (u.begun - row) ∷ word2 ∷ 0 ∷ SizeOfV (f w.0) ∷ [] in
      let z : u.size - start ≡ SizeOfV (f w.0) = omega (arith, w.4, o.3) in
      let n : length (rows_in (f w.0) used) ≡ row_width + length (rows_at w.0 used) = ap length o.0 ∙ omega arith in
      let l = length-rows_in (f w.0) used in
      brings_next u (f w.0) (sym (ap (give f) w.1))
      (ap (λ (i : ℕ). laid rows₁ row (kind ∷ (u.begun - row) ∷ word2 ∷ 0 ∷ i ∷ [])) z ∙ ap (λ (l : List ℕ). laid l row ws) w.2 ∙ put_within-before rows₀ (row_width * row) (row_width * suc row) ws (rows_at w.0 used) (omega arith) (lent_fewer (row_width * capacity) _ rows₀ (omega (arith, o.2)) lr) ∙ ap (laid rows₀ row) (sym o.0))
      (w.3 ∙ ap (put_within store₀ used) (sym o.1))
      (w.4 ∙ sym o.3)
  brings_close (Err g) own b = brings_refused g (ap (give f) (stopped g refl b))

-- ---- heads: a count or a tag below its limit, and what is imported behind it

ltb-leb : (n m : ℕ) → ltb n (m + 1) ≡ leb n m
ltb-leb n m = go (dec_le n m)
  where
    go : Dec (n ≤ m) → ltb n (m + 1) ≡ leb n m
    go (yes l) = lt-ltb n (m + 1) (omega arith) ∙ sym (le-leb n m l)
    go (no l) = le-ltb n (m + 1) (omega arith) ∙ sym (lt-leb n m (omega arith))

next-same : {A B : Type 0} (x : Importing A) (k l : A → Filling → Importing B) → ((a : A) (t : Filling) → k a t ≡ l a t) → next x k ≡ next x l
next-same (accepted t) k l h = h t.value t.state
next-same (refused e) k l h = refl

head_then : {A : Type 0} (x : Importing ℕ) (b : ℕ → Bool) (e : Reason) (k : ℕ → Filling → Importing A) → next (next x (λ n t. test (b n) e (λ _. yield n t))) k ≡ next x (λ n t. test (b n) e (λ _. k n t))
head_then (refused r) b e k = refl
head_then (accepted t) b e k = go (b t.value)
  where
    go : (c : Bool) → next (test c e (λ _. yield t.value t.state)) k ≡ test c e (λ _. k t.value t.state)
    go true = refl
    go false = refl

module _ (capacity len : ℕ) (d : List ℕ) (s : Filling) where
  -- an array of g, whose count is at most the rows left
  array_body : (g : G) → next (take_below d (free capacity s + 1) 8 s) (λ n t. give VArray (elements n (import_val capacity len d g) t)) ≡ import_body capacity len d (GArray g) s
  unfolding take_below import_body
  array_body g =
      head_then (take_number d 4 s) (λ n. ltb n (free capacity s + 1)) (refusal 8 s) (λ n t. give VArray (elements n (import_val capacity len d g) t))
      ∙ next-same (take_number d 4 s) _ _ (λ n t. ap (λ (b : Bool). test b (refusal 8 s) (λ _. give VArray (elements n (import_val capacity len d g) t))) (ltb-leb n (free capacity s)))

  case-below : (gs : Gs) (c : ℕ) (t : Filling) → c < length (seq_g gs) → import_case_at capacity len d gs c s t ≡ import_val capacity len d (case_at gs c) t
  unfolding import_body
  case-below gnil c t h = absurd (omega arith)
  case-below (gcons g gs) zero t h = refl
  case-below (gcons g gs) (suc c) t h = case-below gs c t (omega arith)

  case-above : (gs : Gs) (c : ℕ) (t : Filling) → length (seq_g gs) ≤ c → import_case_at capacity len d gs c s t ≡ refused (refusal 10 s)
  unfolding import_body
  case-above gnil c t h = refl
  case-above (gcons g gs) zero t h = absurd (omega arith)
  case-above (gcons g gs) (suc c) t h = case-above gs c t (omega arith)

  -- a case, whose tag is below the case count
  case_body : (gs : Gs) → next (take_below d (length (seq_g gs)) 10 s) (λ c t. give (VCase c) (import_val capacity len d (case_at gs c) t)) ≡ import_body capacity len d (GTaggedUnion gs) s
  unfolding take_below import_body
  case_body gs =
      head_then (take_number d 4 s) (λ c. ltb c (length (seq_g gs))) (refusal 10 s) (λ c t. give (VCase c) (import_val capacity len d (case_at gs c) t))
      ∙ next-same (take_number d 4 s) _ _ (λ c t. chosen c t (dec_lt c (length (seq_g gs))))
    where
      chosen : (c : ℕ) (t : Filling) → Dec (c < length (seq_g gs)) → test (ltb c (length (seq_g gs))) (refusal 10 s) (λ _. give (VCase c) (import_val capacity len d (case_at gs c) t)) ≡ give (VCase c) (import_case_at capacity len d gs c s t)
      chosen c t (yes l) = test-true _ _ (lt-ltb c (length (seq_g gs)) l) ∙ ap (give (VCase c)) (sym (case-below gs c t l))
      chosen c t (no l) = test-false _ _ (le-ltb c (length (seq_g gs)) (omega arith)) ∙ ap (give (VCase c)) (sym (case-above gs c t (omega arith)))

-- a state behind a count or a tag
pub below_taken : (d : List ℕ) (limit number : ℕ) (s : Filling) (n : ℕ) (u : CodeFilling) → yield n (filling_of u) ≡ take_below d limit number s → (u.at ≡ s.at + 4) × (u.begun ≡ s.begun) × (u.used ≡ s.used) × (n < limit) × (s.at + 4 ≤ length d)
unfolding take_below
below_taken d limit number s n u h = go (take_number d 4 s) refl h
  where
    go : (x : Importing ℕ) → x ≡ take_number d 4 s → yield n (filling_of u) ≡ next x (λ m t. test (ltb m limit) (refusal number s) (λ _. yield m t)) → (u.at ≡ s.at + 4) × (u.begun ≡ s.begun) × (u.used ≡ s.used) × (n < limit) × (s.at + 4 ≤ length d)
    go (refused e) q h = clash (sym h)
    go (accepted t) q h =
        let b = test_passed (ltb t.value limit) (refusal number s) (λ _. yield t.value t.state) (record { value = n; state = filling_of u }) (sym h) in
        let e : yield n (filling_of u) ≡ accepted t = h ∙ test-true _ _ b in
        let f : record { value = n; state = filling_of u } ≡ t = cc in
        let m = take_moves d 4 s n (filling_of u) (e ∙ q) in
        let v : n ≡ t.value = ap (λ (w : Step Filling ℕ). w.value) f in
        (ap (λ (y : Filling). y.at) m.0, ap (λ (y : Filling). y.begun) m.0, ap (λ (y : Filling). y.used) m.0, subst (λ (i : ℕ). i < limit) (sym v) (ltb-true t.value limit b), m.1)

-- ---- the trees that words name

pub trees_none : (t : List ℕ) (place step : ℕ) → trees_at t place step 0 ≡ gnil
unfolding trees_at
trees_none t place step = refl

module _ (t : List ℕ) where
  -- child words one behind the other
  trees_fields : (n i : ℕ) → trees_at t (2 + 3 * node_count t + i) 1 n ≡ child_trees t (tree_of t) i n
  unfolding trees_at child_trees
  trees_fields zero i = refl
  trees_fields (suc n) i =
      let e : 2 + 3 * node_count t + i + 1 ≡ 2 + 3 * node_count t + suc i = omega arith in
      rw (← node-named t (2 + 3 * node_count t + i) (λ z. omega arith), e, trees_fields n (suc i))

  -- one word again and again
  trees_elements : (capacity len : ℕ) (d : List ℕ) (place n : ℕ) (s : Filling) → import_fields capacity len d (trees_at t place 0 n) s ≡ elements n (import_val capacity len d (tree_of t (node_at t place))) s
  unfolding trees_at import_body elements
  trees_elements capacity len d place zero s = refl
  trees_elements capacity len d place (suc n) s =
      let e : place + 0 ≡ place = add-zero place in
      rw e (next-same (import_val capacity len d (tree_of t (node_at t place)) s) _ _ (λ v u. ap (give (vcons v)) (trees_elements capacity len d place n u)))

  -- one word once
  pub tree_one : (capacity len : ℕ) (d : List ℕ) (place : ℕ) (s : Filling) → import_fields capacity len d (trees_at t place 0 1) s ≡ give (λ v. vcons v vnil) (import_val capacity len d (tree_of t (node_at t place)) s)
  unfolding trees_at import_body
  tree_one capacity len d place s = refl

  -- the first of them, and those behind it
  pub trees_next : (capacity len : ℕ) (d : List ℕ) (place step n i : ℕ) (s : Filling) → i < n → import_fields capacity len d (trees_at t place step (n - i)) s ≡ both (import_val capacity len d (tree_of t (node_at t place)) s) (import_fields capacity len d (trees_at t (place + step) step (n - (i + 1))))
  unfolding trees_at import_body
  trees_next capacity len d place step n i s h = let e : n - i ≡ suc (n - (i + 1)) = omega arith in rw e

  pub trees_done : (capacity len : ℕ) (d : List ℕ) (place step n i : ℕ) (s : Filling) → n ≤ i → import_fields capacity len d (trees_at t place step (n - i)) s ≡ yield vnil s
  unfolding trees_at import_body
  trees_done capacity len d place step n i s h = let e : n - i ≡ 0 = omega arith in rw e

  module _ (w : Below (2 ^ 32) t) where
    trees_valid : (place step n : ℕ) → ValidGrammars (trees_at t place step n)
    unfolding trees_at ValidGrammar
    trees_valid place step zero = tt
    trees_valid place step (suc n) = (tree_valid t w (node_at t place), trees_valid (place + step) step n)

    -- what accepted values say of the state behind them
    module _ (capacity len : ℕ) (d : List ℕ) (b : Bytes d) (s : Filling) (inside : s.at ≤ length d) (within : s.used ≤ len) where
      pub val-accepted : (k : ℕ) (u : Step Filling Val) → import_val capacity len d (tree_of t k) s ≡ accepted u → (u.state.at ≤ length d) × (u.state.begun ≡ s.begun + row_count u.value) × (u.state.begun ≤ capacity) × (u.state.used ≡ s.used + length (store_of u.value)) × (u.state.used ≤ len) × (u.state.at ≡ s.at + xdr_size u.value)
      val-accepted k u e =
          let x = post_accepted (rw e at (import_takes capacity len d b (tree_of t k) (tree_valid t w k) s inside within)) in
          (x.there.inside, x.begun, x.claimed, x.used, x.filled, x.there.end)

      pub all-accepted : s.begun ≤ capacity → (place step n : ℕ) (u : Step Filling Vals) → import_fields capacity len d (trees_at t place step n) s ≡ accepted u → (u.state.begun ≡ s.begun + row_counts u.value) × (u.state.begun ≤ capacity) × (u.state.used ≡ s.used + length (store_of_all u.value)) × (u.state.used ≤ len)
      all-accepted few place step n u e =
          let x = post_accepted (rw e at (fields_takes capacity len d b (trees_at t place step n) (trees_valid place step n) s inside few within)) in
          (x.begun, x.claimed, x.used, x.filled)

-- ---- nodes and their children

module _ (t : List ℕ) (node : ℕ) (n : Node t node) where
  node_tree_lem : (k : Kind) → kind_of (kind_word t node) ≡ k → tree_of t node ≡ node_tree k (child_trees t (tree_of t) (first_word t node) (count_word t node))
  node_tree_lem k e = tree_node t n.table.passes node n.below ∙ ap (λ (x : Kind). node_tree x (child_trees t (tree_of t) (first_word t node) (count_word t node))) e

  -- the tree by the kind
  pub kind_tree : tree_of t node ≡ node_tree (kind_of (kind_word t node)) (child_trees t (tree_of t) (first_word t node) (count_word t node))
  kind_tree = node_tree_lem (kind_of (kind_word t node)) refl

  pub node-few : (node < 256) × (kind_word t node ≤ last_kind)
  node-few = let x = node-inside t n.table.passes node n.below in (x.1, x.2)

  -- the words of the table and of the children are few
  place_few : (child_place t node ≤ 2000) × (count_word t node ≤ 1024)
  place_few =
      let l = n.table.passes.layout in
      let r = n.table.passes.node node n.below in
      (omega (arith, l.start.1.1, l.size.1.0, r.rule.1), omega (arith, l.size.1.0, r.rule.1))

  child_named : (i : ℕ) → node_at t (child_place t node + i) ≡ child_word t (first_word t node + i)
  child_named i =
      let e : child_place t node + i ≡ 2 + 3 * node_count t + (first_word t node + i) = omega arith in
      sym (node-named t (child_place t node + i) (λ z. omega arith)) ∙ ap (λ (j : ℕ). get_or t j 0) e

  child_below : (i : ℕ) → i < count_word t node → node_at t (child_place t node + i) < node_count t
  child_below i h = rw (child_named i) (child_inside t n.table.passes node n.below i h).4.1

  array_count : kind_of (kind_word t node) ≡ array → count_word t node ≡ 1
  array_count e = subst (λ (x : Kind). CountRule x (first_word t node) (count_word t node)) e (node-inside t n.table.passes node n.below).3.0

  -- one child, again and again or once
  children-of : (i count : ℕ) → i < count_word t node → Children t (child_place t node + i) 0 count
  children-of i count h = record {
    table = n.table;
    below = λ j l. let e : child_place t node + i + 0 * j ≡ child_place t node + i = omega arith in rw e (child_below i h);
    short = let e : child_place t node + i + 0 * count ≡ child_place t node + i = omega arith in omega (arith, place_few);
  }

  pub children-array : kind_of (kind_word t node) ≡ array → (count : ℕ) → Children t (child_place t node) 0 count
  children-array e count = rw add-zero at (children-of 0 count (omega (arith, array_count e)))

  pub children-tuple : (count : ℕ) → count ≡ count_word t node → Children t (child_place t node) 1 count
  children-tuple count e = record {
    table = n.table;
    below = λ j l. let q : child_place t node + 1 * j ≡ child_place t node + j = omega arith in rw q (child_below j (omega arith));
    short = omega (arith, place_few);
  }

  pub children-case : (tag : ℕ) → tag < count_word t node → Children t (child_place t node + tag) 0 1
  children-case tag h = children-of tag 1 h

  array_tree : kind_of (kind_word t node) ≡ array → tree_of t node ≡ GArray (tree_of t (node_at t (child_place t node)))
  unfolding node_tree child_trees
  array_tree e =
      let c : node_at t (child_place t node) ≡ child_word t (first_word t node) = rw (add-zero (child_place t node), add-zero (first_word t node)) at (child_named 0) in
      node_tree_lem array e ∙ rw (array_count e, c)

  tuple_tree : kind_of (kind_word t node) ≡ tuple → tree_of t node ≡ GTuple (trees_at t (child_place t node) 1 (count_word t node))
  unfolding node_tree
  tuple_tree e = node_tree_lem tuple e ∙ ap GTuple (sym (trees_fields t (count_word t node) (first_word t node)))

  case_tree : kind_of (kind_word t node) ≡ union → (gs : Gs) × (tree_of t node ≡ GTaggedUnion gs) × (length (seq_g gs) ≡ count_word t node) × ((c : ℕ) → c < count_word t node → case_at gs c ≡ tree_of t (node_at t (child_place t node + c)))
  unfolding node_tree
  case_tree e = (
    child_trees t (tree_of t) (first_word t node) (count_word t node),
    node_tree_lem union e,
    trees_length t (tree_of t) (count_word t node) (first_word t node),
    λ c h. trees_at_lem t (tree_of t) (count_word t node) (first_word t node) c h ∙ ap (tree_of t) (sym (child_named c)),
  )

pub children-root : (t : List ℕ) → Table t → Children t 0 0 1
children-root t b = record {
  table = b;
  below = λ j l. let e : 0 + 0 * j ≡ 0 = omega arith in rw e b.passes.layout.start.1.0;
  short = omega arith;
}

-- ---- the value reader: the claimed row, then the body

-- the row of the value that starts at s is claimed, and t is the state behind it
pub record Claimed (capacity : ℕ) (s t : CodeFilling) : Type 0 where
  pub at : t.at ≡ s.at
  pub begun : t.begun ≡ s.begun + 1
  pub used : t.used ≡ s.used
  pub size : t.size ≡ s.size
  pub free : s.begun < capacity
  pub claimed : claim capacity (filling_of s) ≡ accepted (filling_of t)

pub claimed-next : (capacity : ℕ) (s t : CodeFilling) → accepted (filling_of t) ≡ claim capacity (filling_of s) → t.size ≡ s.size → Claimed capacity s t
unfolding claim
claimed-next capacity s t q z =
    let b = test_passed (ltb s.begun capacity) (refusal 8 (filling_of s)) (λ _. accepted (begin (filling_of s))) (filling_of t) (sym q) in
    let f : accepted (filling_of t) ≡ accepted (begin (filling_of s)) = q ∙ test-true _ _ b in
    let g : filling_of t ≡ begin (filling_of s) = cc in
    record {
      at = ap (λ (u : Filling). u.at) g;
      begun = ap (λ (u : Filling). u.begun) g ∙ sym (add-one s.begun);
      used = ap (λ (u : Filling). u.used) g;
      size = z;
      free = ltb-true s.begun capacity b;
      claimed = sym q;
    }

module _ (capacity len : ℕ) (d : List ℕ) (g : G) (s : CodeFilling) where
  pub arm_refused : {rows₀ store₀ rows₁ store₁ : List ℕ} (f : Refusal) → refused (reason_of f) ≡ claim capacity (filling_of s) → Brings rows_in store_of SizeOfV (import_val capacity len d g (filling_of s)) s.begun s.used s.size rows₀ store₀ (Err f) rows₁ store₁
  arm_refused f h = brings_refused f (ap (λ (x : Outcome Reason Filling). bind x (import_body capacity len d g)) h)

  -- what imported the body has imported the value
  pub arm_body : {rows₀ store₀ rows₁ store₁ : List ℕ} {r : CodeStep} (t : CodeFilling) → Claimed capacity s t → Brings rows_in store_of SizeOfV (import_body capacity len d g (filling_of t)) s.begun t.used t.size rows₀ store₀ r rows₁ store₁ → Brings rows_in store_of SizeOfV (import_val capacity len d g (filling_of s)) s.begun s.used s.size rows₀ store₀ r rows₁ store₁
  arm_body {rows₀} {store₀} {rows₁} {store₁} {r} t c b =
      let e : import_val capacity len d g (filling_of s) ≡ import_body capacity len d g (filling_of t) = ap (λ (x : Outcome Reason Filling). bind x (import_body capacity len d g)) c.claimed in
      rw (e, ← c.used, ← c.size) b

pub ready-claimed : {d rows store : List ℕ} {lent : CodeLent} (s t : CodeFilling) → Ready d rows store lent s → Claimed lent.capacity s t → Ready d rows store lent t
ready-claimed s t p c = record {
  inside = omega (arith, c.at, p.inside);
  short = p.short;
  few = omega (arith, c.begun, c.free);
  most = p.most;
  within = omega (arith, c.used, p.within);
  small = p.small;
  sized = omega (arith, c.at, c.begun, c.size, p.sized);
  rows_lent = p.rows_lent;
  store_lent = p.store_lent;
  byte_values = p.byte_values;
}

-- ---- the readers of parents

-- a state behind the count or tag of the value begun at s
pub ready-below : {t d rows store : List ℕ} {node row : ℕ} {kind : Kind} {lent : CodeLent} (limit number : ℕ) (s : CodeFilling) (n : ℕ) (u : CodeFilling) → RowClaimed t d rows store node kind row lent s → yield n (filling_of u) ≡ take_below d limit number (filling_of s) → u.size ≡ s.size + 8 → Ready d rows store lent u
ready-below {d = d} limit number s n u c h z =
    let p = c.ready in
    let x = below_taken d limit number (filling_of s) n u h in
    record {
      inside = omega (arith, x.0, x.4);
      short = p.short;
      few = omega (arith, x.1, p.few);
      most = p.most;
      within = omega (arith, x.2, p.within);
      small = p.small;
      sized = omega (arith, x.0, x.1, z, c.claimed, c.sized);
      rows_lent = p.rows_lent;
      store_lent = p.store_lent;
      byte_values = p.byte_values;
    }

-- children that were imported are counted behind the row of their parent
pub counted-children : (t d : List ℕ) {rows₀ store₀ rows₁ store₁ : List ℕ} {row start : ℕ} (lent : CodeLent) (u : CodeFilling) (place step n : ℕ) (read : CodeStep) → Table t → Ready d rows₀ store₀ lent u → row < u.begun → start ≤ u.size → Brings rows_in_all store_of_all SeqSum (import_fields lent.capacity lent.room d (trees_at t place step n) (filling_of u)) u.begun u.used u.size rows₀ store₀ read rows₁ store₁ → Counted row start read
counted-children t d lent u place step n (Err f) b p l m h = tt
counted-children t d lent u place step n (Ok v) b p l m h =
    let w = went_on v refl h in
    let x = all-accepted t b.words lent.capacity lent.room d p.byte_values (filling_of u) p.inside p.within p.few place step n (record { value = w.0; state = filling_of v }) w.1 in
    (omega (arith, x.0), omega (arith, w.4))

-- a parent's row before its children's
module _ (span word2 used : ℕ) where
  own_array : (vs : Vals) → span ≡ 1 + row_counts vs → length (seq_v vs) ≡ word2 → rows_in (VArray vs) used ≡ (3 ∷ span ∷ word2 ∷ 0 ∷ SizeOfV (VArray vs) ∷ []) ++ rows_in_all vs used
  unfolding rows_in own_row row_count
  own_array vs b l = rw (b, l)

  own_tuple : (vs : Vals) → span ≡ 1 + row_counts vs → length (seq_v vs) ≡ word2 → rows_in (VTuple vs) used ≡ (4 ∷ span ∷ word2 ∷ 0 ∷ SizeOfV (VTuple vs) ∷ []) ++ rows_in_all vs used
  unfolding rows_in own_row row_count
  own_tuple vs b l = rw (b, l)

  own_case : (v : Val) → span ≡ 1 + row_count v → rows_in (VCase word2 v) used ≡ (8 ∷ span ∷ word2 ∷ 0 ∷ SizeOfV (VCase word2 v) ∷ []) ++ rows_in v used
  unfolding rows_in own_row row_count
  own_case v b = rw b

parent-rows : (vs : Vals) (c : ℕ) (v : Val) → (row_count (VArray vs) ≡ 1 + row_counts vs) × (row_count (VTuple vs) ≡ 1 + row_counts vs) × (row_count (VCase c v) ≡ 1 + row_count v)
unfolding row_count
parent-rows vs c v = (refl, refl, refl)

parent-store : (vs : Vals) (c : ℕ) (v : Val) → (store_of (VArray vs) ≡ store_of_all vs) × (store_of (VTuple vs) ≡ store_of_all vs) × (store_of (VCase c v) ≡ store_of v)
unfolding store_of
parent-store vs c v = (refl, refl, refl)

parent-size : (vs : Vals) (c : ℕ) (v : Val) → (SizeOfV (VArray vs) ≡ 8 + SeqSum vs) × (SizeOfV (VTuple vs) ≡ SeqSum vs) × (SizeOfV (VCase c v) ≡ 8 + SizeOfV v)
unfolding SizeOfV
parent-size vs c v = (refl, refl, refl)

-- as many as were asked for
trees_count : (capacity len : ℕ) (d t : List ℕ) (place step n : ℕ) (s : Filling) (u : Step Filling Vals) → import_fields capacity len d (trees_at t place step n) s ≡ accepted u → length (seq_v u.value) ≡ n
unfolding trees_at import_body
trees_count capacity len d t place step zero s u e = let q : record { value = vnil; state = s } ≡ u = cc in sym (ap (λ (y : Step Filling Vals). length (seq_v y.value)) q)
trees_count capacity len d t place step (suc n) s u e =
    let x = bind_inverse (import_val capacity len d (tree_of t (node_at t place)) s) _ e in
    let y = give-accepted (vcons x.0.value) (import_fields capacity len d (trees_at t (place + step) step n) x.0.state) u x.2 in
    ap (λ (z : Step Filling Vals). length (seq_v z.value)) y.2 ∙ ap suc (trees_count capacity len d t (place + step) step n x.0.state y.0 y.1)

-- one value by itself
pub one-row : (v : Val) (used : ℕ) → rows_in_all (vcons v vnil) used ≡ rows_in v used
unfolding rows_in
one-row v used = append-nil (rows_in v used)

pub one_store : (v : Val) → store_of_all (vcons v vnil) ≡ store_of v
unfolding store_of
one_store v = append-nil (store_of v)

pub one_size : (v : Val) → SeqSum (vcons v vnil) ≡ SizeOfV v
unfolding SizeOfV
one_size v = add-zero (SizeOfV v)

module _ (t d : List ℕ) {rows₀ store₀ : List ℕ} {row : ℕ} {lent : CodeLent} {s : CodeFilling} where
  -- the children of the value begun at s, imported from u on, and its own row
  module _ (p : Ready d rows₀ store₀ lent s) (b : Table t) (c : s.begun ≡ row + 1) (u : CodeFilling) (q : Ready d rows₀ store₀ lent u) (e : u.begun ≡ s.begun) (g : u.used ≡ s.used) where
    here : {A : Type 0} {rows_at : A → ℕ → List ℕ} {storeAt : A → List ℕ} {size_at : A → ℕ} {x : Importing A} {read : CodeStep} {rows₁ store₁ : List ℕ} → Brings rows_at storeAt size_at x u.begun u.used u.size rows₀ store₀ read rows₁ store₁ → Brings rows_at storeAt size_at x (suc row) s.used u.size rows₀ store₀ read rows₁ store₁
    here {A} {rows_at} {storeAt} {size_at} {x} {read} {rows₁} {store₁} h =
        let i : u.begun ≡ suc row = omega (arith, add-one row) in
        subst (λ (j : ℕ). Brings rows_at storeAt size_at x j s.used u.size rows₀ store₀ read rows₁ store₁) i (subst (λ (j : ℕ). Brings rows_at storeAt size_at x u.begun j u.size rows₀ store₀ read rows₁ store₁) g h)

    close_all : (f : Vals → Val) (kind place step n : ℕ) {read r : CodeStep} {rows₁ store₁ exit : List ℕ}
        → ((span : ℕ) (vs : Vals) → span ≡ 1 + row_counts vs → length (seq_v vs) ≡ n → rows_in (f vs) s.used ≡ (kind ∷ span ∷ n ∷ 0 ∷ SizeOfV (f vs) ∷ []) ++ rows_in_all vs s.used) → ((vs : Vals) → store_of (f vs) ≡ store_of_all vs) → ((vs : Vals) → row_count (f vs) ≡ 1 + row_counts vs) → ((vs : Vals) → s.size + SizeOfV (f vs) ≡ u.size + SeqSum vs)
        → Brings rows_in_all store_of_all SeqSum (import_fields lent.capacity lent.room d (trees_at t place step n) (filling_of u)) u.begun u.used u.size rows₀ store₀ read rows₁ store₁ → r ≡ read → exit ≡ closed row kind n s.size read rows₁
        → Brings rows_in store_of SizeOfV (give f (import_fields lent.capacity lent.room d (trees_at t place step n) (filling_of u))) row s.used s.size rows₀ store₀ r exit store₁
    close_all f kind place step n {read} own held count size h i o =
        rw (i, o) (brings_close f kind n s.size p.rows_lent read
        (λ w m.
        let x = all-accepted t b.words lent.capacity lent.room d q.byte_values (filling_of u) q.inside q.within q.few place step n w m in
        let k = count w.value in
        (own (w.state.begun - row) w.value (omega (arith, x.0)) (trees_count lent.capacity lent.room d t place step n (filling_of u) w m), held w.value, omega (arith, x.0, x.1), size w.value))
        (here h))

    close_case : (place tag : ℕ) {read r : CodeStep} {rows₁ store₁ exit : List ℕ} → u.size ≡ s.size + 8 → Brings rows_in_all store_of_all SeqSum (import_fields lent.capacity lent.room d (trees_at t place 0 1) (filling_of u)) u.begun u.used u.size rows₀ store₀ read rows₁ store₁ → r ≡ read → exit ≡ closed row 8 tag s.size read rows₁
        → Brings rows_in store_of SizeOfV (give (VCase tag) (import_val lent.capacity lent.room d (tree_of t (node_at t place)) (filling_of u))) row s.used s.size rows₀ store₀ r exit store₁
    close_case place tag {read} {r} {rows₁} {store₁} n h i o =
        let x = import_val lent.capacity lent.room d (tree_of t (node_at t place)) (filling_of u) in
        let z : Brings rows_in store_of SizeOfV x (suc row) s.used u.size rows₀ store₀ read rows₁ store₁ = here (brings_as {rowsAs = rows_in} {storeAs = store_of} {sizeAs = SizeOfV} (λ v. vcons v vnil) x (tree_one t lent.capacity lent.room d place (filling_of u)) (λ v. one-row v u.used) one_store one_size h) in
        rw (i, o) (brings_close (VCase tag) 8 tag s.size p.rows_lent read
        (λ w m.
        let y = val-accepted t b.words lent.capacity lent.room d q.byte_values (filling_of u) q.inside q.within (node_at t place) w m in
        let k = (parent-rows vnil tag w.value).2 in
        (own_case (w.state.begun - row) tag s.used w.value (omega (arith, y.1)), (parent-store vnil tag w.value).2, omega (arith, y.1, y.2), omega (arith, n, (parent-size vnil tag w.value).2)))
        z)

-- the readers of arrays, tuples and cases, of a node whose value has claimed its row
module _ {t d rows₀ store₀ : List ℕ} {node row : ℕ} {kind : Kind} {lent : CodeLent} {s : CodeFilling} (p : RowClaimed t d rows₀ store₀ node kind row lent s) where
  pub arm_array-refused : kind ≡ array → {rows₁ store₁ : List ℕ} (f : Refusal) → refused (reason_of f) ≡ take_below d (lent.capacity - s.begun + 1) 8 (filling_of s) → Brings rows_in store_of SizeOfV (import_body lent.capacity lent.room d (tree_of t node) (filling_of s)) row s.used s.size rows₀ store₀ (Err f) rows₁ store₁
  arm_array-refused k f h =
      let g = tree_of t (node_at t (child_place t node)) in
      brings_refused f (ap (λ (x : Importing ℕ). next x (λ n u. give VArray (elements n (import_val lent.capacity lent.room d g) u))) h ∙ array_body lent.capacity lent.room d (filling_of s) g ∙ ap (λ (x : G). import_body lent.capacity lent.room d x (filling_of s)) (sym (array_tree t node p.node (p.kind ∙ k))))

  pub arm_array : kind ≡ array → (count : ℕ) (u : CodeFilling) {read r : CodeStep} {rows₁ store₁ exit : List ℕ} → yield count (filling_of u) ≡ take_below d (lent.capacity - s.begun + 1) 8 (filling_of s) → u.size ≡ s.size + 8 → Brings rows_in_all store_of_all SeqSum (import_fields lent.capacity lent.room d (trees_at t (child_place t node) 0 count) (filling_of u)) u.begun u.used u.size rows₀ store₀ read rows₁ store₁ → r ≡ read → exit ≡ closed row 3 count s.size read rows₁ → Brings rows_in store_of SizeOfV (import_body lent.capacity lent.room d (tree_of t node) (filling_of s)) row s.used s.size rows₀ store₀ r exit store₁
  arm_array k count u h z b i o =
      let g = tree_of t (node_at t (child_place t node)) in
      let x = below_taken d (lent.capacity - s.begun + 1) 8 (filling_of s) count u h in
      let e : give VArray (import_fields lent.capacity lent.room d (trees_at t (child_place t node) 0 count) (filling_of u)) ≡ import_body lent.capacity lent.room d (tree_of t node) (filling_of s) =
      ap (give VArray) (trees_elements t lent.capacity lent.room d (child_place t node) count (filling_of u)) ∙ ap (λ (x : Importing ℕ). next x (λ n u. give VArray (elements n (import_val lent.capacity lent.room d g) u))) h ∙ array_body lent.capacity lent.room d (filling_of s) g ∙ ap (λ (x : G). import_body lent.capacity lent.room d x (filling_of s)) (sym (array_tree t node p.node (p.kind ∙ k))) in
      rw (← e) (close_all t d p.ready p.node.table p.claimed u (ready-below (lent.capacity - s.begun + 1) 8 s count u p h z) x.1 x.2 VArray 3 (child_place t node) 0 count (λ span vs. own_array span count s.used vs) (λ vs. (parent-store vs 0 (VArray vs)).0) (λ vs. (parent-rows vs 0 (VArray vs)).0) (λ vs. omega (arith, z, (parent-size vs 0 (VArray vs)).0)) b i o)

  pub arm_tuple : kind ≡ tuple → (count : ℕ) {read r : CodeStep} {rows₁ store₁ exit : List ℕ} → count ≡ count_word t node → Brings rows_in_all store_of_all SeqSum (import_fields lent.capacity lent.room d (trees_at t (child_place t node) 1 count) (filling_of s)) s.begun s.used s.size rows₀ store₀ read rows₁ store₁ → r ≡ read → exit ≡ closed row 4 count s.size read rows₁ → Brings rows_in store_of SizeOfV (import_body lent.capacity lent.room d (tree_of t node) (filling_of s)) row s.used s.size rows₀ store₀ r exit store₁
  unfolding import_body
  arm_tuple k count c b i o =
      let e : give VTuple (import_fields lent.capacity lent.room d (trees_at t (child_place t node) 1 count) (filling_of s)) ≡ import_body lent.capacity lent.room d (tree_of t node) (filling_of s) =
      ap (λ (n : ℕ). import_body lent.capacity lent.room d (GTuple (trees_at t (child_place t node) 1 n)) (filling_of s)) c ∙ ap (λ (x : G). import_body lent.capacity lent.room d x (filling_of s)) (sym (tuple_tree t node p.node (p.kind ∙ k))) in
      rw (← e) (close_all t d p.ready p.node.table p.claimed s p.ready refl refl VTuple 4 (child_place t node) 1 count (λ span vs. own_tuple span count s.used vs) (λ vs. (parent-store vs 0 (VArray vs)).1) (λ vs. (parent-rows vs 0 (VArray vs)).1) (λ vs. ap (λ (n : ℕ). s.size + n) (parent-size vs 0 (VArray vs)).1) b i o)

  pub arm_case-refused : kind ≡ union → (limit : ℕ) → limit ≡ count_word t node → {rows₁ store₁ : List ℕ} (f : Refusal) → refused (reason_of f) ≡ take_below d limit 10 (filling_of s) → Brings rows_in store_of SizeOfV (import_body lent.capacity lent.room d (tree_of t node) (filling_of s)) row s.used s.size rows₀ store₀ (Err f) rows₁ store₁
  arm_case-refused k limit c f h =
      let g = case_tree t node p.node (p.kind ∙ k) in
      let e : limit ≡ length (seq_g g.0) = c ∙ sym g.2 in
      brings_refused f (ap (λ (x : Importing ℕ). next x (λ n u. give (VCase n) (import_val lent.capacity lent.room d (case_at g.0 n) u))) (h ∙ ap (λ (l : ℕ). take_below d l 10 (filling_of s)) e) ∙ case_body lent.capacity lent.room d (filling_of s) g.0 ∙ ap (λ (x : G). import_body lent.capacity lent.room d x (filling_of s)) (sym g.1))

  pub arm_case : kind ≡ union → (limit : ℕ) → limit ≡ count_word t node → (tag : ℕ) (u : CodeFilling) (place : ℕ) → place ≡ child_place t node + tag → {read r : CodeStep} {rows₁ store₁ exit : List ℕ} → yield tag (filling_of u) ≡ take_below d limit 10 (filling_of s) → u.size ≡ s.size + 8 → Brings rows_in_all store_of_all SeqSum (import_fields lent.capacity lent.room d (trees_at t place 0 1) (filling_of u)) u.begun u.used u.size rows₀ store₀ read rows₁ store₁ → r ≡ read → exit ≡ closed row 8 tag s.size read rows₁ → Brings rows_in store_of SizeOfV (import_body lent.capacity lent.room d (tree_of t node) (filling_of s)) row s.used s.size rows₀ store₀ r exit store₁
  arm_case k limit c tag u place m h z b i o =
      let g = case_tree t node p.node (p.kind ∙ k) in
      let l : limit ≡ length (seq_g g.0) = c ∙ sym g.2 in
      let x = below_taken d limit 10 (filling_of s) tag u h in
      let v : tree_of t (node_at t place) ≡ case_at g.0 tag = ap (λ (j : ℕ). tree_of t (node_at t j)) m ∙ sym (g.3 tag (omega (arith, x.3))) in
      let e : give (VCase tag) (import_val lent.capacity lent.room d (tree_of t (node_at t place)) (filling_of u)) ≡ import_body lent.capacity lent.room d (tree_of t node) (filling_of s) =
      ap (λ (y : G). give (VCase tag) (import_val lent.capacity lent.room d y (filling_of u))) v ∙ ap (λ (x : Importing ℕ). next x (λ n u. give (VCase n) (import_val lent.capacity lent.room d (case_at g.0 n) u))) (h ∙ ap (λ (l : ℕ). take_below d l 10 (filling_of s)) l) ∙ case_body lent.capacity lent.room d (filling_of s) g.0 ∙ ap (λ (x : G). import_body lent.capacity lent.room d x (filling_of s)) (sym g.1) in
      rw (← e) (close_case t d p.ready p.node.table p.claimed u (ready-below limit 10 s tag u p h z) x.1 x.2 place tag z b i o)

-- ---- the loop over children: what is left from here decides the whole

-- a loop that has come to u, with these rows and this store: importing `rest` from u makes the whole import from s
pub record Remaining (d rows₀ store₀ : List ℕ) (lent : CodeLent) (s : CodeFilling) (whole : Importing Vals) (rows store : List ℕ) (u : CodeFilling) (rest : Importing Vals) : Type 0 where
  pub ready : Ready d rows store lent u
  pub grown : s.begun ≤ u.begun
  pub rows_size : length rows ≡ length rows₀
  pub store_size : length store ≡ length store₀
  pub then : (r : CodeStep) (rows₁ store₁ : List ℕ) → Brings rows_in_all store_of_all SeqSum rest u.begun u.used u.size rows store r rows₁ store₁ → Brings rows_in_all store_of_all SeqSum whole s.begun s.used s.size rows₀ store₀ r rows₁ store₁

pub remaining_start : {d rows₀ store₀ : List ℕ} {lent : CodeLent} {s : CodeFilling} (x y : Importing Vals) → x ≡ y → Ready d rows₀ store₀ lent s → Remaining d rows₀ store₀ lent s x rows₀ store₀ s y
remaining_start x y e p = record { ready = p; grown = omega arith; rows_size = refl; store_size = refl; then = λ r a b h. rw e h }

pub remaining_done : {d rows₀ store₀ rows store : List ℕ} {lent : CodeLent} {s u : CodeFilling} {whole rest : Importing Vals} → Remaining d rows₀ store₀ lent s whole rows store u rest → rest ≡ yield vnil (filling_of u) → Brings rows_in_all store_of_all SeqSum whole s.begun s.used s.size rows₀ store₀ (Ok u) rows store
remaining_done {rows = rows} {store} {u = u} i e = i.then (Ok u) rows store (rw e (brings_none rows store u))

module _ (t : List ℕ) (b : Table t) {d rows₀ store₀ rows store rows₁ store₁ : List ℕ} {lent : CodeLent} {s u : CodeFilling} {whole rest : Importing Vals} (k place step n : ℕ) (e : rest ≡ both (import_val lent.capacity lent.room d (tree_of t k) (filling_of u)) (import_fields lent.capacity lent.room d (trees_at t place step n))) (i : Remaining d rows₀ store₀ lent s whole rows store u rest) {r : CodeStep} (h : Brings rows_in store_of SizeOfV (import_val lent.capacity lent.room d (tree_of t k) (filling_of u)) u.begun u.used u.size rows store r rows₁ store₁) where
  pub remaining_refused : (f : Refusal) → r ≡ Err f → Brings rows_in_all store_of_all SeqSum whole s.begun s.used s.size rows₀ store₀ (Err f) rows₁ store₁
  remaining_refused f q = i.then (Err f) rows₁ store₁ (brings_refused f (ap (λ (y : Importing Val). both y (import_fields lent.capacity lent.room d (trees_at t place step n))) (stopped f q h) ∙ sym e))

  pub remaining_next : (v : CodeFilling) → r ≡ Ok v → length rows₁ ≡ length rows → length store₁ ≡ length store → Remaining d rows₀ store₀ lent s whole rows₁ store₁ v (import_fields lent.capacity lent.room d (trees_at t place step n) (filling_of v))
  remaining_next v q l m =
      let p = i.ready in
      let w = went_on v q h in
      let x = val-accepted t b.words lent.capacity lent.room d p.byte_values (filling_of u) p.inside p.within k (record { value = w.0; state = filling_of v }) w.1 in
      record {
        ready = record { inside = x.0; short = p.short; few = x.2; most = p.most; within = x.4; small = p.small; sized = omega (arith, w.4, x.1, x.5, p.sized, (sizes w.0).near); rows_lent = lent-kept (row_width * lent.capacity) rows rows₁ l p.rows_lent; store_lent = lent-kept lent.room store store₁ m p.store_lent; byte_values = p.byte_values };
        grown = omega (arith, i.grown, x.1);
        rows_size = l ∙ i.rows_size;
        store_size = m ∙ i.store_size;
        then = λ c rows₂ store₂ z. i.then c rows₂ store₂ (rw e (brings_both (import_fields lent.capacity lent.room d (trees_at t place step n)) v w.0 w.1 x.1 x.3 w.2 w.3 w.4 p.rows_lent p.store_lent
            (λ y o. let a = all-accepted t b.words lent.capacity lent.room d p.byte_values (filling_of v) x.0 x.4 x.2 place step n y o in (omega (arith, a.0, a.1), omega (arith, a.2, a.3))) z));
      }
