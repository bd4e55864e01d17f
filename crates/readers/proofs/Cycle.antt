-- The readers of the cycle: how a reading of parts makes a reading of the whole, with its rows.
use mathlib.Core.Path.{◌≡◌, refl, ap, sym, ◌∙◌}
use mathlib.Core.Logic.{inl, inr, ⊎_elim}
use mathlib.Core.Bool.{Bool, true, false}
use mathlib.Core.List.{List, [], ◌∷◌, ◌++◌}
use Prim.Native.Nat.{ℕ, suc, ◌+◌, ◌-◌, ◌*◌, ◌≤◌, ◌<◌}
use native.Mathlib.Omega.{arith}
use lib.ListN.{length}
use native.Mathlib.Decide.{dec_le, dec_lt}
use mathlib.Core.Path.{fun_ext}
use borrow.Author.Tests.{lt-ltb, le-ltb, le-leb, lt-leb}
use lib.Dec.{leb, ltb}
use Rattle.refusal.specs.Outcome.{Outcome, accepted, refused, test, map}
use Rattle.refusal.proofs.Outcome.{map-accepted, test-true, test-false}
use Rattle.packed.specs.Packed.{Bytes, Lent}
use Rattle.packed.proofs.Fitting.{put_within-nothing, put_within-behind, put_within-before}
use Rattle.value.specs.Tree.{G, Gs, GArray, GTaggedUnion, VArray, VCase, Val, Vals, vnil, vcons, seq_g, case_at, ValidGrammar, SizeOfV, row_count, row_counts}
use Rattle.value.specs.Step.{Step, yield, next, give, both, elements}
use Rattle.value.specs.Reading.{State, Stop, Reading, stop, free, take_number, read_body, read_case_at, read_val}
use Rattle.value.proofs.Agreement.{agrees, agrees_accepted}
use Rattle.value.proofs.Reading.{read-accepted, read_case_at-below, read_case_at-above}
use Rattle.tables.specs.Row.{row_width, laid}
use Rattle.rows.specs.Layout.{rows_of, rows_of_all}
use Rattle.rows.proofs.LayoutLaws.{length_rows_of, length-rows_of_all}
use Rattle.readers.specs.declared.State.{State as CodeState}
use Rattle.std.specs.Prelude.{Ok, Err}
use Rattle.readers.specs.Meaning.{CodeStep, state_of, step_of}
use Rattle.readers.specs.Reads.{Room, Reads, closed, take_below}
use Rattle.readers.proofs.Laws.{reads_next}

-- Rows laid one behind the other.

fits-room : (capacity : ℕ) (l : List ℕ) (i n : ℕ) → Room capacity l → row_width * i + n ≤ row_width * capacity → Lent (row_width * i + n) l
fits-room capacity l i n r h = ⊎_elim (λ (e : l ≡ []). inl e) (λ (f : row_width * capacity ≤ length l). inr (omega arith)) r

-- What an accepted value says.

module _ (capacity : ℕ) (d : List ℕ) (g : G) (s : State) (h : s.at ≤ length d) (w : ValidGrammar g) (b : Bytes d) where
  pub val-accepted : (t : Step State Val) → read_val capacity d g s ≡ accepted t → (t.state.at ≡ s.at + SizeOfV t.value) × (t.state.begun ≡ s.begun + row_count t.value) × (row_count t.value ≤ free capacity s) × (t.state.at ≤ length d)
  val-accepted t e =
      let x = agrees_accepted (agrees capacity d g s h) t e in
      let y = read-accepted capacity d g s h w b t e in
      (ap (λ (u : Step State Val). u.state.at) y.2, x.1, x.2, x.0)

-- a matched answer of a reader that went on
pub went_on : {A : Type 0} {rows_at : A → ℕ → List ℕ} {x : Reading A} {capacity row p : ℕ} {entry exit : List ℕ} {r : CodeStep} (u : CodeState) → r ≡ Ok u → Reads rows_at x capacity row p entry r exit → (a : A) × (x ≡ yield a (state_of u)) × (u.capacity ≡ capacity) × (exit ≡ laid entry row (rows_at a p))
went_on {A} {rows_at} {x} {capacity} {row} {p} {entry} {exit} u e r =
    let q : accepted (state_of u) ≡ map (λ t. t.state) x = ap step_of (sym e) ∙ r.answers in
    let m = map-accepted (λ (t : Step State A). t.state) x (sym q) in
    let v : state_of u ≡ m.0.state = state-of (q ∙ ap (map (λ (t : Step State A). t.state)) m.1) in
    (m.0.value, m.1 ∙ ap (λ (s : State). yield m.0.value s) (sym v), rw e at r.keeps, r.rows m.0 m.1)
  where
    state-of : {a b : State} → ◌≡◌ {A = Outcome Stop State} (accepted a) (accepted b) → a ≡ b
    state-of h = cc

-- A function of what was read changes neither the state nor a refusal.

pub map-give : {A B : Type 0} (f : A → B) (x : Reading A) → map (λ t. t.state) (give f x) ≡ map (λ t. t.state) x
map-give f (accepted t) = refl
map-give f (refused e) = refl

pub give-accepted : {A B : Type 0} (f : A → B) (x : Reading A) (t : Step State B) → give f x ≡ accepted t → (u : Step State A) × (x ≡ accepted u) × (t ≡ record { value = f u.value; state = u.state })
give-accepted f (accepted u) t h = (u, refl, cc)
give-accepted f (refused e) t h = let z : ◌≡◌ {A = ℕ} 0 1 = cc in absurd (omega arith)

-- Values one behind the other.

pub reads_none : (entry : List ℕ) (u : CodeState) → Reads rows_of_all (yield vnil (state_of u)) u.capacity u.begun u.at entry (Ok u) entry
unfolding rows_of
reads_none entry u = reads_next u vnil refl refl (sym (put_within-nothing entry (row_width * u.begun)))

-- a value that was read, with what is read behind it
module _ {x : Reading Val} {capacity row p : ℕ} {entry mid exit : List ℕ} {r : CodeStep} (k : State → Reading Vals) (u : CodeState) (v : Val) (e : x ≡ yield v (state_of u)) (a : u.at ≡ p + SizeOfV v) (b : u.begun ≡ row + row_count v) (c : u.begun ≤ capacity) (m : mid ≡ laid entry row (rows_of v p)) (room : Room capacity entry) where
  pub reads_both : ((t : Step State Vals) → k (state_of u) ≡ accepted t → row_counts t.value ≤ capacity - u.begun) → Reads rows_of_all (k (state_of u)) capacity u.begun u.at mid r exit → Reads rows_of_all (both x k) capacity row p entry r exit
  unfolding rows_of
  reads_both few rest = record {
    answers = rest.answers ∙ sym (ap (λ (y : Reading Val). map (λ t. t.state) (both y k)) e ∙ map-give (vcons v) (k (state_of u)));
    keeps = rest.keeps;
    rows = λ t h.
        let q = give-accepted (vcons v) (k (state_of u)) t (sym (ap (λ (y : Reading Val). both y k) e) ∙ h) in
        let vs = q.0.value in
        let n = length_rows_of v p in
        let l = length-rows_of_all vs (p + SizeOfV v) in
        let f = few q.0 q.1 in
        let o : exit ≡ laid (laid entry row (rows_of v p)) u.begun (rows_of_all vs (p + SizeOfV v)) = rest.rows q.0 q.1 ∙ ap (λ (l : List ℕ). laid l u.begun (rows_of_all vs u.at)) m ∙ ap (λ (i : ℕ). laid (laid entry row (rows_of v p)) u.begun (rows_of_all vs i)) a in
        o ∙ put_within-behind entry (row_width * row) (row_width * u.begun) (rows_of v p) (rows_of_all vs (p + SizeOfV v)) (omega arith) (fits-room capacity entry row (length (rows_of v p) + length (rows_of_all vs (p + SizeOfV v))) room (omega arith))
        ∙ ap (λ (y : Step State Vals). laid entry row (rows_of_all y.value p)) (sym q.2);
  }

-- A parent's row, laid before its children's.

module _ {A : Type 0} {rows_at : A → ℕ → List ℕ} {x : Reading A} {capacity row p q : ℕ} {entry mid : List ℕ} (f : A → Val) (kind word2 : ℕ) (room : Room capacity entry) where
  pub reads_close : (c : CodeStep) → ((t : Step State A) → x ≡ accepted t → (rows_of (f t.value) p ≡ (kind ∷ (t.state.begun - row) ∷ word2 ∷ 0 ∷ (t.state.at - p) ∷ []) ++ rows_at t.value q) × (row_width * row + length (rows_of (f t.value) p) ≤ row_width * capacity)) → Reads rows_at x capacity (suc row) q entry c mid → Reads rows_of (give f x) capacity row p entry c (closed row p kind word2 c mid)
  reads_close (Ok u) own r =
      let w = went_on u refl r in
      let o = own (record { value = w.0; state = state_of u }) w.1 in
      let ws = kind ∷ (u.begun - row) ∷ word2 ∷ 0 ∷ (u.at - p) ∷ [] in
      let n : length (rows_of (f w.0) p) ≡ row_width + length (rows_at w.0 q) = ap length o.0 ∙ omega arith in
      reads_next u (f w.0) (sym (ap (give f) w.1)) w.2
      (ap (λ (l : List ℕ). laid l row ws) w.3 ∙ put_within-before entry (row_width * row) (row_width * suc row) ws (rows_at w.0 q) (omega arith) (fits-room capacity entry row (length ws + length (rows_at w.0 q)) room (omega (arith, o.1))) ∙ ap (laid entry row) (sym o.0))
  reads_close (Err e) own r = record {
    answers = r.answers ∙ sym (map-give f x);
    keeps = r.keeps;
    rows = λ t h.
        let y = give-accepted f x t h in
        let z : step_of (Err e) ≡ accepted y.0.state = r.answers ∙ ap (map (λ (t : Step State A). t.state)) y.1 in
        let n : ◌≡◌ {A = ℕ} 0 1 = cc in absurd (omega arith);
  }

-- Heads: a count or a tag below its limit, and what is read behind it.

ltb-leb : (n m : ℕ) → ltb n (m + 1) ≡ leb n m
ltb-leb n m = go (dec_le n m)
  where
    go : Dec (n ≤ m) → ltb n (m + 1) ≡ leb n m
    go (yes l) = lt-ltb n (m + 1) (omega arith) ∙ sym (le-leb n m l)
    go (no l) = le-ltb n (m + 1) (omega arith) ∙ sym (lt-leb n m (omega arith))

head_then : {A : Type 0} (x : Reading ℕ) (b : ℕ → Bool) (e : Stop) (k : ℕ → State → Reading A) → next (next x (λ n t. test (b n) e (λ _. yield n t))) k ≡ next x (λ n t. test (b n) e (λ _. k n t))
head_then (refused r) b e k = refl
head_then (accepted t) b e k = go (b t.value)
  where
    go : (c : Bool) → next (test c e (λ _. yield t.value t.state)) k ≡ test c e (λ _. k t.value t.state)
    go true = refl
    go false = refl

module _ (capacity : ℕ) (d : List ℕ) (s : State) where
  -- an array of g, whose count is at most the rows left
  pub array_body : (g : G) → next (take_below d (free capacity s + 1) 8 s) (λ n t. give VArray (elements n (read_val capacity d g) t)) ≡ read_body capacity d (GArray g) s
  unfolding take_below read_body
  array_body g =
      head_then (take_number d 8 s) (λ n. ltb n (free capacity s + 1)) (stop 8 s) (λ n t. give VArray (elements n (read_val capacity d g) t))
      ∙ ap (λ (b : ℕ → Bool). next (take_number d 8 s) (λ n t. test (b n) (stop 8 s) (λ _. give VArray (elements n (read_val capacity d g) t)))) (fun_ext (λ n. ltb-leb n (free capacity s)))

  -- a case, whose tag is below the case count
  pub case_body : (gs : Gs) → next (take_below d (length (seq_g gs)) 10 s) (λ c t. give (VCase c) (read_val capacity d (case_at gs c) t)) ≡ read_body capacity d (GTaggedUnion gs) s
  unfolding take_below read_body
  case_body gs =
      head_then (take_number d 8 s) (λ c. ltb c (length (seq_g gs))) (stop 10 s) (λ c t. give (VCase c) (read_val capacity d (case_at gs c) t))
      ∙ ap (next (take_number d 8 s)) (fun_ext (λ c. fun_ext (λ t. chosen c t)))
    where
      chosen : (c : ℕ) (t : State) → test (ltb c (length (seq_g gs))) (stop 10 s) (λ _. give (VCase c) (read_val capacity d (case_at gs c) t)) ≡ give (VCase c) (read_case_at capacity d gs c s t)
      chosen c t = go (dec_lt c (length (seq_g gs)))
        where
          go : Dec (c < length (seq_g gs)) → test (ltb c (length (seq_g gs))) (stop 10 s) (λ _. give (VCase c) (read_val capacity d (case_at gs c) t)) ≡ give (VCase c) (read_case_at capacity d gs c s t)
          go (yes l) = test-true _ _ (lt-ltb c (length (seq_g gs)) l) ∙ ap (give (VCase c)) (sym (read_case_at-below capacity d s t gs c l))
          go (no l) = test-false _ _ (le-ltb c (length (seq_g gs)) (omega arith)) ∙ ap (give (VCase c)) (sym (read_case_at-above capacity d s t gs c (omega arith)))

module _ (d : List ℕ) (limit number : ℕ) (s : State) where
  pub below_stopped : {e : Stop} → refused e ≡ take_number d 8 s → refused e ≡ take_below d limit number s
  unfolding take_below
  below_stopped h = ap (λ (x : Reading ℕ). next x (λ n t. test (ltb n limit) (stop number s) (λ _. yield n t))) h

  module _ (n : ℕ) (t : State) (h : yield n t ≡ take_number d 8 s) where
    pub below-number : n < limit → yield n t ≡ take_below d limit number s
    unfolding take_below
    below-number l = sym (test-true _ _ (lt-ltb n limit l)) ∙ ap (λ (x : Reading ℕ). next x (λ n t. test (ltb n limit) (stop number s) (λ _. yield n t))) h

    pub below_limit : limit ≤ n → refused (stop number s) ≡ take_below d limit number s
    unfolding take_below
    below_limit l = sym (test-false _ _ (le-ltb n limit l)) ∙ ap (λ (x : Reading ℕ). next x (λ n t. test (ltb n limit) (stop number s) (λ _. yield n t))) h
