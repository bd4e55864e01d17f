-- The loops of the contents readers: what is left from here decides the whole.
use mathlib.Core.Path.{◌≡◌, refl, ap, sym, subst, ◌∙◌}
use mathlib.Core.Logic.{inl, inr, ⊎_elim}
use mathlib.Core.List.{List, [], ◌∷◌}
use Prim.Native.Nat.{ℕ, suc, ◌+◌, ◌-◌, ◌*◌, ◌≤◌, ◌<◌}
use native.Mathlib.Omega.{arith}
use lib.ListN.{length}
use Rattle.refusal.specs.Outcome.{accepted, refused, map}
use Rattle.value.specs.Tree.{G, Gs, Val, Vals, vnil, ValidGrammar, row_counts}
use Rattle.value.specs.Step.{Step, yield, both, elements}
use Rattle.value.specs.Reading.{State, Reading, read_val, read_body, read_fields}
use Rattle.value.proofs.Agreement.{agrees, agrees_elements, agrees_fields, agrees_accepted}
use Rattle.tables.specs.Grammar.{child_word}
use Rattle.grammar.specs.Tree.{tree_of, child_trees}
use Rattle.tables.specs.Row.{row_width}
use Rattle.rows.specs.Layout.{rows_of, rows_of_all}
use Rattle.readers.specs.declared.State.{State as CodeState}
use Rattle.std.specs.Prelude.{Ok, Err}
use Rattle.readers.specs.declared.Stopped.{Stopped}
use Rattle.readers.specs.Meaning.{CodeStep, stop_of, state_of, step_of}
use Rattle.readers.specs.Reads.{Room, Ready, Reads}
use Rattle.readers.proofs.Laws.{reads_stopped}
use Rattle.readers.proofs.Cycle.{val-accepted, went_on, reads_none, reads_both}

-- rows of the same length are lent for the same capacity
pub room-kept : (capacity : ℕ) (l m : List ℕ) → length m ≡ length l → Room capacity l → Room capacity m
room-kept capacity l m e r = ⊎_elim (λ (n : l ≡ []). inl (none m (e ∙ ap length n))) (λ (h : row_width * capacity ≤ length l). inr (omega arith)) r
  where
    none : (k : List ℕ) → length k ≡ 0 → k ≡ []
    none [] h = refl
    none (x ∷ k) h = absurd (omega arith)

-- a reader that stopped
pub stopped_at : {A : Type 0} {rows_at : A → ℕ → List ℕ} {x : Reading A} {capacity row p : ℕ} {entry exit : List ℕ} {r : CodeStep} (z : Stopped) → r ≡ Err z → Reads rows_at x capacity row p entry r exit → (refused (stop_of z) ≡ x) × (z.state.capacity ≡ capacity)
stopped_at {A} {rows_at} {x} z e r = (sym (go x (ap step_of (sym e) ∙ r.answers)), rw e at r.keeps)
  where
    go : (y : Reading A) → refused (stop_of z) ≡ map (λ t. t.state) y → y ≡ refused (stop_of z)
    go (accepted t) h = let z : ◌≡◌ {A = ℕ} 0 1 = cc in absurd (omega arith)
    go (refused g) h = let q : stop_of z ≡ g = cc in ap refused (sym q)

-- a loop that has come to t with rows read so far: reading `rest` from t makes the whole reading from s
pub record Remaining (d entry : List ℕ) (s : CodeState) (whole : Reading Vals) (rows : List ℕ) (t : CodeState) (rest : Reading Vals) : Type 0 where
  pub ready : Ready d rows t
  pub capacity : t.capacity ≡ s.capacity
  pub grown : s.begun ≤ t.begun
  pub size : length rows ≡ length entry
  pub then : (r : CodeStep) (exit : List ℕ) → Reads rows_of_all rest s.capacity t.begun t.at rows r exit → Reads rows_of_all whole s.capacity s.begun s.at entry r exit

pub remaining_start : {d entry : List ℕ} {s : CodeState} (x y : Reading Vals) → x ≡ y → Ready d entry s → Remaining d entry s x entry s y
remaining_start {d} {entry} {s} x y e r = record { ready = r; capacity = refl; grown = omega arith; size = refl; then = λ a b h. rw e h }

module _ {d entry rows mid : List ℕ} {s t : CodeState} {whole rest : Reading Vals} (g : G) (k : State → Reading Vals) (e : rest ≡ both (read_val s.capacity d g (state_of t)) k) (i : Remaining d entry s whole rows t rest) {r : CodeStep} (h : Reads rows_of (read_val t.capacity d g (state_of t)) t.capacity t.begun t.at rows r mid) where
  -- the reading at the capacity of s
  here : Reads rows_of (read_val s.capacity d g (state_of t)) s.capacity t.begun t.at rows r mid
  here = subst (λ (c : ℕ). Reads rows_of (read_val c d g (state_of t)) c t.begun t.at rows r mid) i.capacity h

  pub remaining_stopped : (z : Stopped) → r ≡ Err z → Reads rows_of_all whole s.capacity s.begun s.at entry (Err z) mid
  remaining_stopped z q =
      let x = stopped_at z q here in
      i.then (Err z) mid (reads_stopped z (ap (λ (y : Reading Val). both y k) x.0 ∙ sym e) x.1)

  pub remaining_next : (u : CodeState) → r ≡ Ok u → ValidGrammar g → length mid ≡ length rows → ((w : Step State Vals) → (state_of u).at ≤ length d → k (state_of u) ≡ accepted w → row_counts w.value ≤ s.capacity - u.begun) → Remaining d entry s whole mid u (k (state_of u))
  remaining_next u q v l few =
      let x = went_on u q here in
      let y = val-accepted s.capacity d g (state_of t) i.ready.inside v i.ready.byte_values (record { value = x.0; state = state_of u }) x.1 in
      let c = i.capacity in
      let n = i.ready.few in
      let b : u.begun ≤ s.capacity = omega (arith, y.1, y.2) in
      let room : Room s.capacity rows = subst (λ (c : ℕ). Room c rows) c i.ready.room in
      record {
        ready = record { inside = y.3; short = i.ready.short; few = omega (arith, x.2); most = omega (arith, x.2, i.ready.most); room = subst (λ (c : ℕ). Room c mid) (sym x.2) (room-kept s.capacity rows mid l room); byte_values = i.ready.byte_values };
        capacity = x.2;
        grown = omega (arith, i.grown, y.1);
        size = l ∙ i.size;
        then = λ a b' w. i.then a b' (rw e (reads_both k u x.0 x.1 y.0 y.1 b x.3 room (λ z o. few z y.3 o) w));
      }

pub remaining_done : {d entry rows : List ℕ} {s t : CodeState} {whole rest : Reading Vals} → Remaining d entry s whole rows t rest → rest ≡ yield vnil (state_of t) → Reads rows_of_all whole s.capacity s.begun s.at entry (Ok t) rows
remaining_done {d} {entry} {rows} {s} {t} i e = i.then (Ok t) rows (rw e (subst (λ (c : ℕ). Reads rows_of_all (yield vnil (state_of t)) c t.begun t.at rows (Ok t) rows) i.capacity (reads_none rows t)))

-- the rows of elements and of fields that are read were free
pub few-elements : (capacity : ℕ) (d : List ℕ) (g : G) (n : ℕ) (u : State) → u.at ≤ length d → (w : Step State Vals) → elements n (read_val capacity d g) u ≡ accepted w → row_counts w.value ≤ capacity - u.begun
few-elements capacity d g n u h w e = (agrees_accepted (agrees_elements g (λ s l. agrees capacity d g s l) n u h) w e).2

pub few_fields : (capacity : ℕ) (d : List ℕ) (gs : Gs) (u : State) → u.at ≤ length d → (w : Step State Vals) → read_fields capacity d gs u ≡ accepted w → row_counts w.value ≤ capacity - u.begun
few_fields capacity d gs u h w e = (agrees_accepted (agrees_fields capacity d gs u h) w e).2

-- What is left of a sequence.

module _ (capacity : ℕ) (d : List ℕ) (g : G) (s : State) (n i : ℕ) where
  pub elements-next : i < n → elements (n - i) (read_val capacity d g) s ≡ both (read_val capacity d g s) (elements (n - (i + 1)) (read_val capacity d g))
  unfolding elements
  elements-next h = let e : n - i ≡ suc (n - (i + 1)) = omega arith in rw e

  pub elements-none : n ≤ i → elements (n - i) (read_val capacity d g) s ≡ yield vnil s
  unfolding elements
  elements-none h = let e : n - i ≡ 0 = omega arith in rw e

-- the fields of a node from its field i on
module _ (capacity : ℕ) (d : List ℕ) (t : List ℕ) (s : State) (first n i : ℕ) where
  pub fields_next : i < n → read_fields capacity d (child_trees t (tree_of t) (first + i) (n - i)) s ≡ both (read_val capacity d (tree_of t (child_word t (first + i))) s) (read_fields capacity d (child_trees t (tree_of t) (first + (i + 1)) (n - (i + 1))))
  unfolding read_body child_trees
  fields_next h =
      let e : n - i ≡ suc (n - (i + 1)) = omega arith in
      let f : first + (i + 1) ≡ suc (first + i) = omega arith in
      rw (e, f)

  pub fields_none : n ≤ i → read_fields capacity d (child_trees t (tree_of t) (first + i) (n - i)) s ≡ yield vnil s
  unfolding read_body child_trees
  fields_none h = let e : n - i ≡ 0 = omega arith in rw e
