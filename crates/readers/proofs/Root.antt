-- The reading of the root: 1 to 7 before it, 11 behind it, and the rows it fills.
use mathlib.Core.Path.{◌≡◌, refl, ap, sym, subst, ◌∙◌}
use mathlib.Core.Bool.{Bool, true, false}
use mathlib.Core.List.{List, [], ◌∷◌}
use Prim.Native.Nat.{ℕ, zero, suc, ◌^◌, ◌≤◌, min}
use native.Mathlib.Omega.{arith}
use lib.ListN.{length}
use lib.Dec.{eqb}
use borrow.Author.Tests.{eq-eqb, ne_eqb}
use Rattle.refusal.specs.Outcome.{Outcome, accepted, refused, bind, test, map, contents, Reason, reason, byte}
use Rattle.refusal.specs.declared.Refusal.{Refusal}
use Rattle.refusal.specs.Meaning.{reason_of}
use Rattle.refusal.proofs.Outcome.{test-true, test-false}
use Rattle.packed.specs.Packed.{Bytes, Below}
use Rattle.value.specs.Tree.{Val, row_count}
use Rattle.value.specs.Step.{Step, yield}
use Rattle.value.specs.Reading.{State, Stop, Reading, stop, start, read_val}
use Rattle.value.proofs.Agreement.{agrees, agrees_accepted}
use Rattle.grammar.specs.Tree.{tree_of}
use Rattle.tables.specs.Row.{laid}
use Rattle.rows.specs.Layout.{rows_of}
use Rattle.admission.specs.Admission.{in_force, capacity_of, admit_of}
use Rattle.admission.proofs.Admission.{admitted}
use Rattle.readers.specs.declared.State.{State as CodeState}
use Rattle.std.specs.Prelude.{Ok, Err}
use Rattle.readers.specs.declared.Stopped.{Stopped}
use Rattle.readers.specs.Meaning.{CodeStep, stop_of, state_of, step_of, StepKeeps}
use Rattle.readers.specs.Reads.{Room, Reads}
use Rattle.readers.specs.Root.{capacity_within, before_start, ended, read_root, FillsRows, Admitted}
use Rattle.packed.proofs.Fitting.{put_within-none}

-- The capacity.

pub within_none : (capacity words : ℕ) → words ≡ 0 → in_force capacity ≡ capacity_within capacity words
unfolding capacity_within
within_none capacity words e = rw e

pub within-lent : (capacity words : ℕ) → (words ≡ 0 → ⊥) → min capacity (capacity_of words) ≡ capacity_within capacity words
unfolding capacity_within
within-lent capacity zero n = absurd (n refl)
within-lent capacity (suc words) n = refl

-- 11 of a whole reading, over the states that the code hands on.

module _ (d : List ℕ) where
  pub ended-refused : (whole : Bool) (x : Reading Val) {e : Stop} → refused e ≡ map (λ t. t.state) x → refused e ≡ map (λ t. t.state) (ended whole d x)
  ended-refused false x h = h
  ended-refused true (refused f) h = h
  ended-refused true (accepted t) h = let z : ◌≡◌ {A = ℕ} 0 1 = cc in absurd (omega arith)

  pub ended_open : (whole : Bool) (x : Reading Val) {s : State} → whole ≡ false → accepted s ≡ map (λ t. t.state) x → accepted s ≡ map (λ t. t.state) (ended whole d x)
  ended_open false x e h = h
  ended_open true x e h = let z : ◌≡◌ {A = ℕ} 0 1 = cc in absurd (omega arith)

  pub ended-whole : (whole : Bool) (x : Reading Val) {s : State} → whole ≡ true → accepted s ≡ map (λ t. t.state) x → test (eqb s.at (length d)) (stop 11 s) (λ _. accepted s) ≡ map (λ t. t.state) (ended whole d x)
  ended-whole false x e h = let z : ◌≡◌ {A = ℕ} 0 1 = cc in absurd (omega arith)
  ended-whole true (refused f) e h = let z : ◌≡◌ {A = ℕ} 0 1 = cc in absurd (omega arith)
  ended-whole true (accepted t) {s} e h =
      let q : s ≡ t.state = cc in
      rw q (go (eqb t.state.at (length d)))
    where
      go : (b : Bool) → test b (stop 11 t.state) (λ _. accepted t.state) ≡ map (λ (u : Step State Val). u.state) (test b (stop 11 t.state) (λ _. yield t.value t.state))
      go true = refl
      go false = refl

  -- what was read as a check, with its end
  module _ (whole : Bool) (x : Reading Val) {capacity : ℕ} {r : CodeStep} (a : step_of r ≡ map (λ t. t.state) x) (k : StepKeeps capacity r) where
    pub check_stopped : (z : Stopped) → r ≡ Err z → (step_of (Err z) ≡ map (λ t. t.state) (ended whole d x)) × (z.state.capacity ≡ capacity)
    check_stopped z e = (ended-refused whole x (ap step_of (sym e) ∙ a), rw e at k)

    module _ (u : CodeState) (e : r ≡ Ok u) where
      pub check_open : whole ≡ false → (step_of (Ok u) ≡ map (λ t. t.state) (ended whole d x)) × (u.capacity ≡ capacity)
      check_open w = (ended_open whole x w (ap step_of (sym e) ∙ a), rw e at k)

      pub check-ended : whole ≡ true → u.at ≡ length d → (step_of (Ok u) ≡ map (λ t. t.state) (ended whole d x)) × (u.capacity ≡ capacity)
      check-ended w l = (sym (test-true _ _ (eq-eqb _ _ l)) ∙ ended-whole whole x w (ap step_of (sym e) ∙ a), rw e at k)

      pub check_left_over : (z : Stopped) → z.state ≡ u → whole ≡ true → (u.at ≡ length d → ⊥) → reason_of z.refusal ≡ reason 11 (byte u.at) → (step_of (Err z) ≡ map (λ t. t.state) (ended whole d x)) × (z.state.capacity ≡ capacity)
      check_left_over z s w l n =
          let q : step_of (Err z) ≡ refused (stop 11 (state_of u)) = rw (n, s) in
          (q ∙ sym (test-false _ _ (ne_eqb _ _ l)) ∙ ended-whole whole x w (ap step_of (sym e) ∙ a), rw s (rw e at k))

  -- what is accepted as a whole was accepted
  pub ended-accepted : (whole : Bool) (x : Reading Val) {t : Step State Val} → ended whole d x ≡ accepted t → x ≡ accepted t
  ended-accepted false x h = h
  ended-accepted true (refused f) h = let z : ◌≡◌ {A = ℕ} 0 1 = cc in absurd (omega arith)
  ended-accepted true (accepted s) {t} h = go (eqb s.state.at (length d)) h
    where
      go : (b : Bool) → test b (stop 11 s.state) (λ _. yield s.value s.state) ≡ accepted t → ◌≡◌ {A = Reading Val} (accepted s) (accepted t)
      go true q = q
      go false q = let z : ◌≡◌ {A = ℕ} 0 1 = cc in absurd (omega arith)

-- Refusals 1 to 7.

module _ (g d : List ℕ) (index : ℕ) where
  -- what the reading of the root asks once 1 to 7 are not given
  pub root_admitted : {rows : List ℕ} {capacity : ℕ} → accepted tt ≡ admit_of g d index → Below (2 ^ 32) g → Bytes d → capacity ≤ 4096 → Room capacity rows → Admitted g d rows index capacity
  root_admitted h w b m r = record {
    passes = (admitted g d index h).0;
    words = w;
    short = (admitted g d index h).1;
    inside = (admitted g d index h).2;
    byte_values = b;
    most = m;
    room = r;
  }

  module _ (capacity : ℕ) (whole : Bool) where
    pub root-refused : {r : Reason} → refused r ≡ admit_of g d index → refused (record { why = r; state = start index }) ≡ read_root g d index capacity whole
    unfolding read_root
    root-refused h = ap (λ (o : Outcome Reason (Unit {0})). bind (before_start index o) (λ _. ended whole d (read_val capacity d (tree_of g 0) (start index)))) h

    pub root-read : accepted tt ≡ admit_of g d index → ended whole d (read_val capacity d (tree_of g 0) (start index)) ≡ read_root g d index capacity whole
    unfolding read_root
    root-read h = ap (λ (o : Outcome Reason (Unit {0})). bind (before_start index o) (λ _. ended whole d (read_val capacity d (tree_of g 0) (start index)))) h

    -- what is accepted was read from the index on
    pub root-accepted : (t : Step State Val) → read_root g d index capacity whole ≡ accepted t → (accepted tt ≡ admit_of g d index) × (read_val capacity d (tree_of g 0) (start index) ≡ accepted t)
    unfolding read_root
    root-accepted t h = go (admit_of g d index) refl h
      where
        go : (x : Outcome Reason (Unit {0})) → admit_of g d index ≡ x → bind (before_start index x) (λ _. ended whole d (read_val capacity d (tree_of g 0) (start index))) ≡ accepted t → (accepted tt ≡ admit_of g d index) × (read_val capacity d (tree_of g 0) (start index) ≡ accepted t)
        go (refused r) e q = let z : ◌≡◌ {A = ℕ} 0 1 = cc in absurd (omega arith)
        go (accepted u) e q = (sym e, ended-accepted d whole (read_val capacity d (tree_of g 0) (start index)) q)

-- The rows.

module _ {x : Reading Val} {capacity index : ℕ} {entry : List ℕ} where
  -- a refusal leaves them
  pub fills_stopped : (z : Stopped) → refused (stop_of z) ≡ map (λ t. t.state) x → z.state.capacity ≡ capacity → FillsRows x capacity index (Err z) entry entry
  fills_stopped z h c = record { answers = h; keeps = c; rows = go x h }
    where
      go : (y : Reading Val) → refused (stop_of z) ≡ map (λ t. t.state) y → entry ≡ contents (map (λ t. laid entry 0 (rows_of t.value index)) y) entry
      go (refused e) q = refl
      go (accepted t) q = let z : ◌≡◌ {A = ℕ} 0 1 = cc in absurd (omega arith)

  -- none are lent
  pub fills_none : (u : CodeState) → accepted (state_of u) ≡ map (λ t. t.state) x → u.capacity ≡ capacity → length entry ≡ 0 → FillsRows x capacity index (Ok u) entry entry
  fills_none u h c n = record { answers = h; keeps = c; rows = go x }
    where
      empty : (l : List ℕ) → length l ≡ 0 → l ≡ []
      empty [] e = refl
      empty (a ∷ l) e = absurd (omega arith)

      go : (y : Reading Val) → entry ≡ contents (map (λ t. laid entry 0 (rows_of t.value index)) y) entry
      go (refused e) = refl
      go (accepted t) = sym (put_within-none entry 0 (rows_of t.value index) (empty entry n))

  -- the root read again over the rows lent
  pub fills_read : {y : Reading Val} {s : State} {r : CodeStep} {exit : List ℕ} → accepted s ≡ map (λ t. t.state) x → ((t : Step State Val) → x ≡ accepted t → y ≡ accepted t) → Reads rows_of y capacity 0 index entry r exit → FillsRows x capacity index r entry exit
  fills_read {y} {s} {r} {exit} h f i = record { answers = (go x h (λ t e. f t e)).0; keeps = i.keeps; rows = (go x h (λ t e. f t e)).1 }
    where
      go : (z : Reading Val) → accepted s ≡ map (λ t. t.state) z → ((t : Step State Val) → z ≡ accepted t → y ≡ accepted t) → (step_of r ≡ map (λ t. t.state) z) × (exit ≡ contents (map (λ t. laid entry 0 (rows_of t.value index)) z) entry)
      go (refused e) q k = let z : ◌≡◌ {A = ℕ} 0 1 = cc in absurd (omega arith)
      go (accepted t) q k = (i.answers ∙ ap (map (λ (v : Step State Val). v.state)) (k t refl), i.rows t (k t refl))

-- what was checked, once 1 to 7 are not given
root-checked : (g d : List ℕ) (index : ℕ) (whole : Bool) (capacity : ℕ) {r q : CodeStep} → accepted tt ≡ admit_of g d index → step_of r ≡ map (λ t. t.state) (ended whole d (read_val capacity d (tree_of g 0) (start index))) → r ≡ q → step_of q ≡ map (λ t. t.state) (read_root g d index capacity whole)
root-checked g d index whole capacity h k e = ap step_of (sym e) ∙ k ∙ ap (map (λ (t : Step State Val). t.state)) (root-read g d index capacity whole h)

-- what `read` answers at the capacity `most`
module _ (g d : List ℕ) (index : ℕ) (whole : Bool) {entry : List ℕ} {most capacity : ℕ} (m : most ≡ capacity) where
  at_most : {r : CodeStep} {exit : List ℕ} → FillsRows (read_root g d index most whole) most index r entry exit → FillsRows (read_root g d index capacity whole) capacity index r entry exit
  at_most {r} {exit} f = subst (λ (c : ℕ). FillsRows (read_root g d index c whole) c index r entry exit) m f

  pub read-refused : (f : Refusal) → refused (reason_of f) ≡ admit_of g d index → FillsRows (read_root g d index capacity whole) capacity index (Err (record { state = record { at = index; begun = 0; capacity = most }; refusal = f })) entry entry
  read-refused f h = at_most (fills_stopped (record { state = record { at = index; begun = 0; capacity = most }; refusal = f }) (ap (map (λ (t : Step State Val). t.state)) (root-refused g d index most whole h)) refl)

  module _ (h : accepted tt ≡ admit_of g d index) {r : CodeStep} (k : (step_of r ≡ map (λ t. t.state) (ended whole d (read_val most d (tree_of g 0) (start index)))) × StepKeeps most r) where
    pub read_stopped : (z : Stopped) → r ≡ Err z → FillsRows (read_root g d index capacity whole) capacity index (Err z) entry entry
    read_stopped z e = let c = k.1 in at_most (fills_stopped z (root-checked g d index whole most h k.0 e) (rw e at c))

    pub read_none : (u : CodeState) → r ≡ Ok u → length entry ≡ 0 → FillsRows (read_root g d index capacity whole) capacity index (Ok u) entry entry
    read_none u e n = let c = k.1 in at_most (fills_none u (root-checked g d index whole most h k.0 e) (rw e at c) n)

    pub read_filled : (u : CodeState) {q : CodeStep} {exit : List ℕ} → r ≡ Ok u → Reads rows_of (read_val most d (tree_of g 0) (start index)) most 0 index entry q exit → FillsRows (read_root g d index capacity whole) capacity index q entry exit
    read_filled u e i = at_most (fills_read (root-checked g d index whole most h k.0 e) (λ t z. (root-accepted g d index most whole t z).1) i)

-- the rows of what is accepted are within the capacity
pub root-few : (g d : List ℕ) (index capacity : ℕ) (whole : Bool) (t : Step State Val) → read_root g d index capacity whole ≡ accepted t → row_count t.value ≤ capacity
root-few g d index capacity whole t h =
    let a = root-accepted g d index capacity whole t h in
    omega (arith, (agrees_accepted (agrees capacity d (tree_of g 0) (start index) (admitted g d index a.0).2) t a.1).2)
