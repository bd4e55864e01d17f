-- The import of the root: 1 to 6, the check, and the rows and the store that are filled.
use mathlib.Core.Path.{◌≡◌, refl, ap, sym, ◌∙◌}
use mathlib.Core.Bool.{Bool, true, false}
use mathlib.Core.List.{List}
use Prim.Native.Nat.{ℕ, ◌*◌, ◌^◌, ◌≤◌}
use native.Mathlib.Omega.{arith}
use lib.ListN.{length}
use lib.Dec.{leb, eqb}
use borrow.Author.Tests.{eq-eqb, ne_eqb, leb-true}
use Rattle.refusal.specs.Outcome.{Outcome, accepted, refused, test, map, Reason, reason, byte}
use Rattle.refusal.specs.Meaning.{reason_of}
use Rattle.refusal.specs.declared.Refusal.{Refusal}
use Rattle.refusal.proofs.Outcome.{clash, map-accepted, bind_inverse, test-true, test-false, test_passed}
use Rattle.packed.specs.Packed.{Bytes, Below}
use Rattle.packed.proofs.Fitting.{put_within-fits}
use Rattle.value.specs.Tree.{G, Val, vnil, vcons, SizeOfV, SeqSum}
use Rattle.value.specs.Step.{Step, yield, next}
use Rattle.tables.specs.Row.{row_width}
use Rattle.grammar.specs.Check.{check_grammar}
use Rattle.grammar.specs.Rule.{Passes}
use Rattle.grammar.specs.Tree.{tree_of}
use Rattle.grammar.proofs.Rule.{accepted_exactly}
use Rattle.admission.specs.Admission.{check_length}
use Rattle.xdr.specs.Xdr.{store_of, store_of_all, rows_in, rows_in_all}
use Rattle.xdr.specs.Import.{Filling, Importing, start, at_end, import_fields, import_val, import_whole}
use Rattle.xdr.proofs.Rows.{length-rows_in}
use Rattle.importing.specs.declared.Filling.{Filling as CodeFilling}
use Rattle.importing.specs.declared.Lent.{Lent as CodeLent}
use Rattle.std.specs.Prelude.{Ok, Err}
use Rattle.importing.specs.Meaning.{CodeStep, filling_of, step_of}
use Rattle.importing.specs.Brings.{Ready, Brings, trees_at, Admitted}
use Rattle.importing.specs.Calls.{admit_of, import_of, Imports}
use Rattle.importing.proofs.Cycle.{went_on, stopped, brings_as, one-row, one_store, one_size, tree_one, val-accepted}

-- ---- the root

pub root-ready : {g d rows store : List ℕ} {lent : CodeLent} (s : CodeFilling) → s.at ≡ 0 → s.begun ≡ 0 → s.used ≡ 0 → s.size ≡ 0 → Admitted g d rows store lent → Ready d rows store lent s
root-ready s a b c z p = record { inside = omega arith; short = p.short; few = omega arith; most = p.most; within = omega arith; small = p.small; sized = omega arith; rows_lent = p.rows_lent; store_lent = p.store_lent; byte_values = p.byte_values }

-- the only child of the loop is the root
pub root-one : (g d : List ℕ) {rows₀ store₀ rows₁ store₁ : List ℕ} (lent : CodeLent) {r : CodeStep} → Brings rows_in_all store_of_all SeqSum (import_fields lent.capacity lent.room d (trees_at g 0 0 1) start) 0 0 0 rows₀ store₀ r rows₁ store₁ → Brings rows_in store_of SizeOfV (import_val lent.capacity lent.room d (tree_of g 0) start) 0 0 0 rows₀ store₀ r rows₁ store₁
root-one g d lent h = brings_as {rowsAs = rows_in} {storeAs = store_of} {sizeAs = SizeOfV} (λ v. vcons v vnil) (import_val lent.capacity lent.room d (tree_of g 0) start) (tree_one g lent.capacity lent.room d 0 start) (λ v. one-row v 0) one_store one_size h

-- ---- the check

module _ (capacity len : ℕ) (d : List ℕ) (g : G) where
  ended : Importing Val → Outcome Reason Filling
  ended x = map (λ t. t.state) (next x (at_end d))

  pub whole-refused : {e : Reason} → refused e ≡ import_val capacity len d g start → refused e ≡ map (λ t. t.state) (import_whole capacity len d g)
  unfolding import_whole ended
  whole-refused h = ap ended h

  module _ (v : Val) (u : CodeFilling) (h : import_val capacity len d g start ≡ yield v (filling_of u)) where
    pub whole-over : (u.at ≡ length d → ⊥) → refused (reason 11 (byte u.at)) ≡ map (λ t. t.state) (import_whole capacity len d g)
    unfolding import_whole ended
    whole-over n = sym (ap ended h ∙ ap (map (λ (t : Step Filling Val). t.state)) (test-false _ _ (ne_eqb u.at (length d) n)))

    pub whole_done : u.at ≡ length d → accepted (filling_of u) ≡ map (λ t. t.state) (import_whole capacity len d g)
    unfolding import_whole ended
    whole_done e = sym (ap ended h ∙ ap (map (λ (t : Step Filling Val). t.state)) (test-true _ _ (eq-eqb u.at (length d) e)))

  -- an accepted whole import is one of the root
  pub whole-root : (t : Step Filling Val) → import_whole capacity len d g ≡ accepted t → import_val capacity len d g start ≡ accepted t
  unfolding import_whole
  whole-root t e =
      let x = bind_inverse (import_val capacity len d g start) _ e in
      let b = test_passed (eqb x.0.state.at (length d)) _ _ t x.2 in
      let q : accepted x.0 ≡ accepted t = sym (test-true _ _ b) ∙ x.2 in
      x.1 ∙ q

-- ---- what is decided first

module _ (g d s : List ℕ) where
  pub admit_grammar : {e : Reason} → refused e ≡ check_grammar g → refused e ≡ admit_of g d (length s)
  unfolding admit_of
  admit_grammar h = rw (← h)

  module _ (a : accepted tt ≡ check_grammar g) where
    pub admit_record : {e : Reason} → refused e ≡ check_length d → refused e ≡ admit_of g d (length s)
    unfolding admit_of
    admit_record h = rw (← a) (go (leb (length d) 1048576) h)
      where
        go : {e : Reason} (b : Bool) → refused e ≡ test b (reason 6 (byte 0)) accepted → refused e ≡ test b (reason 6 (byte 0)) (λ _. test (leb (length s) 1048576) (reason 6 (byte 0)) accepted)
        go true h = clash h
        go false h = h

    pub admit_store : accepted tt ≡ check_length d → check_length s ≡ admit_of g d (length s)
    unfolding admit_of
    admit_store h = rw (← a, test_passed (leb (length d) 1048576) _ accepted tt (sym h))

pub admitted : (g d : List ℕ) (len : ℕ) → accepted tt ≡ admit_of g d len → Passes g × (length d ≤ 1048576) × (len ≤ 1048576)
unfolding admit_of
admitted g d len h =
    let x = bind_inverse (check_grammar g) _ (sym h) in
    let a = test_passed (leb (length d) 1048576) _ _ tt x.2 in
    let b = test_passed (leb len 1048576) (reason 6 (byte 0)) accepted tt (sym (test-true _ _ a) ∙ x.2) in
    ((accepted_exactly g).0 x.1, leb-true (length d) 1048576 a, leb-true len 1048576 b)

-- ---- the call

module _ (g d rows store : List ℕ) (capacity : ℕ) where
  pub import_refused : (f : Refusal) → refused (reason_of f) ≡ admit_of g d (length store) → Imports (import_of g d capacity (length store)) (Err f) rows store rows store
  unfolding import_of
  import_refused f h = rw (← h) (record { answers = refl; rows = refl; store = refl })

  module _ (a : accepted tt ≡ admit_of g d (length store)) where
    whole : import_of g d capacity (length store) ≡ import_whole capacity (length store) d (tree_of g 0)
    unfolding import_of
    whole = rw (← a)

    pub import_stopped : (f : Refusal) {r : CodeStep} → r ≡ Err f → step_of r ≡ map (λ t. t.state) (import_whole capacity (length store) d (tree_of g 0)) → Imports (import_of g d capacity (length store)) (Err f) rows store rows store
    import_stopped f e h = rw whole (go (import_whole capacity (length store) d (tree_of g 0)) (ap step_of (sym e) ∙ h))
      where
        go : (x : Importing Val) → refused (reason_of f) ≡ map (λ t. t.state) x → Imports x (Err f) rows store rows store
        go (accepted t) q = clash q
        go (refused e) q = let z : reason_of f ≡ e = cc in rw (← z) (record { answers = refl; rows = refl; store = refl })

    -- the check went on, so the filling does, with the same state
    module _ {s : Filling} (h : accepted s ≡ map (λ t. t.state) (import_whole capacity (length store) d (tree_of g 0))) {r : CodeStep} {rows₁ store₁ : List ℕ} (b : Brings rows_in store_of SizeOfV (import_val capacity (length store) d (tree_of g 0) start) 0 0 0 rows store r rows₁ store₁) where
      pub import_again : (f : Refusal) → r ≡ Err f → ⊥
      import_again f e =
          let x = map-accepted (λ (t : Step Filling Val). t.state) (import_whole capacity (length store) d (tree_of g 0)) (sym h) in
          clash (stopped f e b ∙ whole-root capacity (length store) d (tree_of g 0) x.0 x.1)

      pub import_filled : (w : Below (2 ^ 32) g) (ok : Bytes d) → row_width * capacity ≤ length rows → (u : CodeFilling) → r ≡ Ok u → Imports (import_of g d capacity (length store)) (Ok (record { rows = u.begun; used = u.used })) rows store rows₁ store₁
      import_filled w ok l u e =
          let x = map-accepted (λ (t : Step Filling Val). t.state) (import_whole capacity (length store) d (tree_of g 0)) (sym h) in
          let y = went_on u e b in
          let q : accepted x.0 ≡ yield y.0 (filling_of u) = sym (whole-root capacity (length store) d (tree_of g 0) x.0 x.1) ∙ y.1 in
          let z : import_of g d capacity (length store) ≡ yield y.0 (filling_of u) = whole ∙ x.1 ∙ q in
          let a = val-accepted g w capacity (length store) d ok start (omega arith) (omega arith) 0 (record { value = y.0; state = filling_of u }) y.1 in
          let n = length-rows_in y.0 0 in
          rw z (record {
            answers = refl;
            rows = y.2 ∙ put_within-fits rows 0 (rows_in y.0 0) (omega (arith, a.1, a.2));
            store = y.3 ∙ put_within-fits store 0 (store_of y.0) (omega (arith, a.3, a.4));
          })
