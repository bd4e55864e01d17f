-- The calls beside GM's definitions: what `parse_val` accepts is what `parse_Val` parses, and `demarshall` accepts exactly what is
-- `Demarshallable`, where none of 1 to 8 is given.
use mathlib.Core.Path.{◌≡◌, refl, sym, ap, subst, ◌∙◌}
use mathlib.Core.Bool.{Bool, true, false}
use mathlib.Core.Option.{none, some}
use mathlib.Core.List.{List, [], ◌++◌}
use Prim.Native.Nat.{ℕ, ◌^◌, ◌≤◌, ◌<◌}
use native.Mathlib.Nat.{zero-add}
use native.Mathlib.Omega.{arith}
use native.Mathlib.Decide.{dec_le}
use lib.ListN.{length, drop}
use lib.Dec.{leb}
use borrow.Author.Tests.{leb-true}
use Rattle.refusal.specs.Outcome.{Outcome, accepted, refused, bind, test, Reason, reason, Location, byte}
use Rattle.packed.specs.Packed.{Bytes, Below}
use Rattle.value.specs.Tree.{Val, row_count}
use Rattle.value.specs.Bytes.{Stands}
use Rattle.value.specs.Step.{Step}
use Rattle.value.specs.Parse.{parse_val, Demarshallable, DemarshallFunc}
use Rattle.value.specs.Reading.{State, Stop, Reading, start, read_at, read_whole, read_to}
use Rattle.value.proofs.Agreement.{agrees, agrees_accepted}
use Rattle.value.proofs.Reading.{read-parsed, read-refused, read-accepted, read_at-inside, read_at-outside, whole_demarshallable, whole-refused}
use Rattle.grammar.specs.Check.{check_grammar}
use Rattle.grammar.specs.Rule.{FirstRefusal, first1, first2, first3, first4, first5}
use Rattle.grammar.specs.Tree.{tree_of}
use Rattle.grammar.proofs.Rule.{refused_exactly}
use Rattle.grammar.proofs.Tree.{tree_valid}
use Rattle.rows.specs.Layout.{rows_of}
use Rattle.rows.specs.Rule.{TableOf}
use Rattle.rows.proofs.LayoutLaws.{layout-table}
use Rattle.reading.specs.Calls.{without_state, guarded, parse_val_of, demarshall_of}
use Rattle.admission.proofs.Admission.{admitted}
use Rattle.reading.proofs.Calls.{without_state-accepted, parse-accepted}

grammar-number : (g : List ℕ) (n : ℕ) (place : Location) → check_grammar g ≡ refused (reason n place) → n ≤ 5
grammar-number g n place h = go ((refused_exactly g (reason n place)).0 h) refl
  where
    go : {r : Reason} → FirstRefusal g r → r ≡ reason n place → n ≤ 5
    go (first1 a) e = let q : 1 ≡ n = cc in omega arith
    go (first2 a b) e = let q : 2 ≡ n = cc in omega arith
    go (first3 k a b) e = let q : 3 ≡ n = cc in omega arith
    go (first4 k a b c) e = let q : 4 ≡ n = cc in omega arith
    go (first5 k i a b c f l m) e = let q : 5 ≡ n = cc in omega arith

without_state-refused : (x : Reading Val) (r : Reason) → without_state x ≡ refused r → (e : Stop) × (x ≡ refused e) × (e.why ≡ r)
without_state-refused (refused e) r h = let q : e.why ≡ r = cc in (e, refl, q)
without_state-refused (accepted t) r h = let z : ◌≡◌ {A = ℕ} 0 1 = cc in absurd (omega arith)

module _ (g d : List ℕ) (x : Unit {0} → Reading Val) where
  -- an accepted call passed 6, and the reading was accepted
  guarded-accepted : (t : Step State Val) → guarded g d x ≡ accepted t → (length d ≤ 1048576) × (x tt ≡ accepted t)
  guarded-accepted t h = go (check_grammar g) h
    where
      go2 : (b : Bool) → leb (length d) 1048576 ≡ b → test b (reason 6 (byte 0)) (λ _. without_state (x tt)) ≡ accepted t → (length d ≤ 1048576) × (x tt ≡ accepted t)
      go2 true e q = (leb-true (length d) 1048576 e, without_state-accepted (x tt) t q)
      go2 false e q = let z : ◌≡◌ {A = ℕ} 0 1 = cc in absurd (omega arith)

      go : (o : Outcome Reason (Unit {0})) → bind o (λ _. test (leb (length d) 1048576) (reason 6 (byte 0)) (λ _. without_state (x tt))) ≡ accepted t → (length d ≤ 1048576) × (x tt ≡ accepted t)
      go (accepted u) q = go2 (leb (length d) 1048576) refl q
      go (refused r) q = let z : ◌≡◌ {A = ℕ} 0 1 = cc in absurd (omega arith)

  -- a call refused by a number above 6 is a reading refused by it
  guarded-refused : (n : ℕ) (place : Location) → 6 < n → guarded g d x ≡ refused (reason n place) → (e : Stop) × (x tt ≡ refused e) × (e.why ≡ reason n place)
  guarded-refused n place l h = go (check_grammar g) refl h
    where
      go2 : (b : Bool) → test b (reason 6 (byte 0)) (λ _. without_state (x tt)) ≡ refused (reason n place) → (e : Stop) × (x tt ≡ refused e) × (e.why ≡ reason n place)
      go2 true q = without_state-refused (x tt) (reason n place) q
      go2 false q = let z : 6 ≡ n = cc in absurd (omega arith)

      go : (o : Outcome Reason (Unit {0})) → check_grammar g ≡ o → bind o (λ _. test (leb (length d) 1048576) (reason 6 (byte 0)) (λ _. without_state (x tt))) ≡ refused (reason n place) → (e : Stop) × (x tt ≡ refused e) × (e.why ≡ reason n place)
      go (accepted u) e q = go2 (leb (length d) 1048576) q
      go (refused r) e q = let p : r ≡ reason n place = cc in let f = grammar-number g n place (e ∙ ap refused p) in absurd (omega (arith, f))

module _ (g d : List ℕ) (index capacity : ℕ) where
  -- what `parse_val` accepts is what GM's `parse_Val` parses from the index on, and `rest_index` is where the rest begins
  pub parse-parses : (t : Step State Val) → parse_val_of g d index capacity ≡ accepted t → parse_val (drop index d) (tree_of g 0) ≡ (some t.value, drop t.state.at d)
  parse-parses t h =
      let a = parse-accepted g d index capacity t h in
      read-parsed capacity d (tree_of g 0) (start index) (admitted g d index a.0).2 t a.1

  -- the value stands there by the byte rule; the row count is its own, and `rest_index` the position behind its bytes
  pub parse_stands : Below (2 ^ 32) g → Bytes d → (t : Step State Val) → parse_val_of g d index capacity ≡ accepted t → Stands d (tree_of g 0) index t.value × (row_count t.value ≤ capacity) × (t ≡ read_to t.value (start index))
  parse_stands w b t h =
      let a = parse-accepted g d index capacity t h in
      let x = read-accepted capacity d (tree_of g 0) (start index) (admitted g d index a.0).2 (tree_valid g w 0) b t a.1 in
      (x.0, omega (arith, x.1), x.2)

  -- the rows laid out, whatever follows them, are a table of the value with the record as store, so the walk gives it back
  pub parse-table : Below (2 ^ 32) g → Bytes d → capacity ≤ 4096 → (t : Step State Val) → parse_val_of g d index capacity ≡ accepted t → (more : List ℕ) → TableOf (rows_of t.value index ++ more) t.state.begun d t.value
  parse-table w b l t h more =
      let a = parse-accepted g d index capacity t h in
      let x = parse_stands w b t h in
      let n : t.state.begun ≡ row_count t.value = ap (λ (u : Step State Val). u.state.begun) x.2 ∙ zero-add (row_count t.value) in
      subst (λ (k : ℕ). TableOf (rows_of t.value index ++ more) k d t.value) (sym n)
      (layout-table t.value index more d (omega (arith, x.1)) (admitted g d index a.0).1 x.0.of_grammar.valid x.0.of_grammar.typed x.0.bytes)

  -- it ends within the record
  pub parse-inside : (t : Step State Val) → parse_val_of g d index capacity ≡ accepted t → t.state.at ≤ length d
  parse-inside t h =
      let a = parse-accepted g d index capacity t h in
      (agrees_accepted (agrees capacity d (tree_of g 0) (start index) (admitted g d index a.0).2) t a.1).0

  -- where it refuses and none of 1 to 8 is given, GM parses nothing
  pub parse-none : (n : ℕ) (place : Location) → 8 < n → parse_val_of g d index capacity ≡ refused (reason n place) → parse_val (drop index d) (tree_of g 0) ≡ (none, [])
  unfolding parse_val_of
  parse-none n place l h = go (dec_le index (length d)) (guarded-refused g d (λ _. read_at capacity d (tree_of g 0) index) n place (omega arith) h)
    where
      go : Dec (index ≤ length d) → (e : Stop) × (read_at capacity d (tree_of g 0) index ≡ refused e) × (e.why ≡ reason n place) → parse_val (drop index d) (tree_of g 0) ≡ (none, [])
      go (yes i) x = read-refused capacity d (tree_of g 0) (start index) i x.0 n place (sym (read_at-inside capacity d (tree_of g 0) index i) ∙ x.1) x.2 (λ q. omega arith)
      go (no i) x =
          let q : refused x.0 ≡ refused _ = sym x.1 ∙ read_at-outside capacity d (tree_of g 0) index (omega (arith, i)) in
          let z : 7 ≡ n = cc in
          absurd (omega arith)

-- GM's `success == Demarshallable(data, grammar)`, where none of 1 to 8 is given
module _ (g d : List ℕ) (capacity : ℕ) (w : Below (2 ^ 32) g) (b : Bytes d) where
  pub demarshall_accepted : (t : Step State Val) → demarshall_of g d capacity ≡ accepted t → (m : Demarshallable d (tree_of g 0)) × (DemarshallFunc d (tree_of g 0) m ≡ t.value)
  unfolding demarshall_of
  demarshall_accepted t h =
      let a = guarded-accepted g d (λ _. read_whole capacity d (tree_of g 0)) t h in
      whole_demarshallable capacity d (tree_of g 0) (tree_valid g w 0) b (omega (arith, a.0)) t a.1

  pub demarshall_refused : (n : ℕ) (place : Location) → 8 < n → demarshall_of g d capacity ≡ refused (reason n place) → ¬ (Demarshallable d (tree_of g 0))
  unfolding demarshall_of
  demarshall_refused n place l h =
      let a = guarded-refused g d (λ _. read_whole capacity d (tree_of g 0)) n place (omega arith) h in
      whole-refused capacity d (tree_of g 0) (tree_valid g w 0) b a.0 n place a.1 a.2 (λ q. omega arith)
