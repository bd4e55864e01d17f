-- The first field of a root that was read.
use mathlib.Core.Path.{◌≡◌, refl, ap, sym, subst, ◌∙◌}
use mathlib.Core.Bool.{true}
use mathlib.Core.Logic.{inl}
use mathlib.Core.List.{List, []}
use Prim.Native.Nat.{ℕ, zero, suc, ◌+◌, ◌^◌, ◌<◌}
use native.Mathlib.Nat.{add-zero}
use native.Mathlib.Omega.{arith}
use lib.ListN.{length}
use lib.Dec.{ltb}
use borrow.Author.Tests.{ltb-true}
use Rattle.refusal.specs.Outcome.{Outcome, accepted, refused, bind, map}
use Rattle.refusal.proofs.Meaning.{matched}
use Rattle.refusal.proofs.Outcome.{bind_inverse, map-accepted, test-true, test_passed}
use Rattle.packed.specs.Packed.{Bytes, Below}
use Rattle.value.specs.Kinds.{Kind, kind_of, constant, number, array, tuple, elements, union, other}
use Rattle.value.specs.Tree.{G, Gs, GTuple, gcons, seq_g, Val, Vals, VConstant, VNumber, VArray, VTuple, VNumberArray, VCase, vnil, vcons, ValInGrammar, in_tuple, each_cons}
use Rattle.value.specs.Step.{Step, both}
use Rattle.value.specs.Reading.{State, Stop, Reading, stop, start, begin, claim, read_body, read_fields, read_val, read_to}
use Rattle.value.proofs.KindLaws.{other-kinds}
use Rattle.value.proofs.Reading.{read-accepted}
use Rattle.tables.specs.Grammar.{kind_word, first_word, count_word, child_word}
use Rattle.grammar.specs.Rule.{Passes}
use Rattle.grammar.specs.Tree.{node_tree, child_trees, tree_of}
use Rattle.grammar.proofs.Tree.{tree_node, tree_valid, trees_length}
use Rattle.rows.proofs.Rule.{class_word}
use Rattle.admission.specs.Admission.{in_force}
use Rattle.readers.specs.declared.State.{State as CodeState}
use Rattle.std.specs.Prelude.{Ok, Err}
use Rattle.readers.specs.declared.Stopped.{Stopped}
use Rattle.readers.specs.Meaning.{CodeStep, step_of, StepKeeps}
use Rattle.readers.specs.Root.{capacity_within, read_root, FillsRows, Admitted, behind_first_field, first_field_of, ReadsFirstField}
use Rattle.readers.proofs.Cycle.{give-accepted}
use Rattle.readers.proofs.Root.{within_none, root_admitted, root-accepted}

-- a value, and what is read behind it
both-accepted : (x : Reading Val) (k : State → Reading Vals) (t : Step State Vals) → both x k ≡ accepted t → (u : Step State Val) × (x ≡ accepted u) × (vs : Vals) × (t.value ≡ vcons u.value vs)
both-accepted x k t h =
    let u = bind_inverse x _ h in
    let y = give-accepted (vcons u.0.value) (k u.0.state) t u.2 in
    (u.0, u.1, y.0.value, ap (λ (s : Step State Vals). s.value) y.2)

-- a tuple with a field is of the class of tuples, and its node has a child
tuple_class : (k : Kind) (gs : Gs) {v : Val} {vs : Vals} → ValInGrammar (VTuple (vcons v vs)) (node_tree k gs) → (k ≡ tuple) × (0 < length (seq_g gs))
unfolding node_tree
tuple_class tuple gs (in_tuple (each_cons x xs)) = (refl, omega arith)
tuple_class constant gs x = elim x [ ]
tuple_class (number _) gs x = elim x [ ]
tuple_class array gs x = elim x [ ]
tuple_class (elements _) gs x = elim x [ ]
tuple_class union gs x = elim x [ ]
tuple_class other gs x = elim x [ ]

module _ (g : List ℕ) (p : Passes g) where
  root_tree : tree_of g 0 ≡ node_tree (kind_of (kind_word g 0)) (child_trees g (tree_of g) (first_word g 0) (count_word g 0))
  root_tree = tree_node g p 0 (omega arith)

  -- a tuple with a field is of a root of kind 4 with a child
  pub tuple-root : {v : Val} {vs : Vals} → ValInGrammar (VTuple (vcons v vs)) (tree_of g 0) → (kind_word g 0 ≡ 4) × (0 < count_word g 0)
  tuple-root {v} {vs} i =
      let x = tuple_class (kind_of (kind_word g 0)) (child_trees g (tree_of g) (first_word g 0) (count_word g 0)) (subst (ValInGrammar (VTuple (vcons v vs))) root_tree i) in
      (class_word (kind_word g 0) (λ o. let z : ◌≡◌ {A = ℕ} 0 1 = cc in omega arith) x.0, omega (arith, x.1, trees_length g (tree_of g) (count_word g 0) (first_word g 0)))

  -- the tree of such a root, by that of its first child
  pub root_fields : kind_word g 0 ≡ 4 → 0 < count_word g 0 → (gs : Gs) × (tree_of g 0 ≡ GTuple (gcons (tree_of g (child_word g (first_word g 0))) gs))
  unfolding node_tree child_trees
  root_fields k n = go (count_word g 0) n (root_tree ∙ rw (k, other-kinds.2))
    where
      go : (m : ℕ) → 0 < m → tree_of g 0 ≡ GTuple (child_trees g (tree_of g) (first_word g 0) m) → (gs : Gs) × (tree_of g 0 ≡ GTuple (gcons (tree_of g (child_word g (first_word g 0))) gs))
      go zero l e = absurd (omega arith)
      go (suc m) l e = (child_trees g (tree_of g) (suc (first_word g 0)) m, e)

  -- any other root has no value with a first field
  pub no-first-field : (kind_word g 0 ≡ 4 → count_word g 0 ≡ 0) → (x : Val) → ValInGrammar x (tree_of g 0) → behind_first_field x ≡ start 0
  no-first-field n VConstant i = refl
  no-first-field n (VNumber k m) i = refl
  no-first-field n (VArray vs) i = refl
  no-first-field n (VTuple vnil) i = refl
  no-first-field n (VTuple (vcons v vs)) i = let r = tuple-root i in let z = n r.0 in absurd (omega (arith, r.1, z))
  no-first-field n (VNumberArray k ns) i = refl
  no-first-field n (VCase c v) i = refl

-- a value that was read has its row, and its body was read behind it
row_taken : (capacity : ℕ) (d : List ℕ) (g : G) (s : State) (t : Step State Val) → read_val capacity d g s ≡ accepted t → (s.begun < capacity) × (read_body capacity d g (begin s) ≡ accepted t)
unfolding claim
row_taken capacity d g s t h =
    let x = bind_inverse (claim capacity s) (read_body capacity d g) h in
    let b = test_passed (ltb s.begun capacity) (stop 8 (begin s)) (λ _. accepted (begin s)) x.0 x.1 in
    (ltb-true s.begun capacity b, ap (λ (o : Outcome Stop State). bind o (read_body capacity d g)) (sym (test-true _ _ b)) ∙ h)

-- the state behind a field that was read
behind-read : (t u : Step State Val) (vs : Vals) → t.value ≡ VTuple (vcons u.value vs) → u ≡ read_to u.value (begin (start 0)) → u.state ≡ behind_first_field t.value
behind-read t u vs v e = ap (λ (s : Step State Val). s.state) e ∙ ap behind_first_field (sym v)

module _ (g d : List ℕ) (capacity : ℕ) (a : Admitted g d [] 0 capacity) (t : Step State Val) (h : read_val capacity d (tree_of g 0) (start 0) ≡ accepted t) where
  -- the first field, read behind the root's row
  pub first_read : kind_word g 0 ≡ 4 → 0 < count_word g 0 → map (λ (u : Step State Val). u.state) (read_val capacity d (tree_of g (child_word g (first_word g 0))) (begin (start 0))) ≡ accepted (behind_first_field t.value)
  unfolding read_body
  first_read k n =
      let c = tree_of g (child_word g (first_word g 0)) in
      let f = root_fields g a.passes k n in
      let b = (row_taken capacity d (GTuple (gcons c f.0)) (start 0) t (ap (λ (x : G). read_val capacity d x (start 0)) (sym f.1) ∙ h)).1 in
      let x = give-accepted VTuple (read_fields capacity d (gcons c f.0) (begin (start 0))) t b in
      let y = both-accepted (read_val capacity d c (begin (start 0))) (read_fields capacity d f.0) x.0 x.1 in
      let e : y.0 ≡ read_to y.0.value (begin (start 0)) = (read-accepted capacity d c (begin (start 0)) (omega arith) (tree_valid g a.words (child_word g (first_word g 0))) a.byte_values y.0 y.1).2 in
      let v : t.value ≡ VTuple (vcons y.0.value y.2) = ap (λ (s : Step State Val). s.value) x.2 ∙ ap VTuple y.3 in
      ap (map (λ (u : Step State Val). u.state)) y.1 ∙ ap accepted (behind-read t y.0 y.2 v e)

  -- the same of what the code calls the child, and of its answer
  pub child_read : {child : ℕ} {x : Outcome Stop State} → kind_word g 0 ≡ 4 → (count_word g 0 ≡ 0 → ⊥) → child ≡ child_word g (first_word g 0 + 0) → x ≡ map (λ (u : Step State Val). u.state) (read_val capacity d (tree_of g child) (begin (start 0))) → x ≡ accepted (behind_first_field t.value)
  child_read k n e q = q ∙ ap (λ (c : ℕ). map (λ (u : Step State Val). u.state) (read_val capacity d (tree_of g c) (begin (start 0)))) (e ∙ ap (child_word g) (add-zero (first_word g 0))) ∙ first_read k (omega (arith, n))

  -- where the root has no first field, the state before it
  pub first-none : (kind_word g 0 ≡ 4 → count_word g 0 ≡ 0) → start 0 ≡ behind_first_field t.value
  first-none n =
      let x = read-accepted capacity d (tree_of g 0) (start 0) a.inside (tree_valid g a.words 0) a.byte_values t h in
      sym (no-first-field g a.passes n t.value x.0.of_grammar.in_grammar)

-- What `check_first_field` answers.

-- a refusal stays, whatever is asked of the value
refusal_stays : (x : Reading Val) {e : Stop} → refused e ≡ map (λ t. t.state) x → refused e ≡ map (λ t. behind_first_field t.value) x
refusal_stays (refused f) h = h
refusal_stays (accepted t) h = let z : ◌≡◌ {A = ℕ} 0 1 = cc in absurd (omega arith)

module _ (g d : List ℕ) (named : ℕ) {r : CodeStep} {entry exit : List ℕ} (f : FillsRows (read_root g d 0 (capacity_within named 0) true) (capacity_within named 0) 0 r entry exit) where
  whole-check : (step_of r ≡ map (λ t. t.state) (read_root g d 0 (in_force named) true)) × StepKeeps (in_force named) r
  whole-check = subst (λ (c : ℕ). (step_of r ≡ map (λ t. t.state) (read_root g d 0 c true)) × StepKeeps c r) (sym (within_none named 0 refl)) (f.answers, f.keeps)

  -- the whole reading stopped
  pub field_stopped : (z : Stopped) → r ≡ Err z → (step_of (Err z) ≡ first_field_of g d (in_force named)) × (z.state.capacity ≡ in_force named)
  field_stopped z e = let k = whole-check.1 in (refusal_stays (read_root g d 0 (in_force named) true) (matched step_of e whole-check.0), rw e at k)

  module _ (u : CodeState) (e : r ≡ Ok u) where
    in_force_lem : u.capacity ≡ in_force named
    in_force_lem = let k = whole-check.1 in rw e at k

    whole-read : (t : Step State Val) × (read_root g d 0 (in_force named) true ≡ accepted t)
    whole-read = let m = map-accepted (λ (t : Step State Val). t.state) (read_root g d 0 (in_force named) true) (sym (matched step_of e whole-check.0)) in (m.0, m.1)

    -- the whole reading went on, so the first field may be read
    pub field_admitted : Below (2 ^ 32) g → Bytes d → Admitted g d [] 0 u.capacity × (0 < u.capacity)
    field_admitted w b =
        let x = whole-read in
        let a = root-accepted g d 0 (in_force named) true x.0 x.1 in
        (root_admitted g d 0 a.0 w b (omega (arith, in_force_lem)) (inl refl), omega (arith, in_force_lem, (row_taken (in_force named) d (tree_of g 0) (start 0) x.0 a.1).0))

    -- what reading it answers
    pub field-read : {x : CodeStep} → ReadsFirstField g d u.capacity x → (step_of x ≡ first_field_of g d (in_force named)) × StepKeeps (in_force named) x
    field-read {x} h =
        let a = whole-read in
        let i : ReadsFirstField g d (in_force named) x = subst (λ (c : ℕ). ReadsFirstField g d c x) in_force_lem h in
        (i.answers a.0 (root-accepted g d 0 (in_force named) true a.0 a.1).1 ∙ sym (ap (map (λ (t : Step State Val). behind_first_field t.value)) a.1), i.keeps)
