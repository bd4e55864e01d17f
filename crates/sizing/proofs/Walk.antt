-- The second walk as the code takes it: a row's arm by its kind, and the loops, where what is left decides the whole.
use Rattle.std.proofs.Common.{◌≡◌, refl, ap, sym, subst, ◌∙◌, Bool, true, false, ◌&&◌, List, ℕ, suc, ◌+◌, ◌-◌, ◌*◌, ◌≤◌, ◌<◌, add-zero, add-one, arith, length, eqb, eq-eqb, ne_eqb, le-ltb, Result, Ok, Err, Some}
use Rattle.refusal.specs.Outcome.{Outcome, accepted, refused, bind, Reason, reason, row}
use Rattle.refusal.specs.Meaning.{outcome_of}
use Rattle.refusal.specs.declared.Refusal.{Refusal}
use Rattle.value.specs.declared.Kind.{Kind as CodeKind}
use Rattle.value.specs.declared.Kind.TheVariants as Code
use Rattle.value.specs.declared.Number.TheVariants as Numbers
use Rattle.value.specs.declared.Elements.TheVariants as Widths
use Rattle.value.specs.Meaning.{kind_named, kind_word as code_word}
use Rattle.refusal.proofs.Outcome.{test-true}
use Rattle.refusal.proofs.Tests.{reflects_eqb, reflects_ltb, reflects_and}
use Rattle.value.specs.Kinds.{number_kind, elements_kind, Number, uint32, uint64, int32, int64, Elements, bytes, uint32s, uint64s, Kind, constant, number, array, tuple, elements, union, other, kinds, kind_of}
use Rattle.value.proofs.KindLaws.{is_parent}
use Rattle.value.specs.Tree.{G, Gs, Val, Vals, VConstant, VNumber, VArray, VTuple, VNumberArray, VCase, vnil, vcons, seq_g, seq_v, case_at, row_count, row_counts}
use Rattle.tables.specs.Grammar.{node_count, kind_word, first_word, count_word, child_word}
use Rattle.grammar.specs.Rule.{Passes}
use Rattle.grammar.specs.Tree.{node_tree, child_trees, tree_of}
use Rattle.grammar.proofs.Rule.{node-inside, node-named, child_inside}
use Rattle.grammar.proofs.Tree.{tree_node, trees_length, trees_at_lem}
use Rattle.tables.specs.Row.{row_width, Row, row_at}
use Rattle.rows.specs.Layout.{own_row}
use Rattle.rows.specs.Rule.{StandFor, StandForAll}
use Rattle.rows.proofs.Rule.{word_of, kind-word, class_word, own_row_lem, row-span}
use Rattle.sizing.specs.InGrammar.{kind_number, element_grammar, part_grammars, at15, check_in_grammar, check_all_in_grammar, check_each_in_grammar}
use Rattle.sizing.specs.Checks.{Standing, StandingAll, Checks, ChecksAll}

-- ---- the tree of a node by its words

class_kind : (c : Kind) (gs : Gs) → (c ≡ other → ⊥) → kind_number (node_tree c gs) ≡ word_of c
unfolding node_tree
class_kind constant gs h = refl
class_kind (number k) gs h = refl
class_kind array gs h = refl
class_kind tuple gs h = refl
class_kind (elements k) gs h = refl
class_kind union gs h = refl
class_kind other gs h = absurd (h refl)

-- the kind word in an arm of a match on its kind
pub arm-word : (w : ℕ) {k q : CodeKind} → kind_named (Some k) ≡ kind_of w → k ≡ q → w ≡ code_word q
arm-word w {q = q} h e = go q (rw e at h)
  where
    go : (q : CodeKind) → kind_named (Some q) ≡ kind_of w → w ≡ code_word q
    go Code.Constant h = class_word w (λ o. cc) (sym h)
    go (Code.Number n) h = class_word w (λ o. cc) (sym h)
    go Code.Array h = class_word w (λ o. cc) (sym h)
    go Code.Tuple h = class_word w (λ o. cc) (sym h)
    go (Code.Elements e) h = class_word w (λ o. cc) (sym h)
    go Code.Union h = class_word w (λ o. cc) (sym h)

-- the kinds whose values have no children
abbrev pub is_leaf : CodeKind → Bool
is_leaf Code.Constant = true
is_leaf (Code.Number n) = true
is_leaf Code.Array = false
is_leaf Code.Tuple = false
is_leaf (Code.Elements e) = true
is_leaf Code.Union = false

leaf-word : (k : CodeKind) → is_leaf k ≡ true → is_parent (code_word k) ≡ false
leaf-word Code.Constant h = refl
leaf-word (Code.Number Numbers.Uint32) h = refl
leaf-word (Code.Number Numbers.Uint64) h = refl
leaf-word (Code.Number Numbers.Int32) h = refl
leaf-word (Code.Number Numbers.Int64) h = refl
leaf-word Code.Array h = cc
leaf-word Code.Tuple h = cc
leaf-word (Code.Elements Widths.Bytes) h = refl
leaf-word (Code.Elements Widths.Uint32s) h = refl
leaf-word (Code.Elements Widths.Uint64s) h = refl
leaf-word Code.Union h = cc

-- a kind word whose children are fields or cases
abbrev pub Parted : ℕ → Type 0
Parted w = (gs : Gs) → part_grammars (node_tree (kind_of w) gs) ≡ gs

pub tuple-parts : Parted 4
unfolding node_tree kind_of kinds
tuple-parts gs = refl

pub union-parts : Parted 8
unfolding node_tree kind_of kinds
union-parts gs = refl

module _ (g : List ℕ) (p : Passes g) (k : ℕ) (b : k < node_count g) where
  children : Gs
  children = child_trees g (tree_of g) (first_word g k) (count_word g k)

  pub tree_kind : kind_number (tree_of g k) ≡ kind_word g k
  unfolding children
  tree_kind = ap kind_number (tree_node g p k b) ∙ class_kind (kind_of (kind_word g k)) children (node-named g p k b) ∙ sym (kind-word (kind_word g k) (node-named g p k b))

  by_word : (w : ℕ) → kind_word g k ≡ w → tree_of g k ≡ node_tree (kind_of w) children
  unfolding children
  by_word w e = tree_node g p k b ∙ ap (λ (x : ℕ). node_tree (kind_of x) children) e

  pub tree_element : kind_word g k ≡ 3 → element_grammar (tree_of g k) ≡ tree_of g (child_word g (first_word g k + 0))
  unfolding children node_tree child_trees kind_of kinds
  tree_element e =
      let n : count_word g k ≡ 1 = rw e at (node-inside g p k b).3.0 in
      ap element_grammar (by_word 3 e) ∙ rw (n, add-zero (first_word g k))

  pub tree_parts : {w : ℕ} → Parted w → kind_word g k ≡ w → part_grammars (tree_of g k) ≡ child_trees g (tree_of g) (first_word g k) (count_word g k)
  unfolding children
  tree_parts {w} q e = ap part_grammars (by_word w e) ∙ q children

  pub part_count : {w : ℕ} → Parted w → kind_word g k ≡ w → length (seq_g (part_grammars (tree_of g k))) ≡ count_word g k
  part_count q e = ap (λ (gs : Gs). length (seq_g gs)) (tree_parts q e) ∙ trees_length g (tree_of g) (count_word g k) (first_word g k)

  pub tree_case : kind_word g k ≡ 8 → (c : ℕ) → c < count_word g k → case_at (part_grammars (tree_of g k)) c ≡ tree_of g (child_word g (first_word g k + c))
  tree_case e c l = ap (λ (gs : Gs). case_at gs c) (tree_parts union-parts e) ∙ trees_at_lem g (tree_of g) (count_word g k) (first_word g k) c l

  -- ---- where its children stand

  pub one_child : kind_word g k ≡ 3 → 0 < count_word g k
  unfolding kind_of kinds
  one_child e = let n : count_word g k ≡ 1 = rw e at (node-inside g p k b).3.0 in omega arith

  -- a child's number is above its node's
  pub child_above : (i : ℕ) → i < count_word g k → {c : ℕ} → c ≡ child_word g (first_word g k + i) → (k < c) × (c < node_count g) × (c < 256)
  child_above i l e = let x = child_inside g p k b i l in (omega (arith, x.4.0), omega (arith, x.4.1), omega (arith, x.2, x.4.1))

-- ---- a value by its own row

number-not : (k : Number) {n : ℕ} → number_kind k ≡ n → 3 ≤ n → n ≤ 8 → ⊥
number-not uint32 e h l = omega arith
number-not uint64 e h l = omega arith
number-not int32 e h l = omega arith
number-not int64 e h l = omega arith

elements-not : (k : Elements) {n : ℕ} → elements_kind k ≡ n → (n ≡ 3 → ⊥) × (n ≡ 4 → ⊥) × (n ≡ 8 → ⊥)
elements-not bytes e = (λ f. omega arith, λ f. omega arith, λ f. omega arith)
elements-not uint32s e = (λ f. omega arith, λ f. omega arith, λ f. omega arith)
elements-not uint64s e = (λ f. omega arith, λ f. omega arith, λ f. omega arith)

module _ (t s : List ℕ) (i : ℕ) where
  own_kind : (v : Val) → StandFor t s i v → {k : ℕ} → (row_at t i).kind ≡ k → (own_row v (row_at t i).word3).kind ≡ k
  own_kind v h e = sym (ap (λ (r : Row). r.kind) (own_row_lem t s v i h)) ∙ e

  own_word2 : (v : Val) → StandFor t s i v → (row_at t i).word2 ≡ (own_row v (row_at t i).word3).word2
  own_word2 v h = ap (λ (r : Row). r.word2) (own_row_lem t s v i h)

  pub is-array : (v : Val) → StandFor t s i v → (row_at t i).kind ≡ 3 → (vs : Vals) × (v ≡ VArray vs) × StandForAll t s (suc i) vs × (length (seq_v vs) ≡ (row_at t i).word2)
  unfolding own_row StandFor
  is-array VConstant h e = absurd (omega (arith, own_kind VConstant h e))
  is-array (VNumber k n) h e = absurd (number-not k (own_kind (VNumber k n) h e) (omega arith) (omega arith))
  is-array (VArray vs) h e = (vs, refl, h.1, sym (own_word2 (VArray vs) h))
  is-array (VTuple vs) h e = absurd (omega (arith, own_kind (VTuple vs) h e))
  is-array (VNumberArray k ns) h e = absurd ((elements-not k (own_kind (VNumberArray k ns) h e)).0 refl)
  is-array (VCase c v) h e = absurd (omega (arith, own_kind (VCase c v) h e))

  pub is-tuple : (v : Val) → StandFor t s i v → (row_at t i).kind ≡ 4 → (vs : Vals) × (v ≡ VTuple vs) × StandForAll t s (suc i) vs × (length (seq_v vs) ≡ (row_at t i).word2)
  unfolding own_row StandFor
  is-tuple VConstant h e = absurd (omega (arith, own_kind VConstant h e))
  is-tuple (VNumber k n) h e = absurd (number-not k (own_kind (VNumber k n) h e) (omega arith) (omega arith))
  is-tuple (VArray vs) h e = absurd (omega (arith, own_kind (VArray vs) h e))
  is-tuple (VTuple vs) h e = (vs, refl, h.1, sym (own_word2 (VTuple vs) h))
  is-tuple (VNumberArray k ns) h e = absurd ((elements-not k (own_kind (VNumberArray k ns) h e)).1 refl)
  is-tuple (VCase c v) h e = absurd (omega (arith, own_kind (VCase c v) h e))

  pub is-case : (v : Val) → StandFor t s i v → (row_at t i).kind ≡ 8 → (u : Val) × (v ≡ VCase (row_at t i).word2 u) × StandFor t s (suc i) u
  unfolding own_row StandFor
  is-case VConstant h e = absurd (omega (arith, own_kind VConstant h e))
  is-case (VNumber k n) h e = absurd (number-not k (own_kind (VNumber k n) h e) (omega arith) (omega arith))
  is-case (VArray vs) h e = absurd (omega (arith, own_kind (VArray vs) h e))
  is-case (VTuple vs) h e = absurd (omega (arith, own_kind (VTuple vs) h e))
  is-case (VNumberArray k ns) h e = absurd ((elements-not k (own_kind (VNumberArray k ns) h e)).2 refl)
  is-case (VCase c v) h e = (v, ap (λ (x : ℕ). VCase x v) (sym (own_word2 (VCase c v) h)), h.1)

-- ---- a row's arm

module _ (t s : List ℕ) (i : ℕ) (g : G) (v : Val) (h : StandFor t s i v) where
  -- the kinds differ
  pub arm_other : ((row_at t i).kind ≡ kind_number g → ⊥) → refused (reason 15 (row i)) ≡ check_in_grammar v g i
  unfolding own_row check_in_grammar
  arm_other n = go v (λ e. n (ap (λ (r : Row). r.kind) (own_row_lem t s v i h) ∙ e))
    where
      go : (v : Val) → ((own_row v (row_at t i).word3).kind ≡ kind_number g → ⊥) → refused (reason 15 (row i)) ≡ check_in_grammar v g i
      go VConstant n = rw (ne_eqb (kind_number g) 0 (λ e. n (sym e)))
      go (VNumber k x) n = rw (ne_eqb (kind_number g) (number_kind k) (λ e. n (sym e)))
      go (VArray vs) n = rw (ne_eqb (kind_number g) 3 (λ e. n (sym e)))
      go (VTuple vs) n = rw (ne_eqb (kind_number g) 4 (λ e. n (sym e)))
      go (VNumberArray k ns) n = rw (ne_eqb (kind_number g) (elements_kind k) (λ e. n (sym e)))
      go (VCase c u) n = rw (ne_eqb (kind_number g) 8 (λ e. n (sym e)))

  -- a kind without children
  pub arm_leaf : (k : CodeKind) → is_leaf k ≡ true → (row_at t i).kind ≡ code_word k → kind_number g ≡ code_word k → accepted tt ≡ check_in_grammar v g i
  unfolding own_row check_in_grammar
  arm_leaf k n e q = go v (q ∙ sym e ∙ own) (sym (ap is_parent (sym e ∙ own)) ∙ leaf-word k n)
    where
      own : (row_at t i).kind ≡ (own_row v (row_at t i).word3).kind
      own = ap (λ (r : Row). r.kind) (own_row_lem t s v i h)

      go : (v : Val) → kind_number g ≡ (own_row v (row_at t i).word3).kind → is_parent (own_row v (row_at t i).word3).kind ≡ false → accepted tt ≡ check_in_grammar v g i
      go VConstant e n = rw (eq-eqb (kind_number g) 0 e)
      go (VNumber k x) e n = rw (eq-eqb (kind_number g) (number_kind k) e)
      go (VArray vs) e n = let z : ◌≡◌ {A = ℕ} 0 1 = cc in absurd (omega arith)
      go (VTuple vs) e n = let z : ◌≡◌ {A = ℕ} 0 1 = cc in absurd (omega arith)
      go (VNumberArray k ns) e n = rw (eq-eqb (kind_number g) (elements_kind k) e)
      go (VCase c u) e n = let z : ◌≡◌ {A = ℕ} 0 1 = cc in absurd (omega arith)

  pub arm_array : {n : ℕ} {e : G} → (row_at t i).kind ≡ 3 → kind_number g ≡ 3 → (row_at t i).word2 ≡ n → element_grammar g ≡ e → (r : Result (Unit {0}) Refusal) → ChecksAll t n (i + 1) (λ vs. check_all_in_grammar vs e (i + 1)) r → outcome_of r ≡ check_in_grammar v g i
  unfolding check_in_grammar
  arm_array {n} {e} k m w q r c =
      let x = is-array t s i v h k in
      let d = subst (λ (j : ℕ). ChecksAll t n j (λ vs. check_all_in_grammar vs e j) r) (add-one i) c in
      d s x.0 x.2 (x.3 ∙ w) ∙ sym (ap (λ (u : Val). check_in_grammar u g i) x.1 ∙ test-true _ _ (eq-eqb (kind_number g) 3 m) ∙ ap (λ (y : G). check_all_in_grammar x.0 y (suc i)) q)

  -- a tuple of another count
  pub arm_count : (row_at t i).kind ≡ 4 → ((row_at t i).word2 ≡ length (seq_g (part_grammars g)) → ⊥) → refused (reason 15 (row i)) ≡ check_in_grammar v g i
  unfolding check_in_grammar
  arm_count k n =
      let x = is-tuple t s i v h k in
      rw (x.1, ne_eqb (length (seq_v x.0)) (length (seq_g (part_grammars g))) (λ e. n (sym x.3 ∙ e))) (go (eqb (kind_number g) 4))
    where
      go : (b : Bool) → refused (reason 15 (row i)) ≡ at15 i (b && false) (λ _. check_each_in_grammar (is-tuple t s i v h k).0 (part_grammars g) (suc i))
      go true = refl
      go false = refl

  pub arm_tuple : {n : ℕ} {gs : Gs} → (row_at t i).kind ≡ 4 → kind_number g ≡ 4 → (row_at t i).word2 ≡ n → length (seq_g (part_grammars g)) ≡ n → part_grammars g ≡ gs → (r : Result (Unit {0}) Refusal) → ChecksAll t n (i + 1) (λ vs. check_each_in_grammar vs gs (i + 1)) r → outcome_of r ≡ check_in_grammar v g i
  unfolding check_in_grammar
  arm_tuple {n} {gs} k m w l q r c =
      let x = is-tuple t s i v h k in
      let d = subst (λ (j : ℕ). ChecksAll t n j (λ vs. check_each_in_grammar vs gs j) r) (add-one i) c in
      d s x.0 x.2 (x.3 ∙ w) ∙ sym (ap (λ (u : Val). check_in_grammar u g i) x.1 ∙ test-true _ _ ((reflects_and (reflects_eqb (kind_number g) 4) (reflects_eqb (length (seq_v x.0)) (length (seq_g (part_grammars g))))).0 (m, x.3 ∙ w ∙ sym l)) ∙ ap (λ (y : Gs). check_each_in_grammar x.0 y (suc i)) q)

  -- a tag that is no case's
  pub arm_tag : (row_at t i).kind ≡ 8 → kind_number g ≡ 8 → length (seq_g (part_grammars g)) ≤ (row_at t i).word2 → refused (reason 15 (row i)) ≡ check_in_grammar v g i
  unfolding check_in_grammar
  arm_tag k e l =
      let x = is-case t s i v h k in
      rw (x.1, eq-eqb (kind_number g) 8 e, le-ltb (row_at t i).word2 (length (seq_g (part_grammars g))) l)

  pub arm_case : {e : G} → (row_at t i).kind ≡ 8 → kind_number g ≡ 8 → (row_at t i).word2 < length (seq_g (part_grammars g)) → case_at (part_grammars g) (row_at t i).word2 ≡ e → (r : Result (Unit {0}) Refusal) → Checks t (i + 1) e r → outcome_of r ≡ check_in_grammar v g i
  unfolding check_in_grammar
  arm_case {e} k m l q r c =
      let x = is-case t s i v h k in
      let d = subst (λ (j : ℕ). Checks t j e r) (add-one i) c in
      d s x.0 x.2 ∙ sym (ap (λ (u : Val). check_in_grammar u g i) x.1 ∙ test-true _ _ ((reflects_and (reflects_eqb (kind_number g) 8) (reflects_ltb (row_at t i).word2 (length (seq_g (part_grammars g))))).0 (m, l)) ∙ ap (λ (y : G). check_in_grammar x.0 y (suc i)) q)

-- what stands in a row that stands
module _ (t : List ℕ) (i : ℕ) (h : Standing t i) where
  children_stand : (vs : Vals) → row_count h.value ≡ 1 + row_counts vs → StandForAll t h.store (suc i) vs → {n : ℕ} → length (seq_v vs) ≡ n → StandingAll t n (i + 1)
  children_stand vs c r m = rw add-one (record { store = h.store; values = vs; rows = r; many = m; within = omega (arith, h.within) })

  pub elements_stand : (row_at t i).kind ≡ 3 → StandingAll t (row_at t i).word2 (i + 1)
  unfolding row_count
  elements_stand k = let x = is-array t h.store i h.value h.rows k in children_stand x.0 (ap row_count x.1) x.2 x.3

  pub fields_stand : (row_at t i).kind ≡ 4 → StandingAll t (row_at t i).word2 (i + 1)
  unfolding row_count
  fields_stand k = let x = is-tuple t h.store i h.value h.rows k in children_stand x.0 (ap row_count x.1) x.2 x.3

  pub case_stands : (row_at t i).kind ≡ 8 → Standing t (i + 1)
  unfolding row_count
  case_stands k =
      let x = is-case t h.store i h.value h.rows k in
      let w = rw x.1 at h.within in
      rw add-one (record { store = h.store; value = x.0; rows = x.2; within = omega arith })

-- ---- the loops

first_of : (vs : Vals) → 0 < length (seq_v vs) → (v : Val) × (us : Vals) × (vs ≡ vcons v us)
first_of vnil h = absurd (omega arith)
first_of (vcons v us) h = (v, us, refl)

none_left : (vs : Vals) → length (seq_v vs) ≡ 0 → vs ≡ vnil
none_left vnil h = refl
none_left (vcons v us) h = absurd (omega arith)

-- of the values left from row i on: the first, and the others
module _ (t : List ℕ) (left i : ℕ) (p : 0 < left) (h : StandingAll t left i) where
  pub first_stands : Standing t i
  unfolding StandFor row_count
  first_stands =
      let x = first_of h.values (omega (arith, h.many)) in
      let r = rw x.2 at h.rows in
      let w = rw x.2 at h.within in
      record { store = h.store; value = x.0; rows = r.0; within = omega arith }

  pub others_stand : StandingAll t (left - 1) (i + (row_at t i).span)
  unfolding StandFor row_count
  others_stand =
      let x = first_of h.values (omega (arith, h.many)) in
      let r = rw x.2 at h.rows in
      let w = rw x.2 at h.within in
      let m = rw x.2 at h.many in
      let e : (row_at t i).span ≡ row_count x.0 = row-span t h.store x.0 i r.0 in
      rw e (record { store = h.store; values = x.1; rows = r.1; many = omega arith; within = omega arith })

  pub next-inside : row_width * (i + (row_at t i).span) ≤ length t
  next-inside = let o = others_stand in omega (arith, o.within)

-- the values that are left from row i on decide what all of them decide
pub record Remaining (t s : List ℕ) (left i : ℕ) (check : Vals → Outcome Reason (Unit {0})) (whole : Outcome Reason (Unit {0})) : Type 0 where
  pub values : Vals
  pub rows : StandForAll t s i values
  pub many : length (seq_v values) ≡ left
  pub decides : check values ≡ whole

abbrev pub Left : List ℕ → ℕ → ℕ → (Vals → Outcome Reason (Unit {0})) → ℕ → ℕ → (Vals → Outcome Reason (Unit {0})) → Type 0
Left t count start whole left i check = (s : List ℕ) (vs : Vals) → StandForAll t s start vs → length (seq_v vs) ≡ count → Remaining t s left i check (whole vs)

module _ (t : List ℕ) (count start : ℕ) (whole : Vals → Outcome Reason (Unit {0})) where
  pub left_all : Left t count start whole count start whole
  left_all s vs h m = record { values = vs; rows = h; many = m; decides = refl }

  module _ (left i : ℕ) (check : Vals → Outcome Reason (Unit {0})) (l : Left t count start whole left i check) where
    pub left_none : left ≡ 0 → check vnil ≡ accepted tt → ChecksAll t count start whole (Ok tt)
    left_none z e s vs h m =
        let q = l s vs h m in
        sym (ap check (none_left q.values (q.many ∙ z)) ∙ e) ∙ q.decides

    -- the first of them by g, and then the others
    module _ (p : 0 < left) (g : G) (next : ℕ → Vals → Outcome Reason (Unit {0})) (e : (v : Val) (vs : Vals) → check (vcons v vs) ≡ bind (check_in_grammar v g i) (λ _. next (i + row_count v) vs)) where
      first : (s : List ℕ) (vs : Vals) → StandForAll t s start vs → length (seq_v vs) ≡ count → (v : Val) × (us : Vals) × StandFor t s i v × StandForAll t s (i + row_count v) us × (suc (length (seq_v us)) ≡ left) × (bind (check_in_grammar v g i) (λ _. next (i + row_count v) us) ≡ whole vs)
      unfolding StandFor
      first s vs h m =
          let q = l s vs h m in
          let x = first_of q.values (omega (arith, q.many)) in
          let r = rw x.2 at q.rows in
          let n = rw x.2 at q.many in
          let d = rw x.2 at q.decides in
          (x.0, x.1, r.0, r.1, n, sym (e x.0 x.1) ∙ d)

      pub left_stopped : (f : Refusal) → Checks t i g (Err f) → ChecksAll t count start whole (Err f)
      left_stopped f c s vs h m =
          let x = first s vs h m in
          ap (λ (o : Outcome Reason (Unit {0})). bind o (λ _. next (i + row_count x.0) x.1)) (c s x.0 x.2) ∙ x.5

      pub left_next : Checks t i g (Ok tt) → Left t count start whole (left - 1) (i + (row_at t i).span) (next (i + (row_at t i).span))
      left_next c s vs h m =
          let x = first s vs h m in
          let n : (row_at t i).span ≡ row_count x.0 = row-span t s x.0 i x.2 in
          rw n (record { values = x.1; rows = x.3; many = omega (arith, x.4); decides = ap (λ (o : Outcome Reason (Unit {0})). bind o (λ _. next (i + row_count x.0) x.1)) (c s x.0 x.2) ∙ x.5 })

-- what the loops step by
pub all-step : (g : G) (i : ℕ) (v : Val) (vs : Vals) → check_all_in_grammar (vcons v vs) g i ≡ bind (check_in_grammar v g i) (λ _. check_all_in_grammar vs g (i + row_count v))
unfolding check_in_grammar
all-step g i v vs = refl

pub each_step : (g : List ℕ) (first n k : ℕ) → k < n → (i : ℕ) (v : Val) (vs : Vals) → check_each_in_grammar (vcons v vs) (child_trees g (tree_of g) (first + k) (n - k)) i ≡ bind (check_in_grammar v (tree_of g (child_word g (first + k))) i) (λ _. check_each_in_grammar vs (child_trees g (tree_of g) (first + (k + 1)) (n - (k + 1))) (i + row_count v))
unfolding check_in_grammar child_trees
each_step g first n k h i v vs =
    let e : n - k ≡ suc (n - (k + 1)) = omega arith in
    let f : first + (k + 1) ≡ suc (first + k) = omega arith in
    rw (e, f)

pub none-step : (g : G) (i : ℕ) → check_all_in_grammar vnil g i ≡ accepted tt
unfolding check_in_grammar
none-step g i = refl

pub none_each : (gs : Gs) (i : ℕ) → check_each_in_grammar vnil gs i ≡ accepted tt
unfolding check_in_grammar
none_each gs i = refl
