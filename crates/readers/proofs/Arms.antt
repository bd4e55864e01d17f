-- The arms of the value reader: what was read behind the claimed row is the value of the node.
use mathlib.Core.Path.{◌≡◌, refl, ap, sym, subst, ◌∙◌}
use mathlib.Core.List.{List, [], ◌∷◌, ◌++◌}
use Prim.Native.Nat.{ℕ, suc, ◌+◌, ◌-◌, ◌*◌, ◌≤◌, ◌<◌}
use native.Mathlib.Nat.{add-zero}
use native.Mathlib.Numerals.{add-one}
use native.Mathlib.Omega.{arith}
use lib.ListN.{length}
use lib.Dec.{ltb}
use borrow.Author.Tests.{ltb-true}
use Rattle.refusal.specs.Outcome.{Outcome, accepted, refused, bind, test}
use Rattle.refusal.proofs.Outcome.{post_accepted}
use Rattle.value.specs.Kinds.{Kind, Number, Elements, width, element_width, kind_of, constant, number, array, tuple, elements as elements_class, union}
use Rattle.value.specs.Tree.{G, Gs, GConstant, GNumber, GArray, GTuple, GNumberArray, GTaggedUnion, seq_g, seq_v, case_at, Val, Vals, VConstant, VNumber, VArray, VTuple, VNumberArray, VCase, SizeOfV, SeqSum, row_count, row_counts}
use Rattle.value.specs.Step.{Step, yield, next, give, elements}
use Rattle.value.specs.Parse.{Parse}
use Rattle.value.specs.Reading.{State, Stop, Reading, stop, move, begin, claim, take_number, take_numbers, read_body, read_fields, read_val}
use Rattle.value.proofs.Agreement.{Agrees, agrees, agrees_elements, agrees_fields, agrees_accepted, elements-count, fields_count}
use Rattle.value.proofs.Ends.{EndsBehind, ends_body, ends-value, ends-elements, ends_fields}
use Rattle.tables.specs.Grammar.{kind_word, first_word, count_word, child_word}
use Rattle.grammar.specs.Rule.{CountRule}
use Rattle.grammar.specs.Tree.{node_tree, child_trees, tree_of}
use Rattle.grammar.proofs.Tree.{tree_node, trees_length, trees_at_lem}
use Rattle.tables.specs.Row.{row_width, laid}
use Rattle.rows.specs.Layout.{own_row, rows_of, rows_of_all}
use Rattle.rows.proofs.LayoutLaws.{length_rows_of}
use Rattle.readers.specs.declared.State.{State as CodeState}
use Rattle.std.specs.Prelude.{Ok, Err, Some}
use Rattle.value.specs.declared.Kind.{Kind as CodeKind}
use Rattle.value.specs.Meaning.{kind_named}
use Rattle.readers.specs.declared.Stopped.{Stopped}
use Rattle.readers.specs.Meaning.{CodeStep, stop_of, state_of}
use Rattle.readers.specs.Reads.{Room, Ready, Node, RowClaimed, Reads, closed, Counted, take_below}
use Rattle.readers.proofs.Laws.{take_moves, test-accepted, reads_stopped, reads_next, node-inside}
use Rattle.readers.proofs.Cycle.{went_on, reads_close, array_body, case_body}

-- the kind of an arm of the match on a kind word
pub of_kind : {k q : CodeKind} {x : Kind} → kind_named (Some k) ≡ x → k ≡ q → x ≡ kind_named (Some q)
of_kind h e = sym h ∙ ap (λ (k : CodeKind). kind_named (Some k)) e

-- the row of the value that starts at s is claimed, and t is the state behind it
pub record Claimed (s t : CodeState) : Type 0 where
  pub at : t.at ≡ s.at
  pub begun : t.begun ≡ s.begun + 1
  pub capacity : t.capacity ≡ s.capacity
  pub free : s.begun < s.capacity
  pub claimed : claim s.capacity (state_of s) ≡ accepted (state_of t)

pub claimed-next : (s t : CodeState) → accepted (state_of t) ≡ claim s.capacity (state_of s) → t.capacity ≡ s.capacity → Claimed s t
unfolding claim
claimed-next s t q k =
    let x = test-accepted (ltb s.begun s.capacity) (stop 8 (begin (state_of s))) (begin (state_of s)) q in
    record {
      at = ap (λ (u : State). u.at) x.1;
      begun = ap (λ (u : State). u.begun) x.1 ∙ sym (add-one s.begun);
      capacity = k;
      free = ltb-true s.begun s.capacity x.0;
      claimed = sym q;
    }

-- a claim that was refused
pub claim-refused : (d : List ℕ) {entry exit : List ℕ} (g : G) (s : CodeState) (z : Stopped) → refused (stop_of z) ≡ claim s.capacity (state_of s) → z.state.capacity ≡ s.capacity → Reads rows_of (read_val s.capacity d g (state_of s)) s.capacity s.begun s.at entry (Err z) exit
claim-refused d g s z h k = reads_stopped z (ap (λ (x : Outcome Stop State). bind x (read_body s.capacity d g)) h) k

-- a state behind a count or a tag
pub below_taken : (d : List ℕ) (limit code : ℕ) (s : State) (n : ℕ) (u : CodeState) → yield n (state_of u) ≡ take_below d limit code s → (u.at ≡ s.at + 8) × (u.begun ≡ s.begun) × (n < limit) × (s.at + 8 ≤ length d)
unfolding take_below
below_taken d limit code s n u h = go (take_number d 8 s) refl h
  where
    go : (x : Reading ℕ) → x ≡ take_number d 8 s → yield n (state_of u) ≡ next x (λ m t. test (ltb m limit) (stop code s) (λ _. yield m t)) → (u.at ≡ s.at + 8) × (u.begun ≡ s.begun) × (n < limit) × (s.at + 8 ≤ length d)
    go (refused e) q h = let z : ◌≡◌ {A = ℕ} 0 1 = cc in absurd (omega arith)
    go (accepted t) q h =
        let x = test-accepted (ltb t.value limit) (stop code s) (record { value = t.value; state = t.state }) h in
        let m = take_moves d 8 s t.value t.state q in
        let v : n ≡ t.value = ap (λ (w : Step State ℕ). w.value) x.1 in
        let w : state_of u ≡ move 8 s = ap (λ (w : Step State ℕ). w.state) x.1 ∙ m.0 in
        (ap (λ (y : State). y.at) w, ap (λ (y : State). y.begun) w, subst (λ (i : ℕ). i < limit) (sym v) (ltb-true t.value limit x.0), m.1)

-- a parent's row before its children's
module _ (span word2 size p : ℕ) where
  own_array : (vs : Vals) → span ≡ 1 + row_counts vs → size ≡ SizeOfV (VArray vs) → length (seq_v vs) ≡ word2 → rows_of (VArray vs) p ≡ (3 ∷ span ∷ word2 ∷ 0 ∷ size ∷ []) ++ rows_of_all vs (p + 8)
  unfolding rows_of own_row row_count
  own_array vs b z l = rw (b, z, l)

  own_tuple : (vs : Vals) → span ≡ 1 + row_counts vs → size ≡ SizeOfV (VTuple vs) → length (seq_v vs) ≡ word2 → rows_of (VTuple vs) p ≡ (4 ∷ span ∷ word2 ∷ 0 ∷ size ∷ []) ++ rows_of_all vs p
  unfolding rows_of own_row row_count
  own_tuple vs b z l = rw (b, z, l)

  own_case : (v : Val) → span ≡ 1 + row_count v → size ≡ SizeOfV (VCase word2 v) → rows_of (VCase word2 v) p ≡ (8 ∷ span ∷ word2 ∷ 0 ∷ size ∷ []) ++ rows_of v (p + 8)
  unfolding rows_of own_row row_count
  own_case v b z = rw (b, z)

array-rows : (vs : Vals) → row_count (VArray vs) ≡ 1 + row_counts vs
unfolding row_count
array-rows vs = refl

tuple-rows : (vs : Vals) → row_count (VTuple vs) ≡ 1 + row_counts vs
unfolding row_count
tuple-rows vs = refl

case_rows : (tag : ℕ) (v : Val) → row_count (VCase tag v) ≡ 1 + row_count v
unfolding row_count
case_rows tag v = refl

own_fits : (v : Val) (row p capacity : ℕ) → row + row_count v ≤ capacity → row_width * row + length (rows_of v p) ≤ row_width * capacity
own_fits v row p capacity h = rw (length_rows_of v p) (omega arith)

-- the tree of a node, by its kind
node_tree_lem : (g : List ℕ) (node : ℕ) → Node g node → (k : Kind) → kind_of (kind_word g node) ≡ k → tree_of g node ≡ node_tree k (child_trees g (tree_of g) (first_word g node) (count_word g node))
node_tree_lem g node n k e = tree_node g n.passes node n.below ∙ ap (λ (x : Kind). node_tree x (child_trees g (tree_of g) (first_word g node) (count_word g node))) e

-- The claimed row, then the body.

module _ (g : List ℕ) (node : ℕ) (d entry : List ℕ) (s t : CodeState) (c : Claimed s t) where
  -- reading the node is reading its body behind the claimed row
  body : (x : G) → tree_of g node ≡ x → read_val s.capacity d (tree_of g node) (state_of s) ≡ read_body s.capacity d x (state_of t)
  body x e = ap (λ (o : Outcome Stop State). bind o (read_body s.capacity d (tree_of g node))) c.claimed ∙ ap (λ (y : G). read_body s.capacity d y (state_of t)) e

  whole : {x : Reading Val} {r : CodeStep} {exit : List ℕ} → read_val s.capacity d (tree_of g node) (state_of s) ≡ x → Reads rows_of x s.capacity s.begun s.at entry r exit → Reads rows_of (read_val s.capacity d (tree_of g node) (state_of s)) s.capacity s.begun s.at entry r exit
  whole e h = rw e h

  -- what read the body has read the node
  pub arm_body : {r : CodeStep} {exit : List ℕ} → Reads rows_of (read_body t.capacity d (tree_of g node) (state_of t)) t.capacity s.begun t.at entry r exit → Reads rows_of (read_val s.capacity d (tree_of g node) (state_of s)) s.capacity s.begun s.at entry r exit
  arm_body {r} {exit} h =
      whole (body (tree_of g node) refl)
      (subst (λ (p : ℕ). Reads rows_of (read_body s.capacity d (tree_of g node) (state_of t)) s.capacity s.begun p entry r exit) c.at
      (subst (λ (m : ℕ). Reads rows_of (read_body m d (tree_of g node) (state_of t)) m s.begun t.at entry r exit) c.capacity h))

-- Behind the claimed row.

module _ {g d entry : List ℕ} {node row : ℕ} {w : Kind} {s : CodeState} (p : RowClaimed g d entry node w row s) where
  own_free : row < s.capacity
  own_free = omega (arith, p.claimed, p.ready.few)

  body_tree : (x : G) → tree_of g node ≡ x → read_body s.capacity d (tree_of g node) (state_of s) ≡ read_body s.capacity d x (state_of s)
  body_tree x e = ap (λ (y : G). read_body s.capacity d y (state_of s)) e

  -- Kinds that are read at once.

  pub leaf-constant : w ≡ constant → {r : CodeState} {exit : List ℕ} → r ≡ s → exit ≡ laid entry row (0 ∷ 1 ∷ 0 ∷ 0 ∷ 0 ∷ []) → Reads rows_of (read_body s.capacity d (tree_of g node) (state_of s)) s.capacity row s.at entry (Ok r) exit
  unfolding read_body node_tree rows_of own_row row_count SizeOfV
  leaf-constant e q h = rw (q, body_tree GConstant (node_tree_lem g node p.node constant (p.kind ∙ e))) (reads_next s VConstant refl refl h)

  pub leaf-number : (k : Number) {r : CodeStep} {exit : List ℕ} → w ≡ number k → Reads rows_of (give (VNumber k) (take_number d (width k) (state_of s))) s.capacity row s.at entry r exit → Reads rows_of (read_body s.capacity d (tree_of g node) (state_of s)) s.capacity row s.at entry r exit
  unfolding read_body node_tree
  leaf-number k e h = rw (body_tree (GNumber k) (node_tree_lem g node p.node (number k) (p.kind ∙ e))) h

  pub leaf-elements : (k : Elements) {r : CodeStep} {exit : List ℕ} → w ≡ elements_class k → Reads rows_of (give (VNumberArray k) (take_numbers d (element_width k) (state_of s))) s.capacity row s.at entry r exit → Reads rows_of (read_body s.capacity d (tree_of g node) (state_of s)) s.capacity row s.at entry r exit
  unfolding read_body node_tree
  leaf-elements k e h = rw (body_tree (GNumberArray k) (node_tree_lem g node p.node (elements_class k) (p.kind ∙ e))) h

  -- the size of a value is the position behind its children less its start
  body_size : {A : Type 0} (x : Reading A) (f : A → Val) → read_body s.capacity d (tree_of g node) (state_of s) ≡ give f x → (t : Step State A) → x ≡ accepted t → t.state.at - s.at ≡ SizeOfV (f t.value)
  body_size x f e t z =
      let y : read_body s.capacity d (tree_of g node) (state_of s) ≡ yield (f t.value) t.state = e ∙ ap (give f) z in
      omega (arith, (post_accepted (rw y at (ends_body s.capacity d (tree_of g node) (state_of s)))).at)

  -- the row of the parent before the rows of its children, whose bytes start at q
  closed-rows : {A : Type 0} {rows_at : A → ℕ → List ℕ} (x : Reading A) (f : A → Val) (count : A → ℕ) (kind word2 q : ℕ) {read r : CodeStep} {mid exit : List ℕ} → read_body s.capacity d (tree_of g node) (state_of s) ≡ give f x → ((a : A) → row_count (f a) ≡ 1 + count a) → ((t : Step State A) → x ≡ accepted t → (t.state.begun ≡ s.begun + count t.value) × (count t.value ≤ s.capacity - s.begun) × ((span size : ℕ) → span ≡ 1 + count t.value → size ≡ SizeOfV (f t.value) → rows_of (f t.value) s.at ≡ (kind ∷ span ∷ word2 ∷ 0 ∷ size ∷ []) ++ rows_at t.value q)) → Reads rows_at x s.capacity (suc row) q entry read mid → r ≡ read → exit ≡ closed row s.at kind word2 read mid → Reads rows_of (read_body s.capacity d (tree_of g node) (state_of s)) s.capacity row s.at entry r exit
  closed-rows x f count kind word2 q {read} m e own h i o =
      rw (m, i, o) (reads_close {x = x} {row = row} {p = s.at} f kind word2 p.ready.room read (λ t z.
      let y = own t z in
      let b : t.state.begun - row ≡ 1 + count t.value = omega (arith, y.0, p.claimed) in
      (y.2 (t.state.begun - row) (t.state.at - s.at) b (body_size x f m t z), own_fits (f t.value) row s.at s.capacity (rw (e t.value) (omega (arith, y.1, p.claimed, own_free)))))
      h)

  -- a head below its limit
  module _ (limit code n : ℕ) (u : CodeState) (h : yield n (state_of u) ≡ take_below d limit code (state_of s)) (m : u.capacity ≡ s.capacity) where
    pub head-begun : u.begun ≡ s.begun
    head-begun = (below_taken d limit code (state_of s) n u h).1

    pub head-behind : s.at ≤ u.at
    head-behind = omega (arith, (below_taken d limit code (state_of s) n u h).0)

    pub head-below : n < limit
    head-below = (below_taken d limit code (state_of s) n u h).2

    pub head-ready : Ready d entry u
    head-ready =
        let y = below_taken d limit code (state_of s) n u h in
        record { inside = omega (arith, y.0, y.3); short = p.ready.short; few = omega (arith, y.1, m, p.ready.few); most = omega (arith, m, p.ready.most); room = subst (λ (i : ℕ). Room i entry) (sym m) p.ready.room; byte_values = p.ready.byte_values }

    -- what was read behind it, by the state before
    moved : {A : Type 0} {rows_at : A → ℕ → List ℕ} (x : ℕ → Reading A) {read : CodeStep} {mid : List ℕ} → Reads rows_at (x u.capacity) u.capacity u.begun u.at entry read mid → Reads rows_at (x s.capacity) s.capacity (suc row) (s.at + 8) entry read mid
    moved {A} {rows_at} x {read} {mid} r =
        let y = below_taken d limit code (state_of s) n u h in
        let f : u.begun ≡ suc row = omega (arith, y.1, p.claimed) in
        subst (λ (i : ℕ). Reads rows_at (x s.capacity) s.capacity (suc row) i entry read mid) y.0
        (subst (λ (i : ℕ). Reads rows_at (x s.capacity) s.capacity i u.at entry read mid) f
        (subst (λ (i : ℕ). Reads rows_at (x i) i u.begun u.at entry read mid) m r))

  -- a head that was refused
  head_stopped : (x : G) (limit code : ℕ) (k : ℕ → State → Reading Val) (z : Stopped) {exit : List ℕ} → tree_of g node ≡ x → next (take_below d limit code (state_of s)) k ≡ read_body s.capacity d x (state_of s) → refused (stop_of z) ≡ take_below d limit code (state_of s) → z.state.capacity ≡ s.capacity → Reads rows_of (read_body s.capacity d (tree_of g node) (state_of s)) s.capacity row s.at entry (Err z) exit
  head_stopped x limit code k z e b h q = reads_stopped z (ap (λ (y : Reading ℕ). next y k) h ∙ b ∙ sym (body_tree x e)) q

pub array_count : (g : List ℕ) (node : ℕ) → Node g node → kind_of (kind_word g node) ≡ array → count_word g node ≡ 1
array_count g node n e = subst (λ (x : Kind). CountRule x (first_word g node) (count_word g node)) e (node-inside g node n).3.0

module _ {g d entry : List ℕ} {node row : ℕ} {s : CodeState} (p : RowClaimed g d entry node array row s) where
  array_tree : tree_of g node ≡ GArray (tree_of g (child_word g (first_word g node + 0)))
  unfolding node_tree child_trees
  array_tree = node_tree_lem g node p.node array p.kind ∙ rw (array_count g node p.node p.kind, add-zero (first_word g node))

  pub arm_array : (count : ℕ) (u : CodeState) {read r : CodeStep} {mid exit : List ℕ} → yield count (state_of u) ≡ take_below d (s.capacity - s.begun + 1) 8 (state_of s) → u.capacity ≡ s.capacity → Reads rows_of_all (elements count (read_val u.capacity d (tree_of g (child_word g (first_word g node + 0)))) (state_of u)) u.capacity u.begun u.at entry read mid → r ≡ read → exit ≡ closed row s.at 3 count read mid → Reads rows_of (read_body s.capacity d (tree_of g node) (state_of s)) s.capacity row s.at entry r exit
  arm_array count u h m i q o =
      let tree = tree_of g (child_word g (first_word g node + 0)) in
      let y = below_taken d (s.capacity - s.begun + 1) 8 (state_of s) count u h in
      let x : read_body s.capacity d (tree_of g node) (state_of s) ≡ give VArray (elements count (read_val s.capacity d tree) (state_of u)) =
      body_tree p (GArray tree) array_tree ∙ sym (array_body s.capacity d (state_of s) tree) ∙ ap (λ (z : Reading ℕ). next z (λ n v. give VArray (elements n (read_val s.capacity d tree) v))) (sym h) in
      closed-rows p (elements count (read_val s.capacity d tree) (state_of u)) VArray row_counts 3 count (s.at + 8) x array-rows (λ v z.
      let f = agrees_accepted (agrees_elements tree (λ s' l'. agrees s.capacity d tree s' l') count (state_of u) (omega (arith, y.0, y.3))) v z in
      let n = post_accepted (rw z at (elements-count count (read_val s.capacity d tree) (state_of u))) in
      (omega (arith, f.1, y.1), omega (arith, f.2, y.1), λ span size b j. own_array span count size s.at v.value b j n))
      (moved p (s.capacity - s.begun + 1) 8 count u h m (λ j. elements count (read_val j d tree) (state_of u)) i) q o

  pub arm_array_stopped : (z : Stopped) {exit : List ℕ} → refused (stop_of z) ≡ take_below d (s.capacity - s.begun + 1) 8 (state_of s) → z.state.capacity ≡ s.capacity → Reads rows_of (read_body s.capacity d (tree_of g node) (state_of s)) s.capacity row s.at entry (Err z) exit
  arm_array_stopped z h m =
      let tree = tree_of g (child_word g (first_word g node + 0)) in
      head_stopped p (GArray tree) (s.capacity - s.begun + 1) 8 (λ n v. give VArray (elements n (read_val s.capacity d tree) v)) z array_tree (array_body s.capacity d (state_of s) tree) h m

module _ {g d entry : List ℕ} {node row : ℕ} {s : CodeState} (p : RowClaimed g d entry node tuple row s) where
  tuple_tree : tree_of g node ≡ GTuple (child_trees g (tree_of g) (first_word g node) (count_word g node))
  unfolding node_tree
  tuple_tree = node_tree_lem g node p.node tuple p.kind

  pub arm_tuple : (count : ℕ) {read r : CodeStep} {mid exit : List ℕ} → count ≡ count_word g node → Reads rows_of_all (read_fields s.capacity d (child_trees g (tree_of g) (first_word g node) (count_word g node)) (state_of s)) s.capacity s.begun s.at entry read mid → r ≡ read → exit ≡ closed row s.at 4 count read mid → Reads rows_of (read_body s.capacity d (tree_of g node) (state_of s)) s.capacity row s.at entry r exit
  unfolding read_body
  arm_tuple count {read} {r} {mid} e i q o =
      let gs = child_trees g (tree_of g) (first_word g node) (count_word g node) in
      let b : s.begun ≡ suc row = omega (arith, p.claimed) in
      closed-rows p (read_fields s.capacity d gs (state_of s)) VTuple row_counts 4 count s.at (body_tree p (GTuple gs) tuple_tree) tuple-rows (λ v z.
      let f = agrees_accepted (agrees_fields s.capacity d gs (state_of s) p.ready.inside) v z in
      let n : length (seq_v v.value) ≡ count = post_accepted (rw z at (fields_count s.capacity d gs (state_of s))) ∙ trees_length g (tree_of g) (count_word g node) (first_word g node) ∙ sym e in
      (f.1, f.2, λ span size l j. own_tuple span count size s.at v.value l j n))
      (subst (λ (z : ℕ). Reads rows_of_all (read_fields s.capacity d gs (state_of s)) s.capacity z s.at entry read mid) b i) q o

module _ {g d entry : List ℕ} {node row : ℕ} {s : CodeState} (p : RowClaimed g d entry node union row s) where
  union_tree : tree_of g node ≡ GTaggedUnion (child_trees g (tree_of g) (first_word g node) (count_word g node))
  unfolding node_tree
  union_tree = node_tree_lem g node p.node union p.kind

  pub arm_case : (child tag limit : ℕ) (u : CodeState) {read r : CodeStep} {mid exit : List ℕ} → limit ≡ count_word g node → child ≡ child_word g (first_word g node + tag) → yield tag (state_of u) ≡ take_below d limit 10 (state_of s) → u.capacity ≡ s.capacity → Reads rows_of (read_val u.capacity d (tree_of g child) (state_of u)) u.capacity u.begun u.at entry read mid → r ≡ read → exit ≡ closed row s.at 8 tag read mid → Reads rows_of (read_body s.capacity d (tree_of g node) (state_of s)) s.capacity row s.at entry r exit
  arm_case child tag limit u n e h m i q o =
      let gs = child_trees g (tree_of g) (first_word g node) (count_word g node) in
      let y = below_taken d limit 10 (state_of s) tag u h in
      let l : limit ≡ length (seq_g gs) = n ∙ sym (trees_length g (tree_of g) (count_word g node) (first_word g node)) in
      let tree : case_at gs tag ≡ tree_of g child = trees_at_lem g (tree_of g) (count_word g node) (first_word g node) tag (omega (arith, y.2)) ∙ ap (tree_of g) (sym e) in
      let x : read_body s.capacity d (tree_of g node) (state_of s) ≡ give (VCase tag) (read_val s.capacity d (tree_of g child) (state_of u)) =
      body_tree p (GTaggedUnion gs) union_tree ∙ sym (case_body s.capacity d (state_of s) gs) ∙ ap (λ (z : Reading ℕ). next z (λ c v. give (VCase c) (read_val s.capacity d (case_at gs c) v))) (ap (λ (j : ℕ). take_below d j 10 (state_of s)) (sym l) ∙ sym h) ∙ ap (λ (z : G). give (VCase tag) (read_val s.capacity d z (state_of u))) tree in
      closed-rows p (read_val s.capacity d (tree_of g child) (state_of u)) (VCase tag) row_count 8 tag (s.at + 8) x (case_rows tag) (λ v z.
      let f = agrees_accepted (agrees s.capacity d (tree_of g child) (state_of u) (omega (arith, y.0, y.3))) v z in
      (omega (arith, f.1, y.1), omega (arith, f.2, y.1), λ span size b j. own_case span tag size s.at v.value b j))
      (moved p limit 10 tag u h m (λ j. read_val j d (tree_of g child) (state_of u)) i) q o

  pub arm_case_stopped : (limit : ℕ) (z : Stopped) {exit : List ℕ} → limit ≡ count_word g node → refused (stop_of z) ≡ take_below d limit 10 (state_of s) → z.state.capacity ≡ s.capacity → Reads rows_of (read_body s.capacity d (tree_of g node) (state_of s)) s.capacity row s.at entry (Err z) exit
  arm_case_stopped limit z e h m =
      let gs = child_trees g (tree_of g) (first_word g node) (count_word g node) in
      let l : limit ≡ length (seq_g gs) = e ∙ sym (trees_length g (tree_of g) (count_word g node) (first_word g node)) in
      head_stopped p (GTaggedUnion gs) (length (seq_g gs)) 10 (λ c v. give (VCase c) (read_val s.capacity d (case_at gs c) v)) z union_tree (case_body s.capacity d (state_of s) gs) (h ∙ ap (λ (j : ℕ). take_below d j 10 (state_of s)) l) m

-- What the readers of the cycle ask of each other.

module _ {g : List ℕ} {node : ℕ} {d entry : List ℕ} {s t : CodeState} (n : Node g node) (ready : Ready d entry s) (c : Claimed s t) where
  ready-claimed : Ready d entry t
  ready-claimed = record { inside = omega (arith, c.at, ready.inside); short = ready.short; few = omega (arith, c.begun, c.capacity, c.free); most = omega (arith, c.capacity, ready.most); room = subst (λ (m : ℕ). Room m entry) (sym c.capacity) ready.room; byte_values = ready.byte_values }

  pub row-claimed : {w : Kind} → kind_of (kind_word g node) ≡ w → RowClaimed g d entry node w s.begun t
  row-claimed k = record { node = n; kind = k; ready = ready-claimed; claimed = c.begun }

-- children that were read are counted behind the row of their parent, and end behind its start
module _ {d entry mid : List ℕ} {row start : ℕ} (u : CodeState) (ready : Ready d entry u) (l : row < u.begun) (b : start ≤ u.at) where
  counted : {A : Type 0} {rows_at : A → ℕ → List ℕ} {x : Reading A} {y : Parse A} (count size : A → ℕ) (read : CodeStep) → Agrees u.capacity d count (state_of u) x y → EndsBehind size u.at x → Reads rows_at x u.capacity u.begun u.at entry read mid → Counted row start read
  counted count size (Err z) a e h = tt
  counted count size (Ok v) a e h =
      let w = went_on v refl h in
      let f = agrees_accepted a (record { value = w.0; state = state_of v }) w.1 in
      (omega (arith, f.1), omega (arith, f.1, f.2, ready.few, ready.most), omega (arith, (post_accepted (rw w.1 at e)).at))

  pub counted-elements : (g : G) (m : ℕ) (read : CodeStep) → Reads rows_of_all (elements m (read_val u.capacity d g) (state_of u)) u.capacity u.begun u.at entry read mid → Counted row start read
  counted-elements g m read h = counted row_counts SeqSum read (agrees_elements g (λ s' l'. agrees u.capacity d g s' l') m (state_of u) ready.inside) (ends-elements u.capacity d g m (state_of u)) h

  pub counted_fields : (gs : Gs) (read : CodeStep) → Reads rows_of_all (read_fields u.capacity d gs (state_of u)) u.capacity u.begun u.at entry read mid → Counted row start read
  counted_fields gs read h = counted row_counts SeqSum read (agrees_fields u.capacity d gs (state_of u) ready.inside) (ends_fields u.capacity d gs (state_of u)) h

  pub counted-value : (g : G) (read : CodeStep) → Reads rows_of (read_val u.capacity d g (state_of u)) u.capacity u.begun u.at entry read mid → Counted row start read
  counted-value g read h = counted row_count SizeOfV read (agrees u.capacity d g (state_of u) ready.inside) (ends-value u.capacity d g (state_of u)) h
