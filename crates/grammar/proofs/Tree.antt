-- The tree of a node in a table that passes: it does not depend on the depth.
use Rattle.std.proofs.Common.{◌≡◌, refl, ap, ◌∙◌, List, ℕ, zero, suc, ◌+◌, ◌*◌, ◌^◌, ◌≤◌, ◌<◌, add-zero, arith, length, get_or}
use Rattle.std.proofs.Math.Decide.{dec_lt}
use Rattle.std.proofs.Math.ListN.{get_or-eq_default}
use Rattle.packed.specs.Packed.{Below}
use Rattle.value.specs.Kinds.{Kind, kind_of, constant, number, array, tuple, elements, union, other}
use Rattle.value.specs.Tree.{G, Gs, GConstant, gnil, gcons, seq_g, case_at, ValidGrammar, ValidGrammars}
use Rattle.tables.specs.Grammar.{node_count, kind_word, first_word, count_word, child_word}
use Rattle.grammar.specs.Rule.{Passes}
use Rattle.grammar.specs.Tree.{only_child, node_tree, child_trees, tree_to, tree_of}

-- the children's trees depend only on the trees of those children
child_trees_same : (t : List ℕ) (r s : ℕ → G) (n i : ℕ) → ((j : ℕ) → i ≤ j → j < i + n → r (child_word t j) ≡ s (child_word t j)) → child_trees t r i n ≡ child_trees t s i n
unfolding child_trees
child_trees_same t r s zero i h = refl
child_trees_same t r s (suc n) i h = rw (h i (omega arith) (omega arith), child_trees_same t r s n (suc i) (λ j a b. h j (omega arith) (omega arith)))

tree_depth : (t : List ℕ) → Passes t → (n m k : ℕ) → k < node_count t → node_count t ≤ n + k → node_count t ≤ m + k → tree_to n t k ≡ tree_to m t k
unfolding tree_to
tree_depth t p zero m k h a b = absurd (omega arith)
tree_depth t p (suc n) zero k h a b = absurd (omega arith)
tree_depth t p (suc n) (suc m) k h a b =
    ap (node_tree (kind_of (kind_word t k))) (child_trees_same t (tree_to n t) (tree_to m t) (count_word t k) (first_word t k) (λ j c d.
    let x = (p.node k h).children j (c, d) in
    tree_depth t p n m (child_word t j) x.1 (omega (arith, x.0)) (omega (arith, x.0))))

-- a node's tree by its children's; so nodes that share a child share its tree
pub tree_node : (t : List ℕ) → Passes t → (k : ℕ) → k < node_count t → tree_of t k ≡ node_tree (kind_of (kind_word t k)) (child_trees t (tree_of t) (first_word t k) (count_word t k))
unfolding tree_of tree_to
tree_node t p k h = tree_depth t p (node_count t) (suc (node_count t)) k h (omega arith) (omega arith)

-- ---- the children's trees

pub trees_length : (t : List ℕ) (r : ℕ → G) (n i : ℕ) → length (seq_g (child_trees t r i n)) ≡ n
unfolding child_trees
trees_length t r zero i = refl
trees_length t r (suc n) i = ap suc (trees_length t r n (suc i))

-- the tree of child i
pub trees_at_lem : (t : List ℕ) (r : ℕ → G) (n first i : ℕ) → i < n → case_at (child_trees t r first n) i ≡ r (child_word t (first + i))
unfolding child_trees
trees_at_lem t r zero first i h = absurd (omega arith)
trees_at_lem t r (suc n) first zero h = rw (add-zero first)
trees_at_lem t r (suc n) first (suc i) h =
    let e : suc first + i ≡ first + suc i = omega arith in
    trees_at_lem t r n (suc first) i (omega arith) ∙ rw e

-- ---- what every tree of a table of words has: a property of each node that has fewer than 2^32 children, where their trees have it

-- past the end of a table of words stands 0
below_everywhere : (t : List ℕ) → Below (2 ^ 32) t → (j : ℕ) → get_or t j 0 < 2 ^ 32
below_everywhere t b j = go (dec_lt j (length t))
  where
    go : Dec (j < length t) → get_or t j 0 < 2 ^ 32
    go (yes l) = b j l
    go (no l) = rw (get_or-eq_default t 0 {n = j} (omega arith)) (omega arith)

module _ (P : G → Type 0) (All : Gs → Type 0) (none : All gnil) (more : (g : G) (gs : Gs) → P g → All gs → All (gcons g gs)) (last : P GConstant) (node : (k : Kind) (gs : Gs) → length (seq_g gs) < 2 ^ 32 → All gs → P (node_tree k gs)) where
  trees_hold : (t : List ℕ) (r : ℕ → G) → ((k : ℕ) → P (r k)) → (n i : ℕ) → All (child_trees t r i n)
  unfolding child_trees
  trees_hold t r h zero i = none
  trees_hold t r h (suc n) i = more (r (child_word t i)) (child_trees t r (suc i) n) (h (child_word t i)) (trees_hold t r h n (suc i))

  tree_to_holds : (t : List ℕ) → Below (2 ^ 32) t → (n k : ℕ) → P (tree_to n t k)
  unfolding tree_to
  tree_to_holds t b zero k = last
  tree_to_holds t b (suc n) k =
      let e = trees_length t (tree_to n t) (count_word t k) (first_word t k) in
      node (kind_of (kind_word t k)) (child_trees t (tree_to n t) (first_word t k) (count_word t k)) (omega (arith, e, below_everywhere t b (3 + 3 * k))) (trees_hold t (tree_to n t) (tree_to_holds t b n) (count_word t k) (first_word t k))

  pub tree_holds : (t : List ℕ) → Below (2 ^ 32) t → (k : ℕ) → P (tree_of t k)
  unfolding tree_of
  tree_holds t b k = tree_to_holds t b (node_count t) k

-- ---- GM's `ValidGrammar`

only-valid : (gs : Gs) → ValidGrammars gs → ValidGrammar (only_child gs)
unfolding ValidGrammar
only-valid gnil h = tt
only-valid (gcons g gs) h = h.0

node-valid : (k : Kind) (gs : Gs) → length (seq_g gs) < 2 ^ 64 → ValidGrammars gs → ValidGrammar (node_tree k gs)
unfolding node_tree ValidGrammar
node-valid constant gs l h = tt
node-valid (number k) gs l h = tt
node-valid array gs l h = only-valid gs h
node-valid tuple gs l h = (l, h)
node-valid (elements k) gs l h = tt
node-valid union gs l h = (l, h)
node-valid other gs l h = tt

-- every count word is below 2^32, so below 2^64
pub tree_valid : (t : List ℕ) → Below (2 ^ 32) t → (k : ℕ) → ValidGrammar (tree_of t k)
unfolding ValidGrammar
tree_valid = tree_holds ValidGrammar ValidGrammars tt (λ g gs h hs. (h, hs)) tt (λ k gs l h. node-valid k gs (omega arith) h)
