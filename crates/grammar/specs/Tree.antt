-- The tree that a node of a table stands for.
use Rattle.std.specs.Prelude.{ℕ, zero, suc, List}
use Rattle.value.specs.Kinds.{Kind, kind_of, constant, number, array, tuple, elements, union, other}
use Rattle.value.specs.Tree.{G, Gs, GConstant, GNumber, GArray, GTuple, GNumberArray, GTaggedUnion, gnil, gcons}
use Rattle.tables.specs.Grammar.{node_count, kind_word, first_word, count_word, child_word}

-- the first of some grammars, for kind 3, which has one. None, another kind and depth 0 below are not met in a table that passes
abbrev pub only_child : Gs → G
only_child gnil = GConstant
only_child (gcons g gs) = g

-- a node by its kind and its children's trees
unfoldable pub node_tree : Kind → Gs → G
node_tree constant gs = GConstant
node_tree (number k) gs = GNumber k
node_tree array gs = GArray (only_child gs)
node_tree tuple gs = GTuple gs
node_tree (elements k) gs = GNumberArray k
node_tree union gs = GTaggedUnion gs
node_tree other gs = GConstant

-- the trees of n child words from child word i on, where `tree` gives a node's
unfoldable pub child_trees : List ℕ → (ℕ → G) → ℕ → ℕ → Gs
child_trees t tree i zero = gnil
child_trees t tree i (suc n) = gcons (tree (child_word t i)) (child_trees t tree (suc i) n)

-- the tree of node k down to a depth
unfoldable pub tree_to : ℕ → List ℕ → ℕ → G
tree_to zero t k = GConstant
tree_to (suc depth) t k = node_tree (kind_of (kind_word t k)) (child_trees t (tree_to depth t) (first_word t k) (count_word t k))

-- the tree of node k. In a table that passes, child numbers rise, so N levels are all there are (`tree_node` of proofs/)
unfoldable pub tree_of : List ℕ → ℕ → G
tree_of t k = tree_to (node_count t) t k
