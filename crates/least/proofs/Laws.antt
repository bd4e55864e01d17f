-- Entries with a mark for none, and a node's entry from those of its children.
use Rattle.std.proofs.Common.{◌≡◌, refl, ap, sym, ◌∙◌, Option, Some, List, ℕ, suc, ◌+◌, ◌-◌, ◌≤◌, ◌<◌, arith, get_or, replicate, ne_eqb}
use Rattle.std.proofs.lemmas.Grind.{common_steps}
use Rattle.refusal.specs.Outcome.{accepted}
use Rattle.value.specs.Kinds.{Kind, kind_of}
use Rattle.value.specs.Least.{least, fold_least}
use Rattle.tables.specs.Grammar.{node_count, kind_word, first_word, count_word, child_word}
use Rattle.grammar.specs.Check.{check_grammar}
use Rattle.grammar.specs.Rule.{Passes}
use Rattle.grammar.specs.Tree.{node_tree, child_trees, tree_of}
use Rattle.grammar.proofs.Rule.{accepted_exactly, child_inside}
use Rattle.grammar.proofs.Tree.{tree_node}
use Rattle.least.specs.Entries.{entries}
use Rattle.least.specs.Least.{length_of, FilledFrom, Ready, least_of}

-- ---- the mark

abbrev mark : ℕ
mark = 4294967295

pub plain : (n : ℕ) → (n ≡ mark → ⊥) → length_of n ≡ Some n
unfolding length_of
plain n h = rw (ne_eqb n mark h)

-- ---- a node's children, from the last to the first

module _ (join : Option ℕ → Option ℕ → Option ℕ) (end : Option ℕ) (g : List ℕ) (first count : ℕ) where
  -- of the children from child i on
  abbrev pub joined_from : ℕ → Option ℕ
  joined_from i = fold_least join end (child_trees g (tree_of g) (first + i) (count - i))

  pub joined-none : (i : ℕ) → i ≡ count → end ≡ joined_from i
  unfolding fold_least child_trees
  joined-none i h = let e : count - i ≡ 0 = omega arith in rw e

  pub joined_child : (i : ℕ) → 0 < i → i ≤ count → join (least (tree_of g (child_word g (first + (i - 1))))) (joined_from i) ≡ joined_from (i - 1)
  unfolding fold_least child_trees
  joined_child i p h =
      let e : count - (i - 1) ≡ suc (count - i) = omega arith in
      let f : suc (first + (i - 1)) ≡ first + i = omega arith in
      rw (e, f)

  pub joined-all : (i : ℕ) → i ≡ 0 → joined_from i ≡ fold_least join end (child_trees g (tree_of g) first count)
  joined-all i h =
      let e : first + i ≡ first = omega arith in
      let f : count - i ≡ count = omega arith in
      rw (e, f)

-- a child's number is that of a node behind, whose entry is there
pub child_entry : {k : ℕ} {g lengths : List ℕ} → Ready k g lengths → (i : ℕ) → i < count_word g k → let child = child_word g (first_word g k + i) in (child < 256) × (length_of (get_or lengths child 0) ≡ least (tree_of g child))
child_entry {k} {g} r i h =
    let x = child_inside g r.passes k r.below i h in
    (omega (arith, x.2, x.4.1), r.behind.entry (child_word g (first_word g k + i)) (omega (arith, x.4.0)) x.4.1)

-- child i − 1 joined to those behind it
pub joined_more : (join : Option ℕ → Option ℕ → Option ℕ) (end : Option ℕ) {k : ℕ} {g lengths : List ℕ} → Ready k g lengths → (i child n joined : ℕ) → 0 < i → i ≤ count_word g k → child ≡ child_word g (first_word g k + (i - 1)) → length_of n ≡ join (length_of (get_or lengths child 0)) (length_of joined) → length_of joined ≡ joined_from join end g (first_word g k) (count_word g k) i → length_of n ≡ joined_from join end g (first_word g k) (count_word g k) (i - 1)
joined_more join end {k} {g} {lengths} r i child n joined p h c e j =
    let x : length_of (get_or lengths child 0) ≡ least (tree_of g (child_word g (first_word g k + (i - 1)))) = rw c (child_entry r (i - 1) (omega arith)).1 in
    e ∙ rw (x, j) (joined_child join end g (first_word g k) (count_word g k) i p h)

-- what the loop over a node's children takes
pub ruleset child_steps = (joined-none, joined-all, child_entry, joined_more)

-- ---- the nodes, from the last to the root

-- a node's least length, by its kind
pub node_entry : {k : ℕ} {g lengths : List ℕ} → Ready k g lengths → (kind : Kind) → kind ≡ kind_of (kind_word g k) → least (node_tree kind (child_trees g (tree_of g) (first_word g k) (count_word g k))) ≡ least (tree_of g k)
node_entry {k} {g} r kind h = rw h (ap least (sym (tree_node g r.passes k r.below)))

zero_at : (n j : ℕ) → get_or (replicate {A = ℕ} n 0) j 0 ≡ 0
zero_at n j = grind (arith, common_steps)

-- the blocks as they begin
pub filled_none : (g : List ℕ) (k : ℕ) → k ≡ node_count g → let z : List ℕ = replicate 64 0 in FilledFrom k g (entries z z z z)
unfolding entries
filled_none g k h = record { size = refl; entry = λ j p q. absurd (omega arith); rest = λ j _. zero_at 256 j }

-- ---- the root

pub checked : (g : List ℕ) → accepted tt ≡ check_grammar g → Passes g
checked g h = (accepted_exactly g).0 (sym h)

-- the answer, from the root's entry
pub root_entry : (g lengths : List ℕ) → accepted tt ≡ check_grammar g → FilledFrom 0 g lengths → (x : Option ℕ) → length_of (get_or lengths 0 0) ≡ x → accepted x ≡ least_of g
root_entry g lengths h f x e = rw (sym h) (ap accepted (sym e ∙ f.entry 0 (omega arith) (checked g h).layout.start.1.0))
