-- What the check means, in document 01's terms: when a table passes, and which refusal is the first.
use Rattle.std.specs.Prelude.{◌≡◌, List, ℕ, ◌+◌, ◌*◌, ◌≤◌, ◌<◌, length}
use Rattle.refusal.specs.Outcome.{Reason, reason, word}
use Rattle.value.specs.Kinds.{Kind, last_kind, kind_of, constant, number, array, tuple, elements, union, other}
use Rattle.tables.specs.Grammar.{node_count, kind_word, first_word, count_word, child_count, child_word}

-- the slice not empty, N from 1 to 256
abbrev pub StartRule : List ℕ → Type 0
StartRule t = (0 < length t) × ((0 < node_count t) × (node_count t ≤ 256))

-- M's word there, M at most 1,024, the length 2 + 3N + M
abbrev pub LengthRule : List ℕ → Type 0
LengthRule t = (1 + 3 * node_count t < length t) × ((child_count t ≤ 1024) × (length t ≡ 2 + 3 * node_count t + child_count t))

-- first and count: kind 3 has count 1, kinds 4 and 8 any count, the others first and count 0
abbrev pub CountRule : Kind → ℕ → ℕ → Type 0
CountRule constant first count = (first ≡ 0) × (count ≡ 0)
CountRule (number k) first count = (first ≡ 0) × (count ≡ 0)
CountRule array first count = count ≡ 1
CountRule tuple first count = Unit {0}
CountRule (elements k) first count = (first ≡ 0) × (count ≡ 0)
CountRule union first count = Unit {0}
CountRule other first count = ⊥

-- the rule of node k's first and count, and its children within the child words
abbrev pub ChildrenRule : List ℕ → ℕ → Type 0
ChildrenRule t k = CountRule (kind_of (kind_word t k)) (first_word t k) (count_word t k) × (first_word t k + count_word t k ≤ child_count t)

-- child word i of node k: a number above the node's and below N
abbrev pub ChildRule : List ℕ → ℕ → ℕ → Type 0
ChildRule t k i = (k < child_word t i) × (child_word t i < node_count t)

-- child word i is one of node k's
abbrev pub ChildOf : List ℕ → ℕ → ℕ → Type 0
ChildOf t k i = (first_word t k ≤ i) × (i < first_word t k + count_word t k)

pub record NodeRule (t : List ℕ) (k : ℕ) : Type 0 where
  pub kind : kind_word t k ≤ last_kind
  pub rule : ChildrenRule t k
  pub children : (i : ℕ) → ChildOf t k i → ChildRule t k i

pub record LaidOut (t : List ℕ) : Type 0 where
  pub start : StartRule t
  pub size : LengthRule t

-- a table that passes
pub record Passes (t : List ℕ) : Type 0 where
  pub layout : LaidOut t
  pub node : (k : ℕ) → k < node_count t → NodeRule t k

-- node k is reached: the table is laid out, and every node before it keeps its rule
pub record Reached (t : List ℕ) (k : ℕ) : Type 0 where
  pub layout : LaidOut t
  pub below : k < node_count t
  pub before : (j : ℕ) → j < k → NodeRule t j

-- the first refusal of a table in document 01's order: what it is given for, and that nothing before it is
pub data FirstRefusal (t : List ℕ) : Reason → Type 0 where
  first1 : (StartRule t → ⊥) → FirstRefusal t (reason 1 (word 0))
  first2 : StartRule t → (LengthRule t → ⊥) → FirstRefusal t (reason 2 (word (1 + 3 * node_count t)))
  first3 : (k : ℕ) → Reached t k → (kind_word t k ≤ last_kind → ⊥) → FirstRefusal t (reason 3 (word (1 + 3 * k)))
  first4 : (k : ℕ) → Reached t k → kind_word t k ≤ last_kind → (ChildrenRule t k → ⊥) → FirstRefusal t (reason 4 (word (2 + 3 * k)))
  first5 : (k i : ℕ) → Reached t k → kind_word t k ≤ last_kind → ChildrenRule t k → ChildOf t k i → ((h : ℕ) → first_word t k ≤ h → h < i → ChildRule t k h) → (ChildRule t k i → ⊥) → FirstRefusal t (reason 5 (word (2 + 3 * node_count t + i)))
