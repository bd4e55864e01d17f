-- The grammar table of document 01: which word is which.
use Rattle.std.specs.Prelude.{ℕ, ◌+◌, ◌*◌, List, get_or}

-- N, the node count
abbrev pub node_count : List ℕ → ℕ
node_count t = get_or t 0 0

-- node k is three words from 1 + 3k on: kind, first, count
abbrev pub kind_word : List ℕ → ℕ → ℕ
kind_word t k = get_or t (1 + 3 * k) 0

abbrev pub first_word : List ℕ → ℕ → ℕ
first_word t k = get_or t (2 + 3 * k) 0

abbrev pub count_word : List ℕ → ℕ → ℕ
count_word t k = get_or t (3 + 3 * k) 0

-- M, the count of child words
abbrev pub child_count : List ℕ → ℕ
child_count t = get_or t (1 + 3 * node_count t) 0

-- child word i: a node number
abbrev pub child_word : List ℕ → ℕ → ℕ
child_word t i = get_or t (2 + 3 * node_count t + i) 0
