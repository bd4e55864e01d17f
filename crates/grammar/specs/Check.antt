-- The grammar check: the first of refusals 1 to 5 in document 01's order, or accepted.
use Rattle.std.specs.Prelude.{ℕ, zero, suc, ◌+◌, ◌*◌, Bool, true, false, ◌&&◌, List, length, leb, ltb, eqb}
use Rattle.refusal.specs.Outcome.{Outcome, accepted, bind, test, Reason, reason, word}
use Rattle.value.specs.Kinds.{Kind, kind_of, constant, number, array, tuple, elements, union, other}
use Rattle.tables.specs.Grammar.{node_count, kind_word, first_word, count_word, child_count, child_word}

-- first and count by the kind's rule
abbrev pub keeps_rule : Kind → ℕ → ℕ → Bool
keeps_rule constant first count = eqb first 0 && eqb count 0
keeps_rule (number k) first count = eqb first 0 && eqb count 0
keeps_rule array first count = eqb count 1
keeps_rule tuple first count = true
keeps_rule (elements k) first count = eqb first 0 && eqb count 0
keeps_rule union first count = true
keeps_rule other first count = false

-- whether the papers name the kind: their kind words are 0 to 10
abbrev pub is_named : Kind → Bool
is_named constant = true
is_named (number k) = true
is_named array = true
is_named tuple = true
is_named (elements k) = true
is_named union = true
is_named other = false

-- 1: the slice empty, N 0 or above 256
abbrev pub start_holds : List ℕ → Bool
start_holds t = ltb 0 (length t) && (ltb 0 (node_count t) && leb (node_count t) 256)

-- 2: M's word missing, M above 1,024, the length not 2 + 3N + M
abbrev pub length_holds : List ℕ → Bool
length_holds t = ltb (1 + 3 * node_count t) (length t) && (leb (child_count t) 1024 && eqb (length t) (2 + 3 * node_count t + child_count t))

-- 4: first and count by the kind's rule, and the children within the child words
abbrev pub children_hold : List ℕ → ℕ → Bool
children_hold t k = keeps_rule (kind_of (kind_word t k)) (first_word t k) (count_word t k) && leb (first_word t k + count_word t k) (child_count t)

-- 5: a child's number above its node's and below N
abbrev pub child_holds : List ℕ → ℕ → ℕ → Bool
child_holds t k i = ltb k (child_word t i) && ltb (child_word t i) (node_count t)

unfoldable pub check_layout : List ℕ → Outcome Reason (Unit {0})
check_layout t =
    test (start_holds t) (reason 1 (word 0))
    (λ _. test (length_holds t) (reason 2 (word (1 + 3 * node_count t))) accepted)

-- node k by itself: 3, then 4
unfoldable pub check_node : List ℕ → ℕ → Outcome Reason (Unit {0})
check_node t k =
    test (is_named (kind_of (kind_word t k))) (reason 3 (word (1 + 3 * k)))
    (λ _. test (children_hold t k) (reason 4 (word (2 + 3 * k))) accepted)

-- n child words of node k from child word i on
unfoldable pub check_children : List ℕ → ℕ → ℕ → ℕ → Outcome Reason (Unit {0})
check_children t k i zero = accepted tt
check_children t k i (suc n) = test (child_holds t k i) (reason 5 (word (2 + 3 * node_count t + i))) (λ _. check_children t k (suc i) n)

-- n nodes from node k on, each with its children before the next node
unfoldable pub check_nodes : List ℕ → ℕ → ℕ → Outcome Reason (Unit {0})
check_nodes t k zero = accepted tt
check_nodes t k (suc n) = bind (check_node t k) (λ _. bind (check_children t k (first_word t k) (count_word t k)) (λ _. check_nodes t (suc k) n))

unfoldable pub check_grammar : List ℕ → Outcome Reason (Unit {0})
check_grammar t = bind (check_layout t) (λ _. check_nodes t 0 (node_count t))
