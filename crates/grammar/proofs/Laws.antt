-- The grammar check's definition, as its loops take it, and what an accepted step says.
use Rattle.std.proofs.Common.{◌≡◌, refl, ap, sym, ◌∙◌, Bool, true, false, ◌&&◌, ◌↔◌, List, [], ◌∷◌, ℕ, zero, suc, ◌+◌, ◌-◌, ◌*◌, ◌≤◌, ◌<◌, add-one, arith, length, get_or}
use Rattle.std.proofs.Math.Decide.{dec_le}
use Rattle.refusal.specs.Outcome.{Outcome, accepted, refused, bind, Reason, reason, word}
use Rattle.refusal.proofs.Outcome.{test-true, test-false, test_passed}
use Rattle.refusal.proofs.Tests.{and-true, reflects_leb, reflects_ltb, reflects_eqb, reflects_and}
use Rattle.value.specs.Kinds.{Kind, kinds, last_kind, kind_of, constant, number, array, tuple, elements, union, other}
use Rattle.value.proofs.KindLaws.{kinds-length, kind-other}
use Rattle.tables.specs.Grammar.{node_count, kind_word, first_word, count_word, child_count, child_word}
use Rattle.grammar.specs.Check.{keeps_rule, is_named, start_holds, length_holds, children_hold, child_holds, check_layout, check_node, check_children, check_nodes}
use Rattle.grammar.specs.Rule.{StartRule, LengthRule, CountRule, ChildrenRule, ChildRule, LaidOut}

abbrev all : (Kind → Bool) → List Kind → Bool
all p [] = true
all p (k ∷ l) = p k && all p l

-- ---- what the tests say

-- each test of the definition reflects its rule
pub reflects_start : (t : List ℕ) → StartRule t ↔ (start_holds t ≡ true)
reflects_start t = reflects_and (reflects_ltb 0 (length t)) (reflects_and (reflects_ltb 0 (node_count t)) (reflects_leb (node_count t) 256))

pub reflects_length : (t : List ℕ) → LengthRule t ↔ (length_holds t ≡ true)
reflects_length t = reflects_and (reflects_ltb (1 + 3 * node_count t) (length t)) (reflects_and (reflects_leb (child_count t) 1024) (reflects_eqb (length t) (2 + 3 * node_count t + child_count t)))

reflects_count : (k : Kind) (first count : ℕ) → CountRule k first count ↔ (keeps_rule k first count ≡ true)
reflects_count constant first count = reflects_and (reflects_eqb first 0) (reflects_eqb count 0)
reflects_count (number k) first count = reflects_and (reflects_eqb first 0) (reflects_eqb count 0)
reflects_count array first count = reflects_eqb count 1
reflects_count tuple first count = (λ _. refl, λ _. tt)
reflects_count (elements k) first count = reflects_and (reflects_eqb first 0) (reflects_eqb count 0)
reflects_count union first count = (λ _. refl, λ _. tt)
reflects_count other first count = (λ n. absurd n, λ h. let z : ◌≡◌ {A = ℕ} 0 1 = cc in absurd (omega arith))

pub reflects_children : (t : List ℕ) (k : ℕ) → ChildrenRule t k ↔ (children_hold t k ≡ true)
reflects_children t k = reflects_and (reflects_count (kind_of (kind_word t k)) (first_word t k) (count_word t k)) (reflects_leb (first_word t k + count_word t k) (child_count t))

pub reflects_child : (t : List ℕ) (k i : ℕ) → ChildRule t k i ↔ (child_holds t k i ≡ true)
reflects_child t k i = reflects_and (reflects_ltb k (child_word t i)) (reflects_ltb (child_word t i) (node_count t))

-- every kind of a list that names each of its kinds
named_in : (l : List Kind) → all is_named l ≡ true → (w : ℕ) → w < length l → is_named (get_or l w other) ≡ true
named_in [] h w s = absurd (omega arith)
named_in (k ∷ l) h zero s = (and-true (is_named k) (all is_named l) h).0
named_in (k ∷ l) h (suc w) s = named_in l (and-true (is_named k) (all is_named l) h).1 w (omega arith)

pub reflects_kind : (w : ℕ) → (w ≤ last_kind) ↔ (is_named (kind_of w) ≡ true)
unfolding kind_of kinds
reflects_kind w = (λ h. named_in kinds refl w (omega arith), λ h. go h (dec_le w last_kind))
  where
    go : is_named (kind_of w) ≡ true → Dec (w ≤ last_kind) → w ≤ last_kind
    go h (yes l) = l
    go h (no l) =
        let e : is_named (kind_of w) ≡ false = ap is_named (kind-other w (omega (arith, kinds-length))) in
        let z : ◌≡◌ {A = ℕ} 0 1 = cc in absurd (omega arith)

pub laid_out : (t : List ℕ) → accepted tt ≡ check_layout t → LaidOut t
unfolding check_layout
laid_out t h =
    let s : start_holds t ≡ true = test_passed (start_holds t) _ _ tt (sym h) in
    let l : length_holds t ≡ true = test_passed (length_holds t) (reason 2 (word (1 + 3 * node_count t))) accepted tt (sym (test-true _ _ s) ∙ sym h) in
    record { start = (reflects_start t).1 s; size = (reflects_length t).1 l }

-- ---- the loop over nodes: what is left from node k on

module _ (t : List ℕ) (n k : ℕ) (h : k < n) where
  less : n - k ≡ suc (n - (k + 1))
  less = omega arith

  next-node : check_nodes t k (n - k) ≡ bind (check_node t k) (λ _. bind (check_children t k (first_word t k) (count_word t k)) (λ _. check_nodes t (k + 1) (n - (k + 1))))
  unfolding check_nodes
  next-node = rw (less, add-one)

  pub node-refused : {r : Reason} → refused r ≡ check_node t k → refused r ≡ check_nodes t k (n - k)
  node-refused {r} e = ap (λ (x : Outcome Reason (Unit {0})). bind x (λ _. bind (check_children t k (first_word t k) (count_word t k)) (λ _. check_nodes t (k + 1) (n - (k + 1))))) e ∙ sym next-node

  pub node-accepted : {i m : ℕ} → i ≡ first_word t k → m ≡ count_word t k → accepted tt ≡ check_node t k → bind (check_children t k i m) (λ _. check_nodes t (k + 1) (n - (k + 1))) ≡ check_nodes t k (n - k)
  node-accepted {i} {m} f c e = rw (f, c) (ap (λ (x : Outcome Reason (Unit {0})). bind x (λ _. bind (check_children t k (first_word t k) (count_word t k)) (λ _. check_nodes t (k + 1) (n - (k + 1))))) e ∙ sym next-node)

pub nodes_none : (t : List ℕ) (n k : ℕ) → k ≡ n → accepted tt ≡ check_nodes t k (n - k)
unfolding check_nodes
nodes_none t n k e = let z : n - k ≡ 0 = omega arith in rw z

-- ---- the loop over the children of node k: what is left from the child j of `count` on, and then f

module _ (t : List ℕ) (k first count j : ℕ) (f : Unit {0} → Outcome Reason (Unit {0})) (h : j < count) where
  next_child : bind (check_children t k (first + j) (count - j)) f ≡ bind (check_children t k (first + j) (suc (count - (j + 1)))) f
  next_child = let e : count - j ≡ suc (count - (j + 1)) = omega arith in rw e

  pub child_accepted : child_holds t k (first + j) ≡ true → bind (check_children t k (first + (j + 1)) (count - (j + 1))) f ≡ bind (check_children t k (first + j) (count - j)) f
  unfolding check_children
  child_accepted e =
      let s : first + (j + 1) ≡ suc (first + j) = omega arith in
      sym (next_child ∙ ap (λ (x : Outcome Reason (Unit {0})). bind x f) (test-true _ _ e) ∙ rw s)

  pub child_refused : child_holds t k (first + j) ≡ false → refused (reason 5 (word (2 + 3 * node_count t + (first + j)))) ≡ bind (check_children t k (first + j) (count - j)) f
  unfolding check_children
  child_refused e = sym (next_child ∙ ap (λ (x : Outcome Reason (Unit {0})). bind x f) (test-false _ _ e))

pub children-none : (t : List ℕ) (k i count j : ℕ) (f : Unit {0} → Outcome Reason (Unit {0})) → count ≤ j → f tt ≡ bind (check_children t k i (count - j)) f
unfolding check_children
children-none t k i count j f h = let z : count - j ≡ 0 = omega arith in rw z

-- what the loops take
pub ruleset check_steps = (node-refused, node-accepted, nodes_none, child_accepted, child_refused, children-none)
