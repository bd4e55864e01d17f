use Rattle.std.proofs.Common.{◌≡◌, ℕ, ◌+◌, ◌-◌, ◌<◌, refl, ap, sym, subst, ◌∙◌, true, add-zero, arith, Ok, Err}
use Rattle.std.proofs.Math.Nat.{sub-zero}
use Rattle.std.proofs.lemmas.Result.{err_from_is_err_and}
use Rattle.refusal.specs.Outcome.{Outcome, refused, Reason}
use Rattle.value.specs.Tree.{Vals}
use Rattle.tables.specs.Grammar.{kind_word, first_word, count_word, child_word}
use Rattle.tables.specs.Row.{row_at}
use Rattle.grammar.specs.Tree.{tree_of, child_trees}
use Rattle.grammar.proofs.Rule.{node-inside}
use Rattle.sizing.specs.InGrammar.{kind_number, check_all_in_grammar, check_each_in_grammar}
use Rattle.sizing.specs.Checks.{Checks}
use Rattle.sizing.proofs.Walk.{tree_kind, tree_element, tuple-parts, union-parts, tree_parts, part_count, tree_case, one_child, child_above, is_leaf, arm-word, arm_other, arm_leaf, arm_array, arm_count, arm_tuple, arm_tag, arm_case, elements_stand, fields_stand, case_stands, first_stands, others_stand, next-inside, Left, left_all, left_none, left_stopped, left_next, all-step, each_step, none-step, none_each}
use Rattle.sizing.proofs.+in_grammar_checks.Goals as goal
use Rattle.sizing.proofs.+in_grammar_checks.Goals.{check_in_grammar-Else-kind-word as Else-kind-word}

pub check_all_in_grammar-check_in_grammar-requires : goal.check_all_in_grammar-check_in_grammar-requires
check_all_in_grammar-check_in_grammar-requires t c =
    let l = c.loop in
    (omega (arith, c.decreases), (c.requires.0, c.requires.1, first_stands _ (c.args.count - l.counter) l.i (omega arith) l.invariant.0))

pub check_all_in_grammar-returns-in_err-check_in_grammar : goal.check_all_in_grammar-returns-in_err-check_in_grammar
check_all_in_grammar-returns-in_err-check_in_grammar t c =
    let a = c.args in
    let l = c.loop in
    let g = tree_of a.grammar.now a.node in
    let w : Vals → Outcome Reason (Unit {0}) = λ vs. check_all_in_grammar vs g a.row in
    let p = err_from_is_err_and c.from_residual.result c.from_residual.ensures.1 in
    rw (p.1, p.2) (left_stopped a.rows.now a.count a.row w (a.count - l.counter) l.i (λ vs. check_all_in_grammar vs g l.i) l.invariant.1 (omega arith) g (λ j vs. check_all_in_grammar vs g j) (all-step g l.i) c.in_err-check_in_grammar.field-0.0 c.in_err-check_in_grammar.ensures)

pub check_all_in_grammar-overflow_add-i : goal.check_all_in_grammar-overflow_add-i
check_all_in_grammar-overflow_add-i t c =
    let l = c.loop in
    omega (arith, c.span_at.ensures, next-inside _ (c.args.count - l.counter) l.i (omega arith) l.invariant.0)

pub check_all_in_grammar-loop-preserved : goal.check_all_in_grammar-loop-preserved
check_all_in_grammar-loop-preserved t c =
    let a = c.args in
    let l = c.loop in
    let g = tree_of a.grammar.now a.node in
    let w : Vals → Outcome Reason (Unit {0}) = λ vs. check_all_in_grammar vs g a.row in
    let p : 0 < a.count - l.counter = omega arith in
    let e : a.count - (l.counter + 1) ≡ a.count - l.counter - 1 = omega arith in
    rw (e, c.span_at.ensures) (others_stand a.rows.now (a.count - l.counter) l.i p l.invariant.0, left_next a.rows.now a.count a.row w (a.count - l.counter) l.i (λ vs. check_all_in_grammar vs g l.i) l.invariant.1 p g (λ j vs. check_all_in_grammar vs g j) (all-step g l.i) c.in_ok-check_in_grammar.ensures)

pub check_all_in_grammar-returns : goal.check_all_in_grammar-returns
check_all_in_grammar-returns t c =
    let a = c.args in
    let l = c.loop in
    let g = tree_of a.grammar.now a.node in
    left_none a.rows.now a.count a.row (λ vs. check_all_in_grammar vs g a.row) (a.count - l.counter) l.i (λ vs. check_all_in_grammar vs g l.i) l.invariant.1 (omega arith) (none-step g l.i)

pub check_each_in_grammar-loop-k-init : goal.check_each_in_grammar-loop-k-init
check_each_in_grammar-loop-k-init t c =
    let a = c.args in
    let g = a.grammar.now in
    let f = first_word g a.node in
    let n = count_word g a.node in
    (rw (sub-zero n) c.requires.2, rw (add-zero f, sub-zero n) (left_all a.rows.now n a.row (λ vs. check_each_in_grammar vs (child_trees g (tree_of g) f n) a.row)))

pub check_each_in_grammar-check_in_grammar-requires : goal.check_each_in_grammar-check_in_grammar-requires
check_each_in_grammar-check_in_grammar-requires t c =
    let a = c.args in
    let l = c.loop-k in
    let x = child_above a.grammar.now c.requires.0 a.node c.requires.1 l.k (omega (arith, c.word-k-end.ensures.0)) c.child_at-child.ensures.0 in
    (omega (arith, c.decreases, x.0, x.2), (c.requires.0, x.1, first_stands _ (count_word a.grammar.now a.node - l.k) l.i (omega (arith, c.word-k-end.ensures.0)) l.invariant.0))

pub check_each_in_grammar-returns-in_err-check_in_grammar : goal.check_each_in_grammar-returns-in_err-check_in_grammar
check_each_in_grammar-returns-in_err-check_in_grammar t c =
    let a = c.args in
    let l = c.loop-k in
    let g = a.grammar.now in
    let f = first_word g a.node in
    let n = count_word g a.node in
    let h : l.k < n = omega (arith, c.word-k-end.ensures.0) in
    let w : Vals → Outcome Reason (Unit {0}) = λ vs. check_each_in_grammar vs (child_trees g (tree_of g) f n) a.row in
    let x = c.in_err-check_in_grammar.field-0.0 in
    let e = subst (λ (k : ℕ). Checks a.rows.now l.i (tree_of g k) (Err x)) c.child_at-child.ensures.0 c.in_err-check_in_grammar.ensures in
    let p = err_from_is_err_and c.from_residual.result c.from_residual.ensures.1 in
    rw (p.1, p.2) (left_stopped a.rows.now n a.row w (n - l.k) l.i (λ vs. check_each_in_grammar vs (child_trees g (tree_of g) (f + l.k) (n - l.k)) l.i) l.invariant.1 (omega arith) (tree_of g (child_word g (f + l.k))) (λ j vs. check_each_in_grammar vs (child_trees g (tree_of g) (f + (l.k + 1)) (n - (l.k + 1))) j) (each_step g f n l.k h l.i) x e)

pub check_each_in_grammar-overflow_add-i : goal.check_each_in_grammar-overflow_add-i
check_each_in_grammar-overflow_add-i t c =
    let a = c.args in
    let l = c.loop-k in
    omega (arith, c.span_at.ensures, next-inside _ (count_word a.grammar.now a.node - l.k) l.i (omega (arith, c.word-k-end.ensures.0)) l.invariant.0)

pub check_each_in_grammar-loop-k-preserved : goal.check_each_in_grammar-loop-k-preserved
check_each_in_grammar-loop-k-preserved t c =
    let a = c.args in
    let l = c.loop-k in
    let g = a.grammar.now in
    let f = first_word g a.node in
    let n = count_word g a.node in
    let h : l.k < n = omega (arith, c.word-k-end.ensures.0) in
    let w : Vals → Outcome Reason (Unit {0}) = λ vs. check_each_in_grammar vs (child_trees g (tree_of g) f n) a.row in
    let e = subst (λ (k : ℕ). Checks a.rows.now l.i (tree_of g k) (Ok tt)) c.child_at-child.ensures.0 c.in_ok-check_in_grammar.ensures in
    let z : n - (l.k + 1) ≡ n - l.k - 1 = omega arith in
    rw c.span_at.ensures (
      rw z (others_stand a.rows.now (n - l.k) l.i (omega arith) l.invariant.0),
      subst (λ (m : ℕ). Left a.rows.now n a.row w m (l.i + (row_at a.rows.now l.i).span) (λ vs. check_each_in_grammar vs (child_trees g (tree_of g) (f + (l.k + 1)) (n - (l.k + 1))) (l.i + (row_at a.rows.now l.i).span))) (sym z)
          (left_next a.rows.now n a.row w (n - l.k) l.i (λ vs. check_each_in_grammar vs (child_trees g (tree_of g) (f + l.k) (n - l.k)) l.i) l.invariant.1 (omega arith) (tree_of g (child_word g (f + l.k))) (λ j vs. check_each_in_grammar vs (child_trees g (tree_of g) (f + (l.k + 1)) (n - (l.k + 1))) j) (each_step g f n l.k h l.i) e),
    )

pub check_each_in_grammar-returns : goal.check_each_in_grammar-returns
check_each_in_grammar-returns t c =
    let a = c.args in
    let l = c.loop-k in
    let g = a.grammar.now in
    let f = first_word g a.node in
    let n = count_word g a.node in
    left_none a.rows.now n a.row (λ vs. check_each_in_grammar vs (child_trees g (tree_of g) f n) a.row) (n - l.k) l.i (λ vs. check_each_in_grammar vs (child_trees g (tree_of g) (f + l.k) (n - l.k)) l.i) l.invariant.1 (omega (arith, c.word-k-end.ensures.0)) (none_each (child_trees g (tree_of g) (f + l.k) (n - l.k)) l.i)

-- ---- a row, whose kind word is the node's

module _ (t : ℕ) (c : Else-kind-word t) {k : ℕ} (e : c.kind_at-kind.result ≡ k) where
  node_word : let a = c.args in kind_word a.grammar.now a.node ≡ k
  node_word = omega (arith, c.word.ensures.0)

  row_kind : let a = c.args in (row_at a.rows.now a.row).kind ≡ k
  row_kind = sym c.kind_at-kind.ensures ∙ e

  tree_is : let a = c.args in kind_number (tree_of a.grammar.now a.node) ≡ k
  tree_is =
      let a = c.args in
      let p = c.requires in
      tree_kind a.grammar.now p.0 a.node p.1 ∙ node_word

pub check_in_grammar-returns-then-kind-word : goal.check_in_grammar-returns-then-kind-word
check_in_grammar-returns-then-kind-word t c =
    let a = c.args in
    let p = c.requires in
    let g = a.grammar.now in
    λ s v h. ap refused c.at_row-other.ensures ∙ arm_other a.rows.now s a.row (tree_of g a.node) v h (λ e. c.if-kind-word.true (omega (arith, e, c.kind_at-kind.ensures, c.word.ensures.0, tree_kind g p.0 a.node p.1)))

pub check_in_grammar-returns-in-Some-Constant : goal.check_in_grammar-returns-in-Some-Constant
check_in_grammar-returns-in-Some-Constant t c =
    let a = c.args in
    let k = c.in-Some-Constant.field-0 in
    let l : is_leaf k ≡ true = grind arith in
    let b = (goal.at.check_in_grammar-returns-in-Some-Constant t c).Else-kind-word in
    let e = arm-word c.kind_at-kind.result c.in-Some-Constant.ensures refl in
    λ s v h. arm_leaf a.rows.now s a.row (tree_of a.grammar.now a.node) v h k l (row_kind t b e) (tree_is t b e)

pub check_in_grammar-check_all_in_grammar-requires : goal.check_in_grammar-check_all_in_grammar-requires
check_in_grammar-check_all_in_grammar-requires t c =
    let a = c.args in
    let p = c.requires in
    let g = a.grammar.now in
    let b = (goal.at.check_in_grammar-check_all_in_grammar-requires t c).Else-kind-word in
    let e = arm-word c.kind_at-kind.result c.in-Some-Array.ensures c.in-Some-Array.field-0-is in
    let x = child_above g p.0 a.node p.1 0 (one_child g p.0 a.node p.1 (node_word t b e)) c.child_at-element.ensures.0 in
    (omega (arith, c.decreases, x.0, x.2), (p.0, x.1, rw c.word2_at-word2.ensures (elements_stand a.rows.now a.row p.2 (row_kind t b e))))

pub check_in_grammar-returns-in-Some-Array : goal.check_in_grammar-returns-in-Some-Array
check_in_grammar-returns-in-Some-Array t c =
    let a = c.args in
    let p = c.requires in
    let g = a.grammar.now in
    let b = (goal.at.check_in_grammar-returns-in-Some-Array t c).Else-kind-word in
    let e = arm-word c.kind_at-kind.result c.in-Some-Array.ensures c.in-Some-Array.field-0-is in
    let q = tree_element g p.0 a.node p.1 (node_word t b e) ∙ ap (tree_of g) (sym c.child_at-element.ensures.0) in
    λ s v h. arm_array a.rows.now s a.row (tree_of g a.node) v h (row_kind t b e) (tree_is t b e) (sym c.word2_at-word2.ensures) q c.check_all_in_grammar.result c.check_all_in_grammar.ensures

pub check_in_grammar-returns-then-word2-count : goal.check_in_grammar-returns-then-word2-count
check_in_grammar-returns-then-word2-count t c =
    let a = c.args in
    let p = c.requires in
    let g = a.grammar.now in
    let b = (goal.at.check_in_grammar-returns-then-word2-count t c).Else-kind-word in
    let k = arm-word c.kind_at-kind.result c.in-Some-Tuple.ensures c.in-Some-Tuple.field-0-is in
    λ s v h. ap refused c.at_row-other.ensures ∙ arm_count a.rows.now s a.row (tree_of g a.node) v h (row_kind t b k) (λ e. c.if-word2-count.true (omega (arith, e, c.word2_at-word2.ensures, c.word-count.ensures.0, part_count g p.0 a.node p.1 tuple-parts (node_word t b k))))

pub check_in_grammar-check_each_in_grammar-requires : goal.check_in_grammar-check_each_in_grammar-requires
check_in_grammar-check_each_in_grammar-requires t c =
    let a = c.args in
    let p = c.requires in
    let g = a.grammar.now in
    let b = (goal.at.check_in_grammar-check_each_in_grammar-requires t c).Else-kind-word in
    let k = arm-word c.kind_at-kind.result c.in-Some-Tuple.ensures c.in-Some-Tuple.field-0-is in
    let e : (row_at a.rows.now a.row).word2 ≡ count_word g a.node = omega (arith, c.word2_at-word2.ensures, c.word-count.ensures.0) in
    (omega (arith, c.decreases, (node-inside g p.0 a.node p.1).1), (p.0, p.1, rw (← e) (fields_stand a.rows.now a.row p.2 (row_kind t b k))))

pub check_in_grammar-returns-else-word2-count : goal.check_in_grammar-returns-else-word2-count
check_in_grammar-returns-else-word2-count t c =
    let a = c.args in
    let p = c.requires in
    let g = a.grammar.now in
    let b = (goal.at.check_in_grammar-returns-else-word2-count t c).Else-kind-word in
    let k = arm-word c.kind_at-kind.result c.in-Some-Tuple.ensures c.in-Some-Tuple.field-0-is in
    let e : (row_at a.rows.now a.row).word2 ≡ count_word g a.node = omega (arith, c.word2_at-word2.ensures, c.word-count.ensures.0) in
    let n = node_word t b k in
    λ s v h. arm_tuple a.rows.now s a.row (tree_of g a.node) v h (row_kind t b k) (tree_is t b k) e (part_count g p.0 a.node p.1 tuple-parts n) (tree_parts g p.0 a.node p.1 tuple-parts n) c.check_each_in_grammar.result c.check_each_in_grammar.ensures

pub check_in_grammar-returns-then-count-word2 : goal.check_in_grammar-returns-then-count-word2
check_in_grammar-returns-then-count-word2 t c =
    let a = c.args in
    let p = c.requires in
    let g = a.grammar.now in
    let b = (goal.at.check_in_grammar-returns-then-count-word2 t c).Else-kind-word in
    let k = arm-word c.kind_at-kind.result c.in-Some-Union.ensures c.in-Some-Union.field-0-is in
    λ s v h. ap refused c.at_row-other.ensures ∙ arm_tag a.rows.now s a.row (tree_of g a.node) v h (row_kind t b k) (tree_is t b k) (omega (arith, c.word2_at-word2.ensures, c.word-count.ensures.0, part_count g p.0 a.node p.1 union-parts (node_word t b k)))

pub check_in_grammar-check_in_grammar-requires : goal.check_in_grammar-check_in_grammar-requires
check_in_grammar-check_in_grammar-requires t c =
    let a = c.args in
    let p = c.requires in
    let g = a.grammar.now in
    let b = (goal.at.check_in_grammar-check_in_grammar-requires t c).Else-kind-word in
    let k = arm-word c.kind_at-kind.result c.in-Some-Union.ensures c.in-Some-Union.field-0-is in
    let x = child_above g p.0 a.node p.1 c.word2_at-word2.result (omega (arith, c.word-count.ensures.0)) c.child_at-case.ensures.0 in
    (omega (arith, c.decreases, x.0, x.2), (p.0, x.1, case_stands a.rows.now a.row p.2 (row_kind t b k)))

pub check_in_grammar-returns-else-count-word2 : goal.check_in_grammar-returns-else-count-word2
check_in_grammar-returns-else-count-word2 t c =
    let a = c.args in
    let p = c.requires in
    let g = a.grammar.now in
    let b = (goal.at.check_in_grammar-returns-else-count-word2 t c).Else-kind-word in
    let k = arm-word c.kind_at-kind.result c.in-Some-Union.ensures c.in-Some-Union.field-0-is in
    let l : (row_at a.rows.now a.row).word2 < count_word g a.node = omega (arith, c.word2_at-word2.ensures, c.word-count.ensures.0) in
    let n = node_word t b k in
    let e = tree_case g p.0 a.node p.1 n (row_at a.rows.now a.row).word2 l ∙ ap (λ (m : ℕ). tree_of g (child_word g (first_word g a.node + m))) (sym c.word2_at-word2.ensures) ∙ ap (tree_of g) (sym c.child_at-case.ensures.0) in
    λ s v h. arm_case a.rows.now s a.row (tree_of g a.node) v h (row_kind t b k) (tree_is t b k) (omega (arith, l, part_count g p.0 a.node p.1 union-parts n)) e c.check_in_grammar.result c.check_in_grammar.ensures
