use Rattle.std.proofs.Common.{◌≡◌, ℕ, ◌+◌, ◌-◌, List, refl, arith, ap, sym, ◌∙◌}
use Rattle.std.proofs.lemmas.Result.{err_from_is_err_and}
use Rattle.value.specs.Step.{both, elements}
use Rattle.value.specs.Kinds.{Kind, kind_of}
use Rattle.value.specs.Meaning.{number_named, elements_named}
use Rattle.value.specs.Reading.{read_body, read_val, read_fields}
use Rattle.tables.specs.Grammar.{kind_word, first_word, count_word, child_word}
use Rattle.grammar.specs.Tree.{tree_of, child_trees}
use Rattle.grammar.proofs.Tree.{tree_valid}
use Rattle.rows.specs.Layout.{rows_of}
use Rattle.readers.specs.Meaning.{CodeStep, state_of}
use Rattle.readers.specs.Reads.{RowClaimed, Reads}
use Rattle.readers.proofs.Loop.{remaining_stopped, remaining_next, remaining_done, few-elements, few_fields, elements-next, elements-none, fields_next, fields_none}
use Rattle.readers.proofs.Laws.{node-named}
use Rattle.readers.proofs.Arms.{of_kind, Claimed, claimed-next, claim-refused, row-claimed, leaf-constant, leaf-number, leaf-elements, head-begun, head-behind, head-below, head-ready, array_count, counted-elements, counted_fields, counted-value, arm_body, arm_array, arm_array_stopped, arm_tuple, arm_case, arm_case_stopped}
use Rattle.readers.proofs.+value_readers.Goals as goal
use Rattle.readers.proofs.+value_readers.Goals.{read_value-In_ok-t, read_array_contents-After-read_value, read_tuple_contents-After-read_value}

pub read_array-returns-in_err-count : goal.read_array-returns-in_err-count
read_array-returns-in_err-count t c =
    let p = err_from_is_err_and c.from_residual.result c.from_residual.ensures.1 in
    let h = c.in_err-count.ensures in
    rw (p.1, p.2) (arm_array_stopped c.requires c.in_err-count.field-0.0 h.0 h.1)

pub read_array-read_array_contents-read-requires : goal.read_array-read_array_contents-read-requires
read_array-read_array_contents-read-requires t c =
    let p = c.requires in
    let n = c.in_ok-count in
    let h = n.ensures in
    (omega (arith, c.decreases, head-begun p _ 8 n.count n.t h.0 h.1, h.1), (p.node, omega (arith, array_count c.args.grammar.now c.args.node p.node p.kind), head-ready p _ 8 n.count n.t h.0 h.1))

pub read_array-close_row-requires : goal.read_array-close_row-requires
read_array-close_row-requires t c =
    let p = c.requires in
    let n = c.in_ok-count in
    let h = n.ensures in
    let r = c.read_array_contents-read in
    counted-elements n.t (head-ready p _ 8 n.count n.t h.0 h.1) (omega (arith, head-begun p _ 8 n.count n.t h.0 h.1, p.claimed)) (head-behind p _ 8 n.count n.t h.0 h.1) (tree_of c.args.grammar.now (child_word c.args.grammar.now (first_word c.args.grammar.now c.args.node + 0))) n.count r.result r.ensures

pub read_array-returns : goal.read_array-returns
read_array-returns t c =
    let n = c.in_ok-count in
    let h = n.ensures in
    arm_array c.requires n.count n.t h.0 h.1 c.read_array_contents-read.ensures c.close_row.ensures.0 c.close_row.ensures.1

-- the next element and those behind it are the elements left
next_element : (t : ℕ) (c : read_array_contents-After-read_value t) →
    let a = c.args in
    let l = c.loop in
    let element = tree_of a.grammar.now (child_word a.grammar.now (first_word a.grammar.now a.node + 0)) in
    elements (a.count - l.counter) (read_val a.s.capacity a.bytes.now element) (state_of l.t) ≡ both (read_val a.s.capacity a.bytes.now (tree_of a.grammar.now c.child_at-child.result) (state_of l.t)) (elements (a.count - (l.counter + 1)) (read_val a.s.capacity a.bytes.now element))
next_element t c =
    let a = c.args in
    let l = c.loop in
    let element = tree_of a.grammar.now (child_word a.grammar.now (first_word a.grammar.now a.node + 0)) in
    let k = elements (a.count - (l.counter + 1)) (read_val a.s.capacity a.bytes.now element) in
    elements-next a.s.capacity a.bytes.now element (state_of l.t) a.count l.counter c.loop-test.true ∙ ap (λ (j : ℕ). both (read_val a.s.capacity a.bytes.now (tree_of a.grammar.now j) (state_of l.t)) k) (sym c.child_at-child.ensures.0)

pub read_array_contents-returns-in_err-t : goal.read_array_contents-returns-in_err-t
read_array_contents-returns-in_err-t t c =
    let e = next_element t (goal.at.read_array_contents-returns-in_err-t t c).After-read_value in
    let p = err_from_is_err_and c.from_residual.result c.from_residual.ensures.1 in
    rw (p.1, p.2) (remaining_stopped _ _ e c.loop.invariant c.in_err-t.ensures c.in_err-t.field-0.0 refl)

pub read_array_contents-loop-preserved : goal.read_array_contents-loop-preserved
read_array_contents-loop-preserved t c =
    let a = c.args in
    let l = c.loop in
    let element = tree_of a.grammar.now (child_word a.grammar.now (first_word a.grammar.now a.node + 0)) in
    let e = next_element t (goal.at.read_array_contents-loop-preserved t c).After-read_value in
    remaining_next _ _ e l.invariant c.in_ok-t.ensures c.in_ok-t.t refl (tree_valid a.grammar.now c.requires.0.words c.child_at-child.result) c.read_value.auto.rows (λ w h o. few-elements a.s.capacity a.bytes.now element (a.count - (l.counter + 1)) (state_of c.in_ok-t.t) h w o)

pub read_array_contents-returns : goal.read_array_contents-returns
read_array_contents-returns t c =
    let a = c.args in
    let l = c.loop in
    remaining_done l.invariant (elements-none a.s.capacity a.bytes.now (tree_of a.grammar.now (child_word a.grammar.now (first_word a.grammar.now a.node + 0))) (state_of l.t) a.count l.counter (omega arith))

pub read_case-returns-in_err-tag : goal.read_case-returns-in_err-tag
read_case-returns-in_err-tag t c =
    let n = c.word-limit in
    let p = err_from_is_err_and c.from_residual.result c.from_residual.ensures.1 in
    let h = c.in_err-tag.ensures in
    rw (p.1, p.2) (arm_case_stopped c.requires n.result c.in_err-tag.field-0.0 n.ensures.0 h.0 h.1)

pub read_case-child_at-child-requires : goal.read_case-child_at-child-requires
read_case-child_at-child-requires t c =
    let p = c.requires in
    let n = c.in_ok-tag in
    let h = n.ensures in
    (p.node, omega (arith, head-below p _ 10 n.tag n.t h.0 h.1, c.word-limit.ensures.0))

pub read_case-read_value-read-requires : goal.read_case-read_value-read-requires
read_case-read_value-read-requires t c =
    let p = c.requires in
    let n = c.in_ok-tag in
    let h = n.ensures in
    (omega (arith, c.decreases, head-begun p _ 10 n.tag n.t h.0 h.1, h.1), (record { passes = p.node.passes; below = c.child_at-child.ensures.1; words = p.node.words }, head-ready p _ 10 n.tag n.t h.0 h.1))

pub read_case-close_row-requires : goal.read_case-close_row-requires
read_case-close_row-requires t c =
    let p = c.requires in
    let n = c.in_ok-tag in
    let h = n.ensures in
    let r = c.read_value-read in
    counted-value n.t (head-ready p _ 10 n.tag n.t h.0 h.1) (omega (arith, head-begun p _ 10 n.tag n.t h.0 h.1, p.claimed)) (head-behind p _ 10 n.tag n.t h.0 h.1) (tree_of c.args.grammar.now c.child_at-child.result) r.result r.ensures

pub read_case-returns : goal.read_case-returns
read_case-returns t c =
    let b = c.child_at-child in
    let l = c.word-limit in
    let n = c.in_ok-tag in
    let h = n.ensures in
    arm_case c.requires b.result n.tag l.result n.t l.ensures.0 b.ensures.0 h.0 h.1 c.read_value-read.ensures c.close_row.ensures.0 c.close_row.ensures.1

pub read_tuple-close_row-requires : goal.read_tuple-close_row-requires
read_tuple-close_row-requires t c =
    let p = c.requires in
    let r = c.read_tuple_contents-read in
    counted_fields c.args.s p.ready (omega (arith, p.claimed)) (omega arith) _ r.result r.ensures

pub read_tuple-returns : goal.read_tuple-returns
read_tuple-returns t c =
    let n = c.word-count in
    arm_tuple c.requires n.result n.ensures.0 c.read_tuple_contents-read.ensures c.close_row.ensures.0 c.close_row.ensures.1

-- the next field and those behind it are the fields left
next_field : (t : ℕ) (c : read_tuple_contents-After-read_value t) →
    let a = c.args in
    let l = c.loop-i in
    let f = first_word a.grammar.now a.node in
    let n = count_word a.grammar.now a.node in
    let fields = λ (i : ℕ). read_fields a.s.capacity a.bytes.now (child_trees a.grammar.now (tree_of a.grammar.now) (f + i) (n - i)) in
    fields l.i (state_of l.t) ≡ both (read_val a.s.capacity a.bytes.now (tree_of a.grammar.now c.child_at-child.result) (state_of l.t)) (fields (l.i + 1))
next_field t c =
    let a = c.args in
    let l = c.loop-i in
    let f = first_word a.grammar.now a.node in
    let n = count_word a.grammar.now a.node in
    let k = read_fields a.s.capacity a.bytes.now (child_trees a.grammar.now (tree_of a.grammar.now) (f + (l.i + 1)) (n - (l.i + 1))) in
    fields_next a.s.capacity a.bytes.now a.grammar.now (state_of l.t) f n l.i (omega (arith, c.word-i-end.ensures.0)) ∙ ap (λ (c : ℕ). both (read_val a.s.capacity a.bytes.now (tree_of a.grammar.now c) (state_of l.t)) k) (sym c.child_at-child.ensures.0)

pub read_tuple_contents-returns-in_err-t : goal.read_tuple_contents-returns-in_err-t
read_tuple_contents-returns-in_err-t t c =
    let e = next_field t (goal.at.read_tuple_contents-returns-in_err-t t c).After-read_value in
    let p = err_from_is_err_and c.from_residual.result c.from_residual.ensures.1 in
    rw (p.1, p.2) (remaining_stopped _ _ e c.loop-i.invariant.1 c.in_err-t.ensures c.in_err-t.field-0.0 refl)

pub read_tuple_contents-loop-i-preserved : goal.read_tuple_contents-loop-i-preserved
read_tuple_contents-loop-i-preserved t c =
    let a = c.args in
    let l = c.loop-i in
    let rest = child_trees a.grammar.now (tree_of a.grammar.now) (first_word a.grammar.now a.node + (l.i + 1)) (count_word a.grammar.now a.node - (l.i + 1)) in
    let e = next_field t (goal.at.read_tuple_contents-loop-i-preserved t c).After-read_value in
    (omega (arith, c.word-i-end.ensures.0), remaining_next _ _ e l.invariant.1 c.in_ok-t.ensures c.in_ok-t.t refl (tree_valid a.grammar.now c.requires.0.words c.child_at-child.result) c.read_value.auto.rows (λ w h o. few_fields a.s.capacity a.bytes.now rest (state_of c.in_ok-t.t) h w o))

pub read_tuple_contents-returns : goal.read_tuple_contents-returns
read_tuple_contents-returns t c =
    let a = c.args in
    let l = c.loop-i in
    remaining_done l.invariant.1 (fields_none a.s.capacity a.bytes.now a.grammar.now (state_of l.t) (first_word a.grammar.now a.node) (count_word a.grammar.now a.node) l.i (omega (arith, c.word-i-end.ensures.0)))

-- a row was claimed for the value, and what that says of the state behind
claimed_row : (t : ℕ) (c : read_value-In_ok-t t) → Claimed c.args.s c.in_ok-t.t
claimed_row t c = claimed-next c.args.s c.in_ok-t.t c.in_ok-t.ensures.0 c.in_ok-t.ensures.1

-- so a reader behind the claim may be called, by the kind
claimed : (t : ℕ) (c : read_value-In_ok-t t) {k : Kind} → let a = c.args in kind_of (kind_word a.grammar.now a.node) ≡ k → RowClaimed a.grammar.now a.bytes.now a.rows.now a.node k a.s.begun c.in_ok-t.t
claimed t c e = let p = c.requires in row-claimed p.0 p.1 (claimed_row t c) e

-- what was read behind the claimed row is the value
arm : (t : ℕ) (c : read_value-In_ok-t t) {r : CodeStep} {exit : List ℕ} →
    let a = c.args in
    let u = c.in_ok-t.t in
    Reads rows_of (read_body u.capacity a.bytes.now (tree_of a.grammar.now a.node) (state_of u)) u.capacity a.s.begun u.at a.rows.now r exit →
    Reads rows_of (read_val a.s.capacity a.bytes.now (tree_of a.grammar.now a.node) (state_of a.s)) a.s.capacity a.s.begun a.s.at a.rows.now r exit
arm t c h =
    let a = c.args in
    arm_body a.grammar.now a.node a.bytes.now a.rows.now a.s c.in_ok-t.t (claimed_row t c) h

pub read_value-read_number-requires : goal.read_value-read_number-requires
read_value-read_number-requires t c =
    let q = claimed_row t (goal.at.read_value-read_number-requires t c).In_ok-t in
    let r = c.requires.1 in
    (omega (arith, q.at, r.inside), r.short)

pub read_value-read_elements-requires : goal.read_value-read_elements-requires
read_value-read_elements-requires t c =
    let q = claimed_row t (goal.at.read_value-read_elements-requires t c).In_ok-t in
    let r = c.requires.1 in
    (omega (arith, q.at, r.inside), r.short)

pub read_value-read_array-requires : goal.read_value-read_array-requires
read_value-read_array-requires t c =
    let p = (goal.at.read_value-read_array-requires t c).In_ok-t in
    let q = claimed_row t p in
    (omega (arith, c.decreases, q.begun, q.capacity, q.free), claimed t p (of_kind c.in-Some-Array.ensures c.in-Some-Array.field-0-is))

pub read_value-read_tuple-requires : goal.read_value-read_tuple-requires
read_value-read_tuple-requires t c =
    let p = (goal.at.read_value-read_tuple-requires t c).In_ok-t in
    let q = claimed_row t p in
    (omega (arith, c.decreases, q.begun, q.capacity, q.free), claimed t p (of_kind c.in-Some-Tuple.ensures c.in-Some-Tuple.field-0-is))

pub read_value-read_case-requires : goal.read_value-read_case-requires
read_value-read_case-requires t c =
    let p = (goal.at.read_value-read_case-requires t c).In_ok-t in
    let q = claimed_row t p in
    (omega (arith, c.decreases, q.begun, q.capacity, q.free), claimed t p (of_kind c.in-Some-Union.ensures c.in-Some-Union.field-0-is))

pub read_value-returns-in_err-t : goal.read_value-returns-in_err-t
read_value-returns-in_err-t t c =
    let a = c.args in
    let p = err_from_is_err_and c.from_residual.result c.from_residual.ensures.1 in
    let h = c.in_err-t.ensures in
    rw (p.1, p.2) (claim-refused a.bytes.now (tree_of a.grammar.now a.node) a.s c.in_err-t.field-0.0 h.0 h.1)

pub read_value-returns-in-Some-Constant : goal.read_value-returns-in-Some-Constant
read_value-returns-in-Some-Constant t c =
    let p = (goal.at.read_value-returns-in-Some-Constant t c).In_ok-t in
    arm t p (leaf-constant (claimed t p (of_kind c.in-Some-Constant.ensures c.in-Some-Constant.field-0-is)) refl c.read_constant.ensures.0 c.read_constant.ensures.1)

pub read_value-returns-in-Some-Number : goal.read_value-returns-in-Some-Number
read_value-returns-in-Some-Number t c =
    let p = (goal.at.read_value-returns-in-Some-Number t c).In_ok-t in
    arm t p (leaf-number (claimed t p (of_kind c.in-Some-Number.ensures c.in-Some-Number.field-0-is)) (number_named c.in-Some-Number.number) refl c.read_number.ensures)

pub read_value-returns-in-Some-Array : goal.read_value-returns-in-Some-Array
read_value-returns-in-Some-Array t c = arm t (goal.at.read_value-returns-in-Some-Array t c).In_ok-t c.read_array.ensures

pub read_value-returns-in-Some-Tuple : goal.read_value-returns-in-Some-Tuple
read_value-returns-in-Some-Tuple t c = arm t (goal.at.read_value-returns-in-Some-Tuple t c).In_ok-t c.read_tuple.ensures

pub read_value-returns-in-Some-Elements : goal.read_value-returns-in-Some-Elements
read_value-returns-in-Some-Elements t c =
    let p = (goal.at.read_value-returns-in-Some-Elements t c).In_ok-t in
    arm t p (leaf-elements (claimed t p (of_kind c.in-Some-Elements.ensures c.in-Some-Elements.field-0-is)) (elements_named c.in-Some-Elements.elements) refl c.read_elements.ensures)

pub read_value-returns-in-Some-Union : goal.read_value-returns-in-Some-Union
read_value-returns-in-Some-Union t c = arm t (goal.at.read_value-returns-in-Some-Union t c).In_ok-t c.read_case.ensures

pub read_value-returns-in-None : goal.read_value-returns-in-None
read_value-returns-in-None t c =
    let a = c.args in
    absurd (node-named a.grammar.now a.node c.requires.0 (sym c.in-None.ensures))
