use Rattle.std.proofs.Common.{◌≡◌, ℕ, suc, List, ◌+◌, ◌-◌, ◌*◌, ◌≤◌, ◌<◌, length, refl, arith, ap, sym, mul-suc, add-one, mul-le-mul_left}
use Rattle.std.proofs.lemmas.Result.{err_from_is_err_and}
use Rattle.value.specs.Kinds.{Kind, kind_of}
use Rattle.value.specs.Meaning.{number_named, elements_named}
use Rattle.value.specs.Tree.{SizeOfV}
use Rattle.tables.specs.Grammar.{kind_word, first_word, count_word}
use Rattle.grammar.specs.Tree.{node_tree, tree_of, child_trees}
use Rattle.grammar.proofs.Rule.{node-named}
use Rattle.xdr.specs.Xdr.{store_of, rows_in}
use Rattle.xdr.specs.Import.{import_body, import_val}
use Rattle.importing.specs.Meaning.{CodeStep, filling_of}
use Rattle.importing.specs.Brings.{most_size, Brings, RowClaimed, child_place, node_at}
use Rattle.importing.proofs.Laws.{arm_constant, arm_number, arm_elements}
use Rattle.importing.proofs.Cycle.{Claimed, claimed-next, arm_refused, arm_body, ready-claimed, ready-below, below_taken, counted-children, kind_tree, node-few, children-array, children-tuple, children-case, arm_array, arm_array-refused, arm_tuple, arm_case, arm_case-refused, remaining_done, remaining_refused, remaining_next, trees_next, trees_done}
use Rattle.importing.proofs.+value_importers.Goals as goal
use Rattle.importing.proofs.+value_importers.Goals.{import_value-After-of_word}

pub import_array-returns-in_err-count : goal.import_array-returns-in_err-count
import_array-returns-in_err-count t c =
    let p = err_from_is_err_and c.from_residual.result c.from_residual.ensures.1 in
    rw (p.1, p.2) (arm_array-refused c.requires refl c.in_err-count.field-0.0 c.in_err-count.ensures.0)

pub import_array-import_array_contents-read-requires : goal.import_array-import_array_contents-read-requires
import_array-import_array_contents-read-requires t c =
    let a = c.args in
    let n = c.in_ok-count in
    let h = n.ensures in
    let limit = a.lent.capacity - a.s.begun + 1 in
    let x = below_taken a.bytes.now limit 8 (filling_of a.s) n.count n.t h.0 in
    (omega (arith, c.decreases, x.1), (c.requires.node, c.requires.kind, ready-below limit 8 a.s n.count n.t c.requires h.0 h.1))

pub import_array-close_row-requires : goal.import_array-close_row-requires
import_array-close_row-requires t c =
    let a = c.args in
    let p = c.requires in
    let n = c.in_ok-count in
    let h = n.ensures in
    let limit = a.lent.capacity - a.s.begun + 1 in
    let x = below_taken a.bytes.now limit 8 (filling_of a.s) n.count n.t h.0 in
    counted-children a.grammar.now a.bytes.now a.lent n.t (child_place a.grammar.now a.node) 0 n.count c.import_array_contents-read.result p.node.table (ready-below limit 8 a.s n.count n.t p h.0 h.1) (omega (arith, x.1, p.claimed)) (omega (arith, h.1)) c.import_array_contents-read.ensures

pub import_array-returns : goal.import_array-returns
import_array-returns t c =
    let n = c.in_ok-count in
    arm_array c.requires refl n.count n.t n.ensures.0 n.ensures.1 c.import_array_contents-read.ensures c.close_row.ensures.0 c.close_row.ensures.1

pub import_array_contents-import_children-requires : goal.import_array_contents-import_children-requires
import_array_contents-import_children-requires t c =
    let a = c.args in
    (omega (arith, c.decreases), (rw c.child_place-place.ensures.0 (children-array a.grammar.now a.node c.requires.0 c.requires.1 a.count), c.requires.2))

pub import_array_contents-returns : goal.import_array_contents-returns
import_array_contents-returns t c =
    rw c.child_place-place.ensures.0 at c.import_children.ensures

pub import_case-returns-in_err-tag : goal.import_case-returns-in_err-tag
import_case-returns-in_err-tag t c =
    let p = err_from_is_err_and c.from_residual.result c.from_residual.ensures.1 in
    rw (p.1, p.2) (arm_case-refused c.requires refl c.word-limit.result c.word-limit.ensures.0 c.in_err-tag.field-0.0 c.in_err-tag.ensures.0)

pub import_case-overflow_add-place : goal.import_case-overflow_add-place
import_case-overflow_add-place t c =
    let n = c.in_ok-tag in
    let x = below_taken c.args.bytes.now c.word-limit.result 10 (filling_of c.args.s) n.tag n.t n.ensures.0 in
    omega (arith, c.child_place.ensures.1, c.word-limit.ensures.1, x.3)

pub import_case-import_children-read-requires : goal.import_case-import_children-read-requires
import_case-import_children-read-requires t c =
    let a = c.args in
    let n = c.in_ok-tag in
    let h = n.ensures in
    let x = below_taken a.bytes.now c.word-limit.result 10 (filling_of a.s) n.tag n.t h.0 in
    (omega (arith, c.decreases, x.1), (rw c.child_place.ensures.0 (children-case a.grammar.now a.node c.requires.node n.tag (omega (arith, x.3, c.word-limit.ensures.0))), ready-below c.word-limit.result 10 a.s n.tag n.t c.requires h.0 h.1))

pub import_case-close_row-requires : goal.import_case-close_row-requires
import_case-close_row-requires t c =
    let a = c.args in
    let p = c.requires in
    let n = c.in_ok-tag in
    let h = n.ensures in
    let x = below_taken a.bytes.now c.word-limit.result 10 (filling_of a.s) n.tag n.t h.0 in
    counted-children a.grammar.now a.bytes.now a.lent n.t (c.child_place.result + n.tag) 0 1 c.import_children-read.result p.node.table (ready-below c.word-limit.result 10 a.s n.tag n.t p h.0 h.1) (omega (arith, x.1, p.claimed)) (omega (arith, h.1)) c.import_children-read.ensures

pub import_case-returns : goal.import_case-returns
import_case-returns t c =
    let n = c.in_ok-tag in
    arm_case c.requires refl c.word-limit.result c.word-limit.ensures.0 n.tag n.t (c.child_place.result + n.tag) (ap (λ (j : ℕ). j + n.tag) c.child_place.ensures.0) n.ensures.0 n.ensures.1 c.import_children-read.ensures c.close_row.ensures.0 c.close_row.ensures.1

pub import_children-import_value-requires : goal.import_children-import_value-requires
import_children-import_value-requires t c =
    let l = c.loop in
    (omega (arith, c.decreases, l.invariant.1.grown), (record { table = c.requires.0.table; below = rw (c.node_at.ensures, l.invariant.0) (c.requires.0.below l.counter c.loop-test.true) }, l.invariant.1.ready))

pub import_children-returns-in_err-t : goal.import_children-returns-in_err-t
import_children-returns-in_err-t t c =
    let a = c.args in
    let l = c.loop in
    let e = trees_next a.grammar.now a.lent.capacity a.lent.room a.bytes.now l.at a.step a.count l.counter (filling_of l.t) c.loop-test.true in
    let h = rw c.node_at.ensures at c.in_err-t.ensures in
    let p = err_from_is_err_and c.from_residual.result c.from_residual.ensures.1 in
    rw (p.1, p.2) (remaining_refused a.grammar.now c.requires.0.table (node_at a.grammar.now l.at) (l.at + a.step) a.step (a.count - (l.counter + 1)) e l.invariant.1 h c.in_err-t.field-0.0 refl)

pub import_children-overflow_add-at : goal.import_children-overflow_add-at
import_children-overflow_add-at t c =
    let a = c.args in
    let l = c.loop in
    let m : a.step * suc l.counter ≤ a.step * a.count = mul-le-mul_left a.step c.loop-test.true in
    record { fits = omega (arith, mul-suc a.step l.counter, l.invariant.0, c.requires.0.short) }

pub import_children-loop-preserved : goal.import_children-loop-preserved
import_children-loop-preserved t c =
    let a = c.args in
    let l = c.loop in
    let p = c.requires.0 in
    let e = trees_next a.grammar.now a.lent.capacity a.lent.room a.bytes.now l.at a.step a.count l.counter (filling_of l.t) c.loop-test.true in
    let h = rw c.node_at.ensures at c.in_ok-t.ensures in
    let k = c.import_value.auto in
    (rw (l.invariant.0, add-one l.counter, mul-suc a.step l.counter) (omega arith), remaining_next a.grammar.now p.table (node_at a.grammar.now l.at) (l.at + a.step) a.step (a.count - (l.counter + 1)) e l.invariant.1 h c.in_ok-t.t refl k.rows k.store)

pub import_children-returns : goal.import_children-returns
import_children-returns t c =
    let a = c.args in
    let l = c.loop in
    remaining_done l.invariant.1 (trees_done a.grammar.now a.lent.capacity a.lent.room a.bytes.now l.at a.step a.count l.counter (filling_of l.t) c.loop-test.false)

pub import_tuple-close_row-requires : goal.import_tuple-close_row-requires
import_tuple-close_row-requires t c =
    let a = c.args in
    let p = c.requires in
    counted-children a.grammar.now a.bytes.now a.lent a.s (child_place a.grammar.now a.node) 1 c.word-count.result c.import_tuple_contents-read.result p.node.table p.ready (omega (arith, p.claimed)) (omega arith) c.import_tuple_contents-read.ensures

pub import_tuple-returns : goal.import_tuple-returns
import_tuple-returns t c =
    arm_tuple c.requires refl c.word-count.result c.word-count.ensures.0 c.import_tuple_contents-read.ensures c.close_row.ensures.0 c.close_row.ensures.1

pub import_tuple_contents-import_children-requires : goal.import_tuple_contents-import_children-requires
import_tuple_contents-import_children-requires t c =
    let a = c.args in
    (omega (arith, c.decreases), (rw c.child_place-place.ensures.0 (children-tuple a.grammar.now a.node c.requires.0 a.count c.requires.1), c.requires.2))

pub import_tuple_contents-returns : goal.import_tuple_contents-returns
import_tuple_contents-returns t c =
    rw c.child_place-place.ensures.0 at c.import_children.ensures

-- a row was claimed
claimed : (t : ℕ) (c : import_value-After-of_word t) → Claimed c.args.lent.capacity c.args.s c.in_ok-t.t
claimed t c = claimed-next c.args.lent.capacity c.args.s c.in_ok-t.t c.in_ok-t.ensures.0 c.in_ok-t.ensures.1

-- behind it: what the reader of a value without children asks
leaf_asked : (t : ℕ) (c : import_value-After-of_word t) → let a = c.args in (c.in_ok-t.t.at ≤ length a.bytes.now) × (length a.bytes.now ≤ 1048576) × (c.in_ok-t.t.size ≤ most_size)
leaf_asked t c =
    let r = ready-claimed c.args.s c.in_ok-t.t c.requires.1 (claimed t c) in
    (r.inside, r.short, omega (arith, r.sized, r.inside, r.short, r.few, r.most))

-- and of a parent, its row claimed
parent_asked : (t : ℕ) (c : import_value-After-of_word t) {k : Kind} → let a = c.args in let u = c.in_ok-t.t in kind_of (kind_word a.grammar.now a.node) ≡ k → (4 * (a.lent.capacity - u.begun) + 3 < t) × RowClaimed a.grammar.now a.bytes.now a.rows.now a.store.now a.node k a.s.begun a.lent u
parent_asked t c e =
    let a = c.args in
    let q = claimed t c in
    (omega (arith, c.decreases, q.begun, q.free), record { node = c.requires.0; kind = e; ready = ready-claimed a.s c.in_ok-t.t c.requires.1 q; claimed = q.begun; sized = omega (arith, q.at, q.size, c.requires.1.sized) })

-- what a reader brings, the value brings
brought : (t : ℕ) (c : import_value-After-of_word t) {r : CodeStep} {rows₁ store₁ : List ℕ} → let a = c.args in let u = c.in_ok-t.t in let g = tree_of a.grammar.now a.node in Brings rows_in store_of SizeOfV (import_body a.lent.capacity a.lent.room a.bytes.now g (filling_of u)) a.s.begun u.used u.size a.rows.now a.store.now r rows₁ store₁ → Brings rows_in store_of SizeOfV (import_val a.lent.capacity a.lent.room a.bytes.now g (filling_of a.s)) a.s.begun a.s.used a.s.size a.rows.now a.store.now r rows₁ store₁
brought t c h =
    let a = c.args in
    arm_body a.lent.capacity a.lent.room a.bytes.now (tree_of a.grammar.now a.node) a.s c.in_ok-t.t (claimed t c) h

-- of a value without children, by its kind
leaf_brought : (t : ℕ) (c : import_value-After-of_word t) {k : Kind} {r : CodeStep} {rows₁ store₁ : List ℕ} → let a = c.args in kind_of (kind_word a.grammar.now a.node) ≡ k → let u = c.in_ok-t.t in let gs = child_trees a.grammar.now (tree_of a.grammar.now) (first_word a.grammar.now a.node) (count_word a.grammar.now a.node) in Brings rows_in store_of SizeOfV (import_body a.lent.capacity a.lent.room a.bytes.now (node_tree k gs) (filling_of u)) a.s.begun u.used u.size a.rows.now a.store.now r rows₁ store₁ → Brings rows_in store_of SizeOfV (import_val a.lent.capacity a.lent.room a.bytes.now (tree_of a.grammar.now a.node) (filling_of a.s)) a.s.begun a.s.used a.s.size a.rows.now a.store.now r rows₁ store₁
leaf_brought t c {k} e h = brought t c (rw (kind_tree c.args.grammar.now c.args.node c.requires.0, e) h)

pub import_value-import_number-requires : goal.import_value-import_number-requires
import_value-import_number-requires t c = leaf_asked t (goal.at.import_value-import_number-requires t c).After-of_word

pub import_value-import_elements-requires : goal.import_value-import_elements-requires
import_value-import_elements-requires t c = leaf_asked t (goal.at.import_value-import_elements-requires t c).After-of_word

pub import_value-import_array-requires : goal.import_value-import_array-requires
import_value-import_array-requires t c =
    parent_asked t (goal.at.import_value-import_array-requires t c).After-of_word (sym (rw (c.in-Some-Array.field-0-is, c.word.ensures.0) at c.in-Some-Array.ensures))

pub import_value-import_tuple-requires : goal.import_value-import_tuple-requires
import_value-import_tuple-requires t c =
    parent_asked t (goal.at.import_value-import_tuple-requires t c).After-of_word (sym (rw (c.in-Some-Tuple.field-0-is, c.word.ensures.0) at c.in-Some-Tuple.ensures))

pub import_value-import_case-requires : goal.import_value-import_case-requires
import_value-import_case-requires t c =
    parent_asked t (goal.at.import_value-import_case-requires t c).After-of_word (sym (rw (c.in-Some-Union.field-0-is, c.word.ensures.0) at c.in-Some-Union.ensures))

pub import_value-refuse_kind-requires : goal.import_value-refuse_kind-requires
import_value-refuse_kind-requires t c = omega (arith, (node-few c.args.grammar.now c.args.node c.requires.0).0)

pub import_value-returns-in_err-t : goal.import_value-returns-in_err-t
import_value-returns-in_err-t t c =
    let a = c.args in
    let p = err_from_is_err_and c.from_residual.result c.from_residual.ensures.1 in
    rw (p.1, p.2) (arm_refused a.lent.capacity a.lent.room a.bytes.now (tree_of a.grammar.now a.node) a.s c.in_err-t.field-0.0 c.in_err-t.ensures.0)

pub import_value-returns-in-Some-Constant : goal.import_value-returns-in-Some-Constant
import_value-returns-in-Some-Constant t c =
    let a = c.args in
    leaf_brought t (goal.at.import_value-returns-in-Some-Constant t c).After-of_word (sym (rw (c.in-Some-Constant.field-0-is, c.word.ensures.0) at c.in-Some-Constant.ensures))
    (arm_constant a.lent.capacity a.lent.room a.bytes.now c.in_ok-t.t _ c.import_constant.ensures.0 c.import_constant.ensures.1)

pub import_value-returns-in-Some-Number : goal.import_value-returns-in-Some-Number
import_value-returns-in-Some-Number t c =
    let a = c.args in
    leaf_brought t (goal.at.import_value-returns-in-Some-Number t c).After-of_word (sym (rw (c.in-Some-Number.field-0-is, c.word.ensures.0) at c.in-Some-Number.ensures))
    (arm_number a.lent.capacity a.lent.room a.bytes.now c.in_ok-t.t _ (number_named c.in-Some-Number.number) (c.import_number.ensures a.store.now))

pub import_value-returns-in-Some-Elements : goal.import_value-returns-in-Some-Elements
import_value-returns-in-Some-Elements t c =
    let a = c.args in
    leaf_brought t (goal.at.import_value-returns-in-Some-Elements t c).After-of_word (sym (rw (c.in-Some-Elements.field-0-is, c.word.ensures.0) at c.in-Some-Elements.ensures))
    (arm_elements a.lent.capacity a.lent.room a.bytes.now c.in_ok-t.t _ (elements_named c.in-Some-Elements.elements) c.import_elements.ensures)

pub import_value-returns-in-Some-Array : goal.import_value-returns-in-Some-Array
import_value-returns-in-Some-Array t c = brought t (goal.at.import_value-returns-in-Some-Array t c).After-of_word c.import_array.ensures

pub import_value-returns-in-Some-Tuple : goal.import_value-returns-in-Some-Tuple
import_value-returns-in-Some-Tuple t c = brought t (goal.at.import_value-returns-in-Some-Tuple t c).After-of_word c.import_tuple.ensures

pub import_value-returns-in-Some-Union : goal.import_value-returns-in-Some-Union
import_value-returns-in-Some-Union t c = brought t (goal.at.import_value-returns-in-Some-Union t c).After-of_word c.import_case.ensures

pub import_value-returns-in-None : goal.import_value-returns-in-None
import_value-returns-in-None t c =
    let n = c.requires.0 in
    absurd (node-named c.args.grammar.now n.table.passes c.args.node n.below (sym (rw c.word.ensures.0 at c.in-None.ensures)))
