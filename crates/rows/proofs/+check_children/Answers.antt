use Rattle.std.proofs.Common.{◌≡◌, ℕ, ◌+◌, ◌-◌, ◌^◌, length, eqb, ap, ◌∙◌, arith}
use Rattle.std.proofs.lemmas.Result.{err_from_is_err_and}
use Rattle.refusal.specs.Outcome.{accepted, refused, test, reason, Reason, row}
use Rattle.packed.specs.Packed.{Bytes, Below}
use Rattle.tables.specs.Row.{row_at}
use Rattle.value.specs.Kinds.{kind_of}
use Rattle.rows.specs.Walk.{walk_row}
use Rattle.rows.proofs.Laws.{ends, Passed, row_passed, children_of, row-refused, children-refused, child_missing, child_refused, child_accepted, childless, children_done}
use Rattle.rows.proofs.Size.{own_most, children_hold_lem, size_decides}
use Rattle.rows.proofs.+check_children.Goals as goal
use Rattle.rows.proofs.+check_children.Goals.{In_ok-inner, Joined-inner-gt0, After-size_holds, then-inner-gt0+in_ok-check_children, else-inner-gt0+else-i-next}

pub returns-then-end-i : goal.returns-then-end-i
returns-then-end-i t c =
    let a = c.args in
    let l = c.loop in
    ap refused c.at_row.ensures ∙ child_missing a.rows.now a.store.now a.parent a.end (a.count - l.counter) l.i (omega arith) c.if-end-i.true ∙ l.invariant.2

pub returns-in_err-inner : goal.returns-in_err-inner
returns-in_err-inner t c =
    let a = c.args in
    let l = c.loop in
    let p = err_from_is_err_and c.from_residual.result c.from_residual.ensures.1 in
    rw (p.1, p.2) (child_refused a.rows.now a.store.now a.parent a.end (a.count - l.counter) l.i (omega arith) c.if-end-i.false
    (row-refused a.rows.now a.store.now a.end l.i c.if-end-i.false c.in_err-inner.ensures) ∙ l.invariant.2)

-- a child that passes by itself
reach : (t : ℕ) (c : In_ok-inner t) →
    let a = c.args in
    let i = c.loop.i in
    Passed (row_at a.rows.now i) (length a.store.now) i a.end c.in_ok-inner.inner
reach t c = row_passed _ _ _ _ _ c.in_ok-inner.ensures

pub overflow_add-next : goal.overflow_add-next
overflow_add-next t c = omega (arith, (reach t c).reach, c.span_at-span.ensures, c.ranges.end)

pub check_children-requires : goal.check_children-requires
check_children-requires t c =
    let p = reach t (goal.at.check_children-requires t c).In_ok-inner in
    let e = c.span_at-span.ensures in
    (omega (arith, p.some, p.reach), (omega (arith, p.some), omega (arith, p.reach, c.requires.1), c.requires.2))

pub returns-in_err-check_children : goal.returns-in_err-check_children
returns-in_err-check_children t c =
    let a = c.args in
    let l = c.loop in
    let p = err_from_is_err_and c.from_residual-in_err-check_children.result c.from_residual-in_err-check_children.ensures.1 in
    rw (p.1, p.2) (child_refused a.rows.now a.store.now a.parent a.end (a.count - l.counter) l.i (omega arith) c.if-end-i.false
    (children-refused a.rows.now a.store.now a.end l.i c.if-end-i.false c.in_ok-inner.ensures (rw c.span_at-span.ensures at c.in_err-check_children.ensures)) ∙ l.invariant.2)

-- behind the branch its children have passed, or it has none
joined : (t : ℕ) (c : Joined-inner-gt0 t) →
    let a = c.args in
    let i = c.loop.i in
    accepted tt ≡ ends (children_of a.rows.now a.store.now i (i + (row_at a.rows.now i).span) c.in_ok-inner.inner (i + 1))
joined t c =
    let a = c.args in
    let i = c.loop.i in
    let p = reach t (goal.at.Joined-inner-gt0 t c).In_ok-inner in
    let e = c.span_at-span.ensures in
    elim c.if-inner-gt0.branch [ then-inner-gt0+in_ok-check_children w ↦ rw e at w.in_ok-check_children.ensures | else-inner-gt0+else-i-next w ↦ childless a.rows.now a.store.now i c.in_ok-inner.inner (i + (row_at a.rows.now i).span) (omega (arith, p.some)) w.if-inner-gt0.false (omega arith) ]

-- what the slices hold
words : (t : ℕ) (c : Joined-inner-gt0 t) → Below (2 ^ 64) c.args.rows.now
words t c j _ = (c.type_inv.rows j).fits

bytes : (t : ℕ) (c : Joined-inner-gt0 t) → Bytes c.args.store.now
bytes t c j = (c.type_inv.store j).fits

pub size_holds-requires : goal.size_holds-requires
size_holds-requires t c =
    let a = c.args in
    let l = c.loop in
    let d = reach t (goal.at.size_holds-requires t c).In_ok-inner in (
      own_most (kind_of (row_at a.rows.now l.i).kind) (row_at a.rows.now l.i) (length a.store.now) d.within c.requires.2,
      children_hold_lem a.rows.now a.store.now (words t c) (bytes t c) l.i (l.i + (row_at a.rows.now l.i).span) _ (omega (arith, d.some)) (omega (arith, d.reach, c.requires.1)) c.requires.2 (joined t c),
    )

-- the size decides whether it is accepted
decided : (t : ℕ) (c : After-size_holds t) →
    let a = c.args in
    let i = c.loop.i in
    test c.size_holds.result (reason 13 (row i)) accepted ≡ ends (walk_row a.rows.now a.store.now a.end i)
decided t c =
    let a = c.args in
    let j = (goal.at.After-size_holds t c).Joined-inner-gt0 in
    rw c.size_holds.ensures (size_decides a.rows.now a.store.now (words t j) (bytes t j) a.end c.loop.i c.if-end-i.false c.in_ok-inner.ensures (joined t j))

pub returns-then-not-size_holds : goal.returns-then-not-size_holds
returns-then-not-size_holds t c =
    let a = c.args in
    let l = c.loop in
    let h = rw c.if-not-size_holds.true at (decided t (goal.at.returns-then-not-size_holds t c).After-size_holds) in
    ap refused c.at_row-then-not-size_holds.ensures
    ∙ child_refused a.rows.now a.store.now a.parent a.end (a.count - l.counter) l.i (omega arith) c.if-end-i.false h ∙ l.invariant.2

pub loop-preserved : goal.loop-preserved
loop-preserved t c =
    let a = c.args in
    let l = c.loop in
    let p = reach t (goal.at.loop-preserved t c).In_ok-inner in
    let s = c.span_at-span.ensures in
    let e : a.count - (l.counter + 1) ≡ a.count - l.counter - 1 = omega arith in
    let h = rw c.if-not-size_holds.false at (decided t (goal.at.loop-preserved t c).After-size_holds) in (
      omega (arith, p.some),
      omega (arith, p.reach),
      rw (e, s) (child_accepted a.rows.now a.store.now a.parent a.end (a.count - l.counter) l.i (omega arith) c.if-end-i.false h ∙ l.invariant.2),
    )

pub returns : goal.returns
returns t c =
    let a = c.args in
    let l = c.loop in
    c.accept_if.ensures ∙ ap (λ (e : Reason). test (eqb l.i a.end) e accepted) c.at_row-2.ensures ∙ children_done a.rows.now a.store.now a.parent a.end (a.count - l.counter) l.i (omega arith) ∙ l.invariant.2
