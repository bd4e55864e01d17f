use Rattle.std.proofs.Common.{◌+◌, ◌≤◌, ap, sym, ◌∙◌, ℕ, arith}
use Rattle.previewing.proofs.Differing.{differing-none, front-most, next-equal, next-different}
use Rattle.previewing.proofs.count_block.Goals as goal
use Rattle.previewing.proofs.count_block.Goals.{then-a-i, else-a-i}

pub loop-i-init : goal.loop-i-init
loop-i-init c = sym (differing-none c.args.a.now)

pub overflow_add-changed : goal.overflow_add-changed
overflow_add-changed c =
    let l = c.loop-i in
    let m : l.changed ≤ l.i = front-most _ _ _ l.invariant in
    omega arith

pub loop-i-preserved : goal.loop-i-preserved
loop-i-preserved c =
    let a = c.args in
    let l = c.loop-i in
    elim c.if-a-i.branch [ then-a-i w ↦ w.changed-is ∙ ap (λ (n : ℕ). n + 1) l.invariant ∙ sym (next-different a.a.now a.b.now l.i (omega arith) (omega arith) w.if-a-i.true) | else-a-i w ↦ w.changed-is ∙ l.invariant ∙ sym (next-equal a.a.now a.b.now l.i (omega arith) (omega arith) w.if-a-i.false) ]
