use Rattle.std.proofs.Common.{◌≡◌, ◌+◌, ◌-◌, ◌<◌, arith}
use Rattle.rows.proofs.Size.{sizes-next, hold_next, sizes_done}
use Rattle.rows.proofs.compute_seq_sum.Goals as goal

pub overflow_add-sum : goal.overflow_add-sum
overflow_add-sum c =
    let l = c.loop in
    let h : 0 < c.args.count - l.counter = omega arith in
    omega (arith, c.size_at-sum.ensures, l.invariant.1, c.requires.small, sizes-next c.args.rows.now (c.args.count - l.counter) l.i h)

pub overflow_add-i : goal.overflow_add-i
overflow_add-i c =
    let l = c.loop in
    let h : 0 < c.args.count - l.counter = omega arith in
    let p = hold_next c.args.rows.now (c.args.count - l.counter) l.i h l.invariant.0 in
    omega (arith, c.span_at.ensures, p.reach, p.few)

pub loop-preserved : goal.loop-preserved
loop-preserved c =
    let t = c.args.rows.now in
    let l = c.loop in
    let h : 0 < c.args.count - l.counter = omega arith in
    let e : c.args.count - (l.counter + 1) ≡ c.args.count - l.counter - 1 = omega arith in
    rw (e, c.span_at.ensures) (hold_next t (c.args.count - l.counter) l.i h l.invariant.0, omega (arith, c.size_at-sum.ensures, l.invariant.1, sizes-next t (c.args.count - l.counter) l.i h))

pub returns : goal.returns
returns c =
    let l = c.loop in
    omega (arith, l.invariant.1, sizes_done c.args.rows.now (c.args.count - l.counter) l.i (omega arith))
