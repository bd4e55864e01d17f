use Rattle.std.proofs.Common.{◌≡◌, ◌+◌, ◌-◌, ◌≤◌, sym, ◌∙◌, take, drop, arith}
use Rattle.previewing.specs.Preview.{differing}
use Rattle.previewing.proofs.Differing.{differing-none, front-most, differing_cut, next-block}
use Rattle.previewing.proofs.count_differing.Goals as goal

pub loop-k-init : goal.loop-k-init
loop-k-init c = (omega arith, sym (differing-none c.args.a.now))

pub overflow_add-changed : goal.overflow_add-changed
overflow_add-changed c =
    let l = c.loop-k in
    let m : l.changed ≤ l.k = front-most _ _ _ l.invariant.1 in
    let n : c.count_block.result ≤ l.k + c.min-size.result - l.k = front-most _ _ _ c.count_block.ensures in
    omega (arith, c.from-changed.ensures, c.min-size.ensures)

pub loop-k-preserved : goal.loop-k-preserved
loop-k-preserved c =
    let a = c.args.a.now in
    let b = c.args.b.now in
    let l = c.loop-k in
    let size = c.min-size.result in
    let e : l.k + size - l.k ≡ size = omega arith in
    let n : c.count_block.result ≡ differing (drop l.k a) (take size (drop l.k b)) = (rw e at c.count_block.ensures) ∙ differing_cut size (drop l.k a) (drop l.k b) in
    (omega (arith, c.min-size.ensures), omega (arith, l.invariant.1, c.from-changed.ensures, n, next-block a b l.k size (omega arith)))
