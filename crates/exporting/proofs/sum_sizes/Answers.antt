use Rattle.std.proofs.Common.{◌≡◌, ap, arith, ◌∙◌}
use Rattle.rows.specs.Size.{most_own_size, sum_from}
use Rattle.rows.proofs.Loop.{size_none, size-next, size_below}
use Rattle.exporting.specs.Own.{own_xdr_size}
use Rattle.exporting.proofs.sum_sizes.Goals as goal

pub loop-i-init : goal.loop-i-init
loop-i-init c = size_none own_xdr_size c.args.rows.now 0

pub own_size-sum-requires : goal.own_size-sum-requires
own_size-sum-requires c = c.requires.1 c.loop-i.i c.loop-i-test.true

pub overflow_add-sum : goal.overflow_add-sum
overflow_add-sum c =
    let t = c.args.rows.now in
    let small = c.requires.1 in
    let i = c.loop-i.i in
    omega (arith, c.own_size-sum.ensures, small i c.loop-i-test.true, size_below own_xdr_size t most_own_size c.args.n i (omega arith) small)

pub loop-i-preserved : goal.loop-i-preserved
loop-i-preserved c = omega (arith, c.own_size-sum.ensures, size-next own_xdr_size c.args.rows.now c.loop-i.i)

pub returns : goal.returns
returns c =
    let e : c.loop-i.i ≡ c.args.n = omega arith in
    c.loop-i.invariant ∙ ap (sum_from own_xdr_size c.args.rows.now 0) e
