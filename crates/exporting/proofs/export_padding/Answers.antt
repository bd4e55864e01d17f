use Rattle.std.proofs.Common.{ℕ, ◌+◌, arith, ap, ◌∙◌}
use Rattle.xdr.proofs.Sizes.{padding-few}
use Rattle.exporting.proofs.Exporting.{zeros-none, zeros-next, zeros-all, zeros-put}
use Rattle.exporting.proofs.export_padding.Goals as goal
use Rattle.exporting.proofs.export_padding.Goals.{then-i-count, else-i-count}

pub loop-i-init : goal.loop-i-init
loop-i-init c =
    (omega (arith, padding-few c.args.size, c.padding-count.ensures), omega (arith, c.requires, c.padding-count.ensures), zeros-none c.args.out.now c.args.index c.padding-count.result)

pub loop-i-preserved : goal.loop-i-preserved
loop-i-preserved c =
    let a = c.args in
    let l = c.loop-i in (
      l.invariant.0,
      l.invariant.1,
      elim c.if-i-count.branch [
        | then-i-count w ↦ w.out-is ∙ zeros-next a.out.now l.out a.index _ l.i l.invariant.2 w.if-i-count.true l.invariant.1
        | else-i-count w ↦ w.out-is ∙ zeros-all a.out.now l.out a.index _ l.i l.invariant.2 w.if-i-count.false
      ],
    )

pub returns : goal.returns
returns c =
    let a = c.args in
    let p = c.padding-count.ensures in
    let l = c.loop-i in
    (ap (λ (n : ℕ). a.index + n) p, zeros-put a.out.now l.out a.index _ l.i l.invariant.2 (omega (arith, l.invariant.0)) p)
