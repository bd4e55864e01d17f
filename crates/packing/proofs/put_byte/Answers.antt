use Rattle.std.proofs.Common.{arith}
use Rattle.packed.proofs.Laws.{pow_256}
use Rattle.packed.proofs.Steps.{in_order}
use Rattle.packing.proofs.put_byte.Goals as goal

pub nonzero_div-out : goal.nonzero_div-out
nonzero_div-out c = omega (arith, pow_256 c.args.i)

pub returns : goal.returns
returns c =
    let a = c.args in
    rw c.requires.1 (in_order.puts a.n a.out.now a.index a.i a.out.now c.requires.0 c.requires.2)
