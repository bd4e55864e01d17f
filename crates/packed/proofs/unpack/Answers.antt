use Rattle.std.proofs.Common.{◌*◌, ◌^◌, ◌<◌, arith, rules}
use Rattle.packed.specs.Packed.{unpack_little_endian}
use Rattle.packed.proofs.Laws.{weight_fits}
use Rattle.packed.proofs.unpack.Goals as goal

pub add_byte-sum-requires : goal.add_byte-sum-requires
unfolding unpack_little_endian
add_byte-sum-requires c = search rules

pub overflow_mul-weight : goal.overflow_mul-weight
overflow_mul-weight c =
    let l = c.loop-i in
    let next : l.weight * 256 < 2 ^ 64 = rw l.invariant.weight (weight_fits l.i (omega arith)) in
    record { fits = next }

pub add_byte-sum-requires-in-loop-i : goal.add_byte-sum-requires-in-loop-i
add_byte-sum-requires-in-loop-i c = (omega arith, omega arith, c.loop-i.invariant.weight, c.loop-i.invariant.sum)
