use Rattle.std.proofs.Common.{◌*◌, length, arith}
use Rattle.packed.specs.Steps.{Summed}
use Rattle.packed.proofs.Steps.{summed-fits, unpack_accepted}
use Rattle.packed.proofs.Calls.{present-all, present-fits}
use Rattle.packed.proofs.unpack_little_endian.Goals as goal

pub unpack-requires : goal.unpack-requires
unpack-requires g c =
    let a = c.args in
    let w = g.met.T.PackedInt.width_within in
    let h = present-fits (length a.packed.now) a.index (c.WIDTH.result * 1) c.in_ok-present.ensures in
    (omega (arith, w), omega (arith, w), omega (arith, h))

pub returns : goal.returns
returns g c =
    let a = c.args in
    let w = g.T.PackedInt.WIDTH in
    let summed : Summed a.packed.now a.index w c.unpack.result = rw c.WIDTH-2.ensures at c.unpack.ensures in
    rw (c.from_u64.ensures, summed-fits w a.packed.now a.index (λ j. (c.type_inv.packed j).fits) summed)
    (unpack_accepted w a.packed.now a.index (present-all (length a.packed.now) a.index w (omega (arith, present-fits (length a.packed.now) a.index (c.WIDTH.result * 1) c.in_ok-present.ensures))) summed)
