use Rattle.std.proofs.Common.{arith, length, rules, ◌*◌, mul-one}
use Rattle.packed.specs.Steps.{PutSoFar}
use Rattle.packed.proofs.Laws.{length_pack}
use Rattle.packed.proofs.Calls.{room_fits}
use Rattle.packed.proofs.Steps.{pack_accepted}
use Rattle.packing.proofs.pack_little_endian_into_array.Goals as goal

pub pack-requires : goal.pack-requires
pack-requires g c =
    let w = g.met.T.PackedInt.width_within in
    let h = room_fits (length c.args.out.now) c.args.index (c.WIDTH.result * 1) c.in_ok-room.ensures in
    (omega (arith, w), omega (arith, w), omega (arith, h))

pub returns-in_err-room : goal.returns-in_err-room
returns-in_err-room g c = simp length_pack (search rules)

pub returns : goal.returns
returns g c =
    let a = c.args in
    let T = g.T.PackedInt in
    let put : PutSoFar (T.number a.n) a.out.now a.index T.WIDTH c.pack.new.out = rw (c.to_u64.ensures, c.WIDTH-2.ensures) at c.pack.ensures in
    pack_accepted T.WIDTH (T.number a.n) a.out.now a.index (simp (c.WIDTH.ensures, mul-one) at c.in_ok-room.ensures) put
