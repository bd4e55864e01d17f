use Rattle.std.proofs.Common.{◌+◌, ◌*◌, length, arith, sym, map as map_list, length-set}
use Rattle.std.proofs.lemmas.List.{length-map, map-set}
use Rattle.packed.specs.Packed.{unpack_little_endian_seq}
use Rattle.packed.specs.Steps.{Summed}
use Rattle.packed.proofs.Steps.{summed-fits}
use Rattle.packed.proofs.Put.{put-nothing, unpack_seq_next}
use Rattle.packed.proofs.Calls.{present-fits, unpack_seq_accepted}
use Rattle.packed.proofs.unpack_little_endian_seq.Goals as goal

pub loop-i-init : goal.loop-i-init
unfolding unpack_little_endian_seq
loop-i-init g c =
    let a = c.args in (
      rw (sym c.WIDTH.ensures) (present-fits (length a.packed.now) a.index (c.WIDTH.result * length a.numbers.now) c.in_ok-present.ensures),
      sym (put-nothing (map_list g.T.PackedInt.number a.numbers.now) 0),
    )

pub loop-i-preserved : goal.loop-i-preserved
loop-i-preserved g c =
    let a = c.args in
    let l = c.loop-i in
    let T = g.T.PackedInt in
    let at = a.index + T.WIDTH * l.i in
    let summed : Summed a.packed.now at T.WIDTH c.unpack.result = rw (c.WIDTH-in-loop-i.ensures, c.WIDTH-in-loop-i-2.ensures) at c.unpack.ensures in
    let fits = summed-fits T.WIDTH a.packed.now at (λ j. (c.type_inv.packed j).fits) summed in (
      rw length-set l.invariant.0,
      rw (map-set, c.from_u64.ensures, fits) (unpack_seq_next T.WIDTH a.packed.now (map_list T.number a.numbers.now) (map_list T.number l.numbers) a.index l.i c.unpack.result l.invariant.1 (simp length-map (omega arith)) summed),
    )

pub returns : goal.returns
returns g c =
    let a = c.args in
    let l = c.loop-i in
    let T = g.T.PackedInt in
    let numbers = map_list T.number a.numbers.now in
    simp length-map at (unpack_seq_accepted T.WIDTH a.packed.now a.index numbers l.i (simp length-map (omega arith)) l.invariant.1 (simp length-map (rw (sym c.WIDTH.ensures) c.in_ok-present.ensures)))
