-- The loop's invariant: there is room for all numbers, and exactly the first i are put.
use Rattle.std.proofs.Common.{◌≤◌, ◌+◌, ◌*◌, length, map as map_list}
use Rattle.packed.specs.Steps.{PackedTo}
use Rattle.packing.proofs.pack_little_endian_seq_into_array.Given as goal

abbrev pub invariant-loop-i : goal.invariant-loop-i
invariant-loop-i g l =
    let T = g.T.PackedInt in
    record {
      room : l.index + T.WIDTH * length l.numbers ≤ length l.out;
      packed : PackedTo T.WIDTH (map_list T.number l.numbers) l.initial.out l.index l.i l.out;
    }
