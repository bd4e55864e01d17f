-- The loop's invariant: the bytes of all numbers are there, and the first i are unpacked.
use Rattle.std.proofs.Common.{◌≤◌, ◌+◌, ◌*◌, length, map as map_list}
use Rattle.packed.specs.Steps.{UnpackedTo}
use Rattle.packed.proofs.unpack_little_endian_seq.Given as goal

abbrev pub invariant-loop-i : goal.invariant-loop-i
invariant-loop-i g l =
    let T = g.T.PackedInt in
    (l.index + T.WIDTH * length l.numbers ≤ length l.packed)
    × UnpackedTo T.WIDTH l.packed l.index (map_list T.number l.initial.numbers) l.i (map_list T.number l.numbers)
