-- The loop's invariant: there is room for all bytes, and exactly the first i are put.
use Rattle.std.proofs.Common.{◌≡◌, ◌+◌, ◌≤◌, length, take}
use Rattle.packed.specs.Packed.{put}
use Rattle.packing.proofs.copy_seq_into_array.Given as goal

abbrev pub invariant-loop-i : goal.invariant-loop-i
invariant-loop-i l = record { room : l.index + length l.src ≤ length l.initial.out; copied : l.out ≡ put l.initial.out l.index (take l.i l.src) }
