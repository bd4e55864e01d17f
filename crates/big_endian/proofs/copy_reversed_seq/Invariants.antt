-- The loop's invariant: there is room for all numbers, and exactly the first i are put, each turned round.
use Rattle.std.proofs.Common.{◌≡◌, ◌+◌, ◌*◌, ◌≤◌, length}
use Rattle.packed.specs.Packed.{put}
use Rattle.big_endian.specs.BigEndian.{reverse_each}
use Rattle.big_endian.proofs.copy_reversed_seq.Given as goal

abbrev pub invariant-loop-i : goal.invariant-loop-i
invariant-loop-i g l =
    record {
      inside : l.width * l.count ≤ length l.src;
      room : l.index + l.width * l.count ≤ length l.initial.out;
      copied : l.out ≡ put l.initial.out l.index (reverse_each l.width l.src l.i);
    }
