-- The loop's invariant: after i bytes exactly the first i bytes of n are put, and the next weight is that of byte i.
use Rattle.std.proofs.Common.{◌≡◌, ◌*◌, ◌^◌}
use Rattle.packed.specs.Steps.{PutSoFar}
use Rattle.packing.proofs.pack.Given as goal

abbrev pub invariant-loop-i : goal.invariant-loop-i
invariant-loop-i l = record { weight : l.weight * 256 ≡ 256 ^ l.i; put : PutSoFar l.n l.fn.out l.index l.i l.out }
