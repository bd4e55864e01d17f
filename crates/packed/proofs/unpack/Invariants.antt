-- The loop's invariant: after i bytes `sum` is the sum of these i, and the next weight is that of byte i.
use Rattle.std.proofs.Common.{◌≡◌, ◌*◌, ◌^◌}
use Rattle.packed.specs.Steps.{Summed}
use Rattle.packed.proofs.unpack.Given as goal

abbrev pub invariant-loop-i : goal.invariant-loop-i
invariant-loop-i l = record { weight : l.weight * 256 ≡ 256 ^ l.i; sum : Summed l.packed l.index l.i l.sum }
