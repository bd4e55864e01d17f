-- The loop's invariant: `changed` counts the first i places.
use Rattle.std.proofs.Common.{◌≡◌, take}
use Rattle.previewing.specs.Preview.{differing}
use Rattle.previewing.proofs.count_block.Given as goal

abbrev pub invariant-loop-i : goal.invariant-loop-i
invariant-loop-i l = l.changed ≡ differing l.a (take l.i l.b)
