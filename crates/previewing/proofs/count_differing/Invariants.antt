-- The loop's invariant: `changed` counts the first k places.
use Rattle.std.proofs.Common.{◌≡◌, ◌-◌, ◌≤◌, length, take}
use Rattle.previewing.specs.Preview.{differing}
use Rattle.previewing.proofs.count_differing.Given as goal

abbrev pub invariant-loop-k : goal.invariant-loop-k
invariant-loop-k l = (l.k ≤ length l.b) × (l.changed ≡ differing l.a (take l.k l.b))

abbrev pub decreases-loop-k : goal.decreases-loop-k
decreases-loop-k l = length l.b - l.k
