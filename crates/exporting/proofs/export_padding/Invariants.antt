-- The loop's invariant: i zeros are put, or all.
use Rattle.std.proofs.Common.{◌≡◌, ◌+◌, ◌≤◌, min, length, replicate}
use Rattle.packed.specs.Packed.{put}
use Rattle.exporting.proofs.export_padding.Given as goal

abbrev pub invariant-loop-i : goal.invariant-loop-i
invariant-loop-i l = (l.count ≤ 3) × (l.index + l.count ≤ length l.initial.out) × (l.out ≡ put l.initial.out l.index (replicate (min l.i l.count) 0))
