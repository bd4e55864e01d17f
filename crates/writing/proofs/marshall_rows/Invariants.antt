-- The loop's invariant: exactly the own bytes of the first i rows are put.
use Rattle.std.proofs.Common.{◌≡◌, ◌+◌}
use Rattle.packed.specs.Packed.{put}
use Rattle.rows.specs.Size.{bytes_from, size_from}
use Rattle.writing.proofs.marshall_rows.Given as goal

abbrev pub invariant-loop-i : goal.invariant-loop-i
invariant-loop-i l = (l.at ≡ l.index + size_from l.rows 0 l.i) × (l.out ≡ put l.initial.out l.index (bytes_from l.rows l.store 0 l.i))
