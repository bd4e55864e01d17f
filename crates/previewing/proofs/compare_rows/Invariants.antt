-- The loop's invariant: the own bytes of the first i rows are compared.
use Rattle.std.proofs.Common.{◌≡◌, ◌+◌, length, drop}
use Rattle.rows.specs.Size.{bytes_from}
use Rattle.previewing.specs.Preview.{differing}
use Rattle.previewing.proofs.compare_rows.Given as goal

abbrev pub invariant-loop-i : goal.invariant-loop-i
invariant-loop-i l =
    let bs = bytes_from l.rows l.store 0 l.i in
    (l.at ≡ l.index + length bs) × (l.changed ≡ differing (drop l.index l.out) bs)
