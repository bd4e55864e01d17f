-- The loop's invariant: exactly the own XDR bytes of the first i rows are put.
use Rattle.std.proofs.Common.{◌≡◌, ◌+◌}
use Rattle.packed.specs.Packed.{put}
use Rattle.rows.specs.Size.{own_from, sum_from}
use Rattle.exporting.specs.Own.{own_xdr, own_xdr_size}
use Rattle.exporting.proofs.export_rows.Given as goal

abbrev pub invariant-loop-i : goal.invariant-loop-i
invariant-loop-i l = (l.at ≡ l.index + sum_from own_xdr_size l.rows 0 l.i) × (l.out ≡ put l.initial.out l.index (own_from own_xdr l.rows l.store 0 l.i))
