-- The loop's invariant: after i rows the sum is that of these i.
use Rattle.std.proofs.Common.{◌≡◌}
use Rattle.rows.specs.Size.{sum_from}
use Rattle.exporting.specs.Own.{own_xdr_size}
use Rattle.exporting.proofs.sum_sizes.Given as goal

abbrev pub invariant-loop-i : goal.invariant-loop-i
invariant-loop-i l = l.sum ≡ sum_from own_xdr_size l.rows 0 l.i
