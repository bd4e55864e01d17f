-- The loop's invariant: the children that are left have passed, and their sizes and the sum are the whole.
use Rattle.std.proofs.Common.{◌≡◌, ◌+◌, ◌-◌}
use Rattle.rows.specs.Size.{child_sizes, ChildrenHold}
use Rattle.rows.proofs.compute_seq_sum.Given as goal

abbrev pub invariant-loop : goal.invariant-loop
invariant-loop l = let left = l.count - l.counter in ChildrenHold l.rows left l.i × (l.sum + child_sizes l.rows left l.i ≡ child_sizes l.rows l.count l.first)
