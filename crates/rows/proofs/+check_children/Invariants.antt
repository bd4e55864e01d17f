-- The rows up to the end fall with each level; the loop's invariant: what is left of the children from row i on decides the whole.
use Rattle.std.proofs.Common.{◌≡◌, ◌-◌, ◌≤◌}
use Rattle.rows.proofs.Laws.{ends, children_of}
use Rattle.rows.proofs.+check_children.Given as goal

abbrev pub decreases-check_children : goal.decreases-check_children
decreases-check_children l = l.end - l.first

abbrev pub invariant-loop : goal.invariant-loop
invariant-loop l = (l.first ≤ l.i) × (l.i ≤ l.end) × (ends (children_of l.rows l.store l.parent l.end (l.count - l.counter) l.i) ≡ ends (children_of l.rows l.store l.parent l.end l.count l.first))
