-- The readers of the cycle meet their contracts. The measure is the rows still free: four times for a value, one more for children, two for
-- contents, three for an array, a tuple or a case.
use mathlib.Core.Path.{◌≡◌}
use Prim.Native.Nat.{ℕ, ◌+◌, ◌-◌, ◌*◌}
use Rattle.xdr.specs.Import.{import_fields}
use Rattle.importing.specs.Meaning.{filling_of}
use Rattle.importing.specs.Brings.{trees_at}
use Rattle.importing.proofs.Cycle.{Remaining}
use Rattle.importing.proofs.+value_importers.Given as goal

abbrev pub decreases-import_array : goal.decreases-import_array
decreases-import_array l = 4 * (l.lent.capacity - l.s.begun) + 3

abbrev pub decreases-import_array_contents : goal.decreases-import_array_contents
decreases-import_array_contents l = 4 * (l.lent.capacity - l.s.begun) + 2

abbrev pub decreases-import_case : goal.decreases-import_case
decreases-import_case l = 4 * (l.lent.capacity - l.s.begun) + 3

abbrev pub decreases-import_children : goal.decreases-import_children
decreases-import_children l = 4 * (l.lent.capacity - l.s.begun) + 1

abbrev pub decreases-import_tuple : goal.decreases-import_tuple
decreases-import_tuple l = 4 * (l.lent.capacity - l.s.begun) + 3

abbrev pub decreases-import_tuple_contents : goal.decreases-import_tuple_contents
decreases-import_tuple_contents l = 4 * (l.lent.capacity - l.s.begun) + 2

abbrev pub decreases-import_value : goal.decreases-import_value
decreases-import_value l = 4 * (l.lent.capacity - l.s.begun)

abbrev pub invariant-import_children-loop : goal.invariant-import_children-loop
invariant-import_children-loop l =
    let fields = λ (place n : ℕ). import_fields l.lent.capacity l.lent.room l.bytes (trees_at l.grammar place l.step n) in
    (l.at ≡ l.place + l.step * l.counter)
    × Remaining l.bytes l.initial.rows l.initial.store l.lent l.initial.t (fields l.place l.count (filling_of l.initial.t)) l.rows l.store l.t (fields l.at (l.count - l.counter) (filling_of l.t))
