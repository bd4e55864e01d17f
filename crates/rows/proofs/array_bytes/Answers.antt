use Rattle.std.proofs.Common.{◌+◌, ◌≤◌, length, arith}
use Rattle.rows.proofs.Calls.{locate_within}
use Rattle.rows.proofs.array_bytes.Goals as goal
use Rattle.rows.proofs.array_bytes.Goals.{In-Ok}

-- where the locator finds the array, it lies within the store
inside : (c : In-Ok) → c.in-Ok.part.start + c.in-Ok.part.size ≤ length c.args.store.now
inside c =
    let a = c.args in
    locate_within a.rows.now a.n a.store.now a.row _ (λ j _. (c.type_inv.rows j).fits) (λ j. (c.type_inv.store j).fits) c.in-Ok.ensures

pub overflow_add-result : goal.overflow_add-result
overflow_add-result c = omega (arith, inside (goal.at.overflow_add-result c).In-Ok)

pub slice_bounds-result-end : goal.slice_bounds-result-end
slice_bounds-result-end c = omega (arith, inside (goal.at.slice_bounds-result-end c).In-Ok)
