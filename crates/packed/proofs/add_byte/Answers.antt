use Rattle.std.proofs.Common.{◌+◌, ◌*◌, ◌^◌, ◌<◌, arith}
use Rattle.packed.specs.Steps.{Summed}
use Rattle.packed.proofs.Laws.{unpack_fits}
use Rattle.packed.proofs.Steps.{in_order}
use Rattle.packed.proofs.add_byte.Goals as goal
use Rattle.packed.proofs.add_byte.Goals.{After-from}

summed : (c : After-from) → Summed c.args.packed.now c.args.index (c.args.i + 1) (c.args.sum + c.from.result * c.args.weight)
summed c =
    let a = c.args in
    rw (c.from.ensures, c.requires.2) (in_order.adds a.packed.now a.index a.i a.sum c.requires.3)

below : (c : After-from) → c.args.sum + c.from.result * c.args.weight < 2 ^ 64
below c =
    let a = c.args in
    rw (summed c) (unpack_fits a.packed.now a.index a.i (λ j. (c.type_inv.packed j).fits) c.requires.0)

pub overflow_mul-result : goal.overflow_mul-result
overflow_mul-result c = record { fits = omega (arith, below c) }

pub overflow_add-result : goal.overflow_add-result
overflow_add-result c = record { fits = below c }

pub returns : goal.returns
returns c = summed c
