use Rattle.rows.specs.Size.{own_bytes}
use Rattle.std.proofs.Common.{arith}
use Rattle.previewing.proofs.ComparedLaws.{compared_nothing}
use Rattle.previewing.proofs.compare_row.Goals as goal

pub returns-in-Some-Constant : goal.returns-in-Some-Constant
unfolding own_bytes
returns-in-Some-Constant c = let e = compared_nothing c.args.out.now c.args.at in grind arith
