use native.Mathlib.Omega.{arith}
use Rattle.readers.proofs.word.Goals as goal

pub overflow_cast-result : goal.overflow_cast-result
overflow_cast-result c = omega (arith, c.type_inv.words c.args.at)

pub returns : goal.returns
returns c = omega (arith, c.type_inv.words c.args.at)
