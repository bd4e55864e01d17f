use Rattle.std.proofs.Common.{arith}
use Rattle.std.proofs.lemmas.Grind.{common_steps}
use Rattle.text.proofs.Lines.{pushed}
use Rattle.text.proofs.Text.+push_digits.Goals as goal

pub push-requires-2 : goal.push-requires-2
push-requires-2 t c = grind (arith, common_steps, pushed)

pub returns : goal.returns
returns t c = grind (arith, common_steps, pushed)
