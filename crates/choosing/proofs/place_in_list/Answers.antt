use Rattle.std.proofs.Common.{ap, arith}
use Rattle.refusal.specs.Meaning.{location_of}
use Rattle.choosing.proofs.place_in_list.Goals as goal

pub overflow_add-start : goal.overflow_add-start
overflow_add-start c = omega (arith, c.requires c.in-Word.at (ap location_of c.in-Word.is))
