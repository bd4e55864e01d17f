use mathlib.Core.Path.{refl}
use Rattle.readers.proofs.Root.{within_none}
use Rattle.reading.proofs.try_whole.Goals as goal

pub returns : goal.returns
returns c = let f = c.read.ensures in rw (within_none c.args.capacity 0 refl) (f.answers, f.keeps)
