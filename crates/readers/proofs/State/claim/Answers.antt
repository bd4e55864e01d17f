use Rattle.std.proofs.Common.{refl}
use Rattle.readers.proofs.Laws.{claim-next, claim-stop}
use Rattle.readers.proofs.State.claim.Goals as goal

pub returns-then-self : goal.returns-then-self
returns-then-self c =
    let s = c.args.self in
    (claim-next s.at s.begun s.capacity c.if-self.true, refl)

pub returns-else-self : goal.returns-else-self
returns-else-self c =
    let s = c.args.self in
    rw (c.stop.ensures, c.at_byte.ensures) (claim-stop s.at s.begun s.capacity c.if-self.false, refl)
