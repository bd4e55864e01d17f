use Rattle.std.proofs.Common.{refl}
use Rattle.importing.proofs.Laws.{claim-next, claim-refused}
use Rattle.importing.proofs.Filling.claim.Goals as goal

pub returns-then-self-capacity : goal.returns-then-self-capacity
returns-then-self-capacity c =
    let s = c.args.self in
    (claim-next s.at s.begun s.used c.args.capacity c.if-self-capacity.true, refl)

pub returns-else-self-capacity : goal.returns-else-self-capacity
returns-else-self-capacity c =
    let s = c.args.self in
    rw c.at_byte.ensures (claim-refused s.at s.begun s.used c.args.capacity c.if-self-capacity.false, tt)
