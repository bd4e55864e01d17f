use Rattle.std.proofs.Common.{refl}
use Rattle.std.proofs.lemmas.Result.{err_from_is_err_and}
use Rattle.readers.specs.Meaning.{state_of}
use Rattle.readers.proofs.Cycle.{below_stopped, below-number, below_limit}
use Rattle.readers.proofs.State.take_below.Goals as goal

pub returns-in_err-n : goal.returns-in_err-n
returns-in_err-n c =
    let a = c.args in
    let p = err_from_is_err_and c.from_residual.result c.from_residual.ensures.1 in
    rw (p.1, p.2) (below_stopped a.bytes.now a.limit a.number (state_of a.self) c.in_err-n.ensures.0, c.in_err-n.ensures.1)

pub returns-then-n-limit : goal.returns-then-n-limit
returns-then-n-limit c =
    let a = c.args in
    (below-number a.bytes.now a.limit a.number (state_of a.self) c.in_ok-n.n (state_of c.in_ok-n.next) c.in_ok-n.ensures.0 c.if-n-limit.true, c.in_ok-n.ensures.1)

pub returns-else-n-limit : goal.returns-else-n-limit
returns-else-n-limit c =
    let a = c.args in
    rw (c.stop.ensures, c.at_byte.ensures) (below_limit a.bytes.now a.limit a.number (state_of a.self) c.in_ok-n.n (state_of c.in_ok-n.next) c.in_ok-n.ensures.0 c.if-n-limit.false, refl)
