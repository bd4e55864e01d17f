use Rattle.std.proofs.lemmas.Result.{err_from_is_err_and}
use Rattle.importing.specs.Meaning.{filling_of}
use Rattle.importing.proofs.Laws.{below-refused, below-number, below_limit}
use Rattle.importing.proofs.Filling.take_below.Goals as goal

pub returns-in_err-n : goal.returns-in_err-n
returns-in_err-n c =
    let a = c.args in
    let p = err_from_is_err_and c.from_residual.result c.from_residual.ensures.1 in
    rw (p.1, p.2) (below-refused a.bytes.now a.limit a.number (filling_of a.self) c.in_err-n.ensures.0, tt)

pub returns-then-n-limit : goal.returns-then-n-limit
returns-then-n-limit c =
    let a = c.args in
    let h = c.in_ok-n.ensures in
    (rw c.grow.ensures.0 (below-number a.bytes.now a.limit a.number (filling_of a.self) c.in_ok-n.n (filling_of c.in_ok-n.next) h.0 c.if-n-limit.true), rw h.2 at c.grow.ensures.1)

pub returns-else-n-limit : goal.returns-else-n-limit
returns-else-n-limit c =
    let a = c.args in
    rw c.at_byte.ensures (below_limit a.bytes.now a.limit a.number (filling_of a.self) c.in_ok-n.n (filling_of c.in_ok-n.next) c.in_ok-n.ensures.0 c.if-n-limit.false, tt)
