use Rattle.std.proofs.lemmas.Result.{err_from_is_err_and}
use Rattle.std.proofs.Common.{refl}
use Rattle.grammar.specs.Tree.{tree_of}
use Rattle.importing.proofs.Cycle.{went_on, stopped}
use Rattle.importing.proofs.Root.{whole-refused, whole-over, whole_done}
use Rattle.importing.proofs.check_root.Goals as goal

pub returns-in_err-end : goal.returns-in_err-end
returns-in_err-end c =
    let a = c.args in
    let p = err_from_is_err_and c.from_residual.result c.from_residual.ensures.1 in
    rw (p.1, p.2) (whole-refused a.lent.capacity a.lent.room a.bytes.now (tree_of a.grammar.now 0) (stopped c.in_err-end.field-0.0 refl c.in_err-end.ensures))

pub returns-then-end-bytes : goal.returns-then-end-bytes
returns-then-end-bytes c =
    let a = c.args in
    let w = went_on c.in_ok-end.end refl c.in_ok-end.ensures in
    rw c.at_byte.ensures (whole-over a.lent.capacity a.lent.room a.bytes.now (tree_of a.grammar.now 0) w.0 c.in_ok-end.end w.1 c.if-end-bytes.true)

pub returns : goal.returns
returns c =
    let a = c.args in
    let w = went_on c.in_ok-end.end refl c.in_ok-end.ensures in
    whole_done a.lent.capacity a.lent.room a.bytes.now (tree_of a.grammar.now 0) w.0 c.in_ok-end.end w.1 c.if-end-bytes.false
