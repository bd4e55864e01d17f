use Rattle.std.proofs.Common.{rules, arith, refl, inl, inr}
use Rattle.std.proofs.lemmas.Bool.Decides.{nat_tests}
use Rattle.std.proofs.lemmas.Result.{err_from_is_err_and}
use Rattle.readers.proofs.Root.{root_admitted, read-refused, read_stopped, read_none, read_filled}
use Rattle.readers.proofs.read.Goals as goal

pub returns-in-Err : goal.returns-in-Err
returns-in-Err c =
    let a = c.args in
    rw c.stop.ensures (read-refused a.grammar.now a.«record».now a.index a.whole c.capacity_within-most.ensures.0 c.in-Err.r c.in-Err.ensures)

pub check_root-requires : goal.check_root-requires
check_root-requires c =
    let a = c.args in
    root_admitted a.grammar.now a.«record».now a.index c.in_default.ensures (λ j l. (c.type_inv.grammar j).fits) (λ j. (c.type_inv.record j).fits) c.capacity_within-most.ensures.1 (inl refl)

pub returns-in_err-end : goal.returns-in_err-end
returns-in_err-end c =
    let a = c.args in
    let p = err_from_is_err_and c.from_residual.result c.from_residual.ensures.1 in
    rw (p.1, p.2) (read_stopped a.grammar.now a.«record».now a.index a.whole c.capacity_within-most.ensures.0 c.in_default.ensures c.in_err-end.ensures c.in_err-end.field-0.0 refl)

pub returns-then-is_empty : goal.returns-then-is_empty
returns-then-is_empty c =
    let a = c.args in
    read_none a.grammar.now a.«record».now a.index a.whole c.capacity_within-most.ensures.0 c.in_default.ensures c.in_ok-end.ensures c.in_ok-end.end refl (search rules)

pub read_root-requires : goal.read_root-requires
read_root-requires c =
    let a = c.args in
    root_admitted a.grammar.now a.«record».now a.index c.in_default.ensures (λ j l. (c.type_inv.grammar j).fits) (λ j. (c.type_inv.record j).fits) c.capacity_within-most.ensures.1
    (inr (c.capacity_within-most.ensures.2 (grind (arith, nat_tests))))

pub returns : goal.returns
returns c =
    let a = c.args in
    read_filled a.grammar.now a.«record».now a.index a.whole c.capacity_within-most.ensures.0 c.in_default.ensures c.in_ok-end.ensures c.in_ok-end.end refl c.read_root.ensures
