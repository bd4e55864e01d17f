-- The walk, then the test of the row number.
use Rattle.std.proofs.Common.{ap, ◌∙◌, ltb}
use Rattle.refusal.specs.Outcome.{accepted, test, Reason}
use Rattle.rows.proofs.Calls.{found_if}
use Rattle.rows.proofs.find_row.Goals as goal

pub returns : goal.returns
returns c =
    let a = c.args in
    c.accept_if.ensures ∙ ap (λ (e : Reason). test (ltb a.row a.n) e accepted) c.at_row.ensures ∙ found_if a.number a.rows.now a.n a.store.now a.row c.in_ok-check_rows.ensures
