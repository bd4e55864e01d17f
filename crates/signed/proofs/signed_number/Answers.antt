-- A row that was found lies in a table that passed, so it keeps its kind's rule.
use Rattle.rows.proofs.Parts.{table-holds}
use Rattle.rows.proofs.Calls.{Found, found}
use Rattle.signed.specs.Signed.{signed_number_of}
use Rattle.signed.proofs.signed_number.Goals as goal
use Rattle.signed.proofs.signed_number.Goals.{In_ok-find_row}

row_found : (c : In_ok-find_row) → let a = c.args in Found 20 a.rows.now a.n a.store.now a.row
row_found c =
    let a = c.args in
    found a.rows.now a.n a.store.now (λ j _. (c.type_inv.rows j).fits) (λ j. (c.type_inv.store j).fits) 20 a.row c.in_ok-find_row.ensures

pub number_at-requires : goal.number_at-requires
number_at-requires c =
    let a = c.args in
    let h = row_found c in
    (table-holds a.rows.now a.n a.store.now h.table.value h.table.table a.row h.below).rule

pub returns : goal.returns
unfolding signed_number_of
returns c = let h = row_found (goal.at.returns c).In_ok-find_row in rw h.row c.number_at.ensures
