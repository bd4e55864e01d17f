-- A row that was found lies in a table that passed, so the bytes of its array fit.
use Rattle.rows.specs.Locate.{locate_array}
use Rattle.rows.proofs.Size.{table-small}
use Rattle.rows.proofs.Calls.{Found, found}
use Rattle.rows.proofs.locate_array.Goals as goal
use Rattle.rows.proofs.locate_array.Goals.{In_ok-find_row}

row_found : (c : In_ok-find_row) → let a = c.args in Found 18 a.rows.now a.n a.store.now a.row
row_found c =
    let a = c.args in
    found a.rows.now a.n a.store.now (λ j _. (c.type_inv.rows j).fits) (λ j. (c.type_inv.store j).fits) 18 a.row c.in_ok-find_row.ensures

pub elements_at-requires : goal.elements_at-requires
elements_at-requires c =
    let a = c.args in
    let h = row_found c in
    table-small a.rows.now a.n a.store.now h.table.value h.table.table a.row h.below

pub returns : goal.returns
unfolding locate_array
returns c = let h = row_found (goal.at.returns c).In_ok-find_row in rw h.row c.elements_at.ensures
