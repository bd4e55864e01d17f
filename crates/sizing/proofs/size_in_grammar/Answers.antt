use Rattle.std.proofs.Common.{◌≡◌, sym}
use Rattle.std.proofs.lemmas.Result.{err_from_is_err_and}
use Rattle.value.specs.Tree.{SizeOfV}
use Rattle.grammar.proofs.Rule.{accepted_exactly}
use Rattle.rows.proofs.Calls.{Table}
use Rattle.sizing.proofs.Writes.{table-sized, table_stands, value-grammar, value-rows, value-refused, value-accepted}
use Rattle.sizing.proofs.size_in_grammar.Goals as goal
use Rattle.sizing.proofs.size_in_grammar.Goals.{In_ok-size}

-- behind the size: the rows are a table of that size
table : (c : In_ok-size) → let a = c.args in (h : Table a.rows.now a.n a.store.now) × (c.in_ok-size.size ≡ SizeOfV h.value)
table c =
    let a = c.args in
    table-sized a.rows.now a.n a.store.now (λ j _. (c.type_inv.rows j).fits) (λ j. (c.type_inv.store j).fits) c.in_ok-size.ensures.0

pub check_in_grammar-requires : goal.check_in_grammar-requires
check_in_grammar-requires c =
    let a = c.args in
    let p = (accepted_exactly a.grammar.now).0 (sym c.in_ok-check_grammar.ensures) in
    (p, p.layout.start.1.0, table_stands a.rows.now a.n a.store.now (table c).0)

pub returns-in_err-check_grammar : goal.returns-in_err-check_grammar
returns-in_err-check_grammar c =
    let a = c.args in
    let p = err_from_is_err_and c.from_residual.result c.from_residual.ensures.1 in
    rw (p.1, p.2) (value-grammar a.grammar.now a.rows.now a.n a.store.now c.in_err-check_grammar.ensures, tt)

pub returns-in_err-size : goal.returns-in_err-size
returns-in_err-size c =
    let a = c.args in
    let p = err_from_is_err_and c.from_residual-in_err-size.result c.from_residual-in_err-size.ensures.1 in
    rw (p.1, p.2) (value-rows a.grammar.now a.rows.now a.n a.store.now c.in_ok-check_grammar.ensures c.in_err-size.ensures.0, tt)

pub returns-in_err-check_in_grammar : goal.returns-in_err-check_in_grammar
returns-in_err-check_in_grammar c =
    let a = c.args in
    let h = (table (goal.at.returns-in_err-check_in_grammar c).In_ok-size).0 in
    let p = err_from_is_err_and c.from_residual-in_err-check_in_grammar.result c.from_residual-in_err-check_in_grammar.ensures.1 in
    rw (p.1, p.2) (value-refused a.grammar.now a.rows.now a.n a.store.now c.in_ok-check_grammar.ensures h (c.in_err-check_in_grammar.ensures a.store.now h.value h.table.rows), tt)

pub returns : goal.returns
returns c =
    let a = c.args in
    let h = table (goal.at.returns c).In_ok-size in
    (value-accepted a.grammar.now a.rows.now a.n a.store.now c.in_ok-check_grammar.ensures h.0 (c.in_ok-check_in_grammar.ensures a.store.now h.0.value h.0.table.rows) h.1, c.in_ok-size.ensures.1)
