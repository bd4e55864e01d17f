use Rattle.std.proofs.Common.{refl}
use Rattle.std.proofs.lemmas.Result.{err_from_is_err_and}
use Rattle.rewriting.proofs.Rewriting.{no_room_lem, not-read, rewritten}
use Rattle.rewriting.proofs.rewrite.Goals as goal

pub returns-in_err-room : goal.returns-in_err-room
returns-in_err-room c =
    let a = c.args in
    let p = err_from_is_err_and c.from_residual.result c.from_residual.ensures.1 in
    rw (p.1, p.2) (no_room_lem a.grammar.now a.«record».now a.rows.now a.out.now a.index c.in_err-room.ensures)

pub returns-in_err-read : goal.returns-in_err-read
returns-in_err-read c =
    let a = c.args in
    let p = err_from_is_err_and c.from_residual-in_err-read.result c.from_residual-in_err-read.ensures.1 in
    rw (p.1, p.2) (not-read a.grammar.now a.«record».now a.rows.now a.out.now a.index c.in_ok-room.ensures c.in_err-read.ensures refl)

pub returns : goal.returns
returns c =
    let a = c.args in
    rewritten a.grammar.now a.«record».now a.rows.now a.out.now a.index c.in_ok-room.ensures c.in_ok-read.ensures (λ j l. (c.type_inv.grammar j).fits) (λ j. (c.type_inv.record j).fits) (record { rows = c.in_ok-read.read.rows; rest_index = c.in_ok-read.read.rest_index }) refl c.marshall_val.ensures
