use Rattle.std.proofs.Common.{arith}
use Rattle.text.proofs.Read.{rows_shown, refusal_shown}
use Rattle.text.proofs.show.Goals as goal

pub push_rows-requires : goal.push_rows-requires
push_rows-requires c =
    let s = rows_shown c.args.input.now c.in-Ok.ensures in
    rw c.clear.ensures (omega (arith, s.0))

pub returns-in-Ok : goal.returns-in-Ok
returns-in-Ok c = rw (c.push_rows.ensures, c.clear.ensures) (rows_shown c.args.input.now c.in-Ok.ensures).1

pub returns-in-Err : goal.returns-in-Err
returns-in-Err c = rw (c.push_refusal.ensures, c.clear.ensures) (refusal_shown c.args.input.now c.in-Err.ensures)
