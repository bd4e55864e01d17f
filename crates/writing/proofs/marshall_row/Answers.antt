use Rattle.std.proofs.Common.{sym, arith}
use Rattle.packed.proofs.Put.{put-nothing}
use Rattle.rows.specs.Size.{own_bytes}
use Rattle.writing.proofs.marshall_row.Goals as goal

pub returns-in-Some-Constant : goal.returns-in-Some-Constant
unfolding own_bytes
returns-in-Some-Constant c = let e = sym (put-nothing c.args.out.now c.args.index) in grind arith
