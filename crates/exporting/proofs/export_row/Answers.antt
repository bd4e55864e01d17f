use Rattle.std.proofs.Common.{sym, arith}
use Rattle.packed.proofs.Put.{put-nothing}
use Rattle.exporting.specs.Own.{own_xdr}
use Rattle.exporting.proofs.export_row.Goals as goal

pub returns-in-Some-Constant : goal.returns-in-Some-Constant
unfolding own_xdr
returns-in-Some-Constant c = let e = sym (put-nothing c.args.out.now c.args.index) in grind arith
