use Rattle.std.proofs.Common.{◌+◌, ◌*◌, ◌^◌, ◌<◌, refl, arith, pow-suc, add-one}
use Rattle.packed.proofs.Laws.{weight_fits}
use Rattle.packed.proofs.Steps.{in_order, put-again, put_on}
use Rattle.packing.proofs.pack.Goals as goal

pub put_byte-requires : goal.put_byte-requires
put_byte-requires c =
    let a = c.args in
    (omega arith, refl, in_order.puts_none a.n a.out.now a.index)

pub overflow_mul-weight : goal.overflow_mul-weight
overflow_mul-weight c =
    let l = c.loop-i in
    let next : l.weight * 256 < 2 ^ 64 = rw l.invariant.weight (weight_fits l.i (omega arith)) in
    record { fits = next }

pub put_byte-requires-in-loop-i : goal.put_byte-requires-in-loop-i
put_byte-requires-in-loop-i c =
    let a = c.args in
    let l = c.loop-i in
    (omega arith, l.invariant.weight, put-again a.n a.out.now a.index l.i l.out l.invariant.put (omega arith))

pub loop-i-preserved : goal.loop-i-preserved
loop-i-preserved c =
    let a = c.args in
    let l = c.loop-i in
    record {
      weight = rw (l.invariant.weight, add-one, pow-suc 256 l.i);
      put = put_on a.n a.out.now a.index l.i l.out l.invariant.put (l.i + 1) (omega arith) (omega arith) c.put_byte-in-loop-i.ensures;
    }
