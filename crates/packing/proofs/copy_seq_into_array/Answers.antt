use Rattle.std.proofs.Common.{arith, length, ◌*◌, sym}
use Rattle.packed.proofs.Put.{put-nothing, copy_next}
use Rattle.packed.proofs.Calls.{room_fits}
use Rattle.packing.proofs.copy_seq_into_array.Goals as goal

pub loop-i-init : goal.loop-i-init
loop-i-init c =
    let a = c.args in
    let h = room_fits (length a.out.now) a.index (1 * length a.src.now) c.in_ok-room.ensures in
    record { room = omega arith; copied = sym (put-nothing a.out.now a.index) }

pub loop-i-preserved : goal.loop-i-preserved
loop-i-preserved c =
    let a = c.args in
    let l = c.loop-i in
    record { room = l.invariant.room; copied = copy_next a.out.now l.out a.index a.src.now l.i l.invariant.copied (omega arith) l.invariant.room }
