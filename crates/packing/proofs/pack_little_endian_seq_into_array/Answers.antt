use Rattle.std.proofs.Common.{arith, length, rules, ◌+◌, ◌*◌, sym, map as map_list, get_or, ap, ◌∙◌, ◌≡◌}
use Rattle.std.proofs.lemmas.List.{length-map, get_or-map}
use Rattle.packed.specs.Packed.{pack_little_endian_seq}
use Rattle.packed.specs.Steps.{PutSoFar}
use Rattle.packed.proofs.Laws.{length_pack_seq}
use Rattle.packed.proofs.Put.{put-nothing, pack_seq_next}
use Rattle.packed.proofs.Calls.{room_fits, pack_seq_accepted}
use Rattle.packing.proofs.pack_little_endian_seq_into_array.Goals as goal

pub returns-in_err-room : goal.returns-in_err-room
returns-in_err-room g c = simp (length_pack_seq, length-map) (search rules)

pub loop-i-init : goal.loop-i-init
unfolding pack_little_endian_seq
loop-i-init g c =
    let a = c.args in
    record {
      room = rw (sym c.WIDTH.ensures) (room_fits (length a.out.now) a.index (c.WIDTH.result * length a.numbers.now) c.in_ok-room.ensures);
      packed = sym (put-nothing a.out.now a.index);
    }

pub loop-i-preserved : goal.loop-i-preserved
loop-i-preserved g c =
    let a = c.args in
    let l = c.loop-i in
    let T = g.T.PackedInt in
    let numbers = map_list T.number a.numbers.now in
    let item = c.index-numbers-i in
    let n : T.number item.result ≡ get_or numbers l.i 0 = ap T.number item.is ∙ sym (get_or-map T.number a.numbers.now l.i item.result 0 (omega arith)) in
    let put : PutSoFar (get_or numbers l.i 0) l.out (a.index + T.WIDTH * l.i) T.WIDTH c.pack.new.out = rw (c.to_u64.ensures, n, c.WIDTH-in-loop-i.ensures, c.WIDTH-in-loop-i-2.ensures) at c.pack.ensures in
    record {
      room = omega arith;
      packed = pack_seq_next T.WIDTH a.out.now l.out c.pack.new.out a.index l.i numbers (simp length-map (omega arith)) (simp length-map (omega arith)) l.invariant.packed put;
    }

pub returns : goal.returns
returns g c =
    let a = c.args in
    let l = c.loop-i in
    let T = g.T.PackedInt in
    pack_seq_accepted T.WIDTH (map_list T.number a.numbers.now) a.out.now a.index l.i (simp length-map (omega arith)) l.invariant.packed (simp length-map (rw (sym c.WIDTH.ensures) c.in_ok-room.ensures))
