use Rattle.std.proofs.Common.{◌≡◌, ◌+◌, ◌-◌, ◌*◌, ◌/◌, ◌≤◌, ℕ, length, drop, arith, sym, ap, ◌∙◌, rules}
use Rattle.refusal.specs.Outcome.{accepted, map}
use Rattle.refusal.specs.Meaning.{outcome_of}
use Rattle.refusal.proofs.Outcome.{map-accepted}
use Rattle.packed.specs.Packed.{put, pack_little_endian}
use Rattle.packed.proofs.Put.{put-nothing}
use Rattle.packed.proofs.Laws.{length_pack}
use Rattle.packed.proofs.Calls.{room_fits, put-accepted}
use Rattle.big_endian.specs.BigEndian.{unpack_big_endian, reverse_each}
use Rattle.big_endian.proofs.Laws.{length-reverse_each}
use Rattle.big_endian.proofs.Calls.{ok-accepted, ok-value, unpack_big-part, put_part, put_part-answers, reverse_each-next, elements-inside, one_more}
use Rattle.big_endian.proofs.copy_reversed_seq.Given.{Over}
use Rattle.big_endian.proofs.copy_reversed_seq.Goals as goal
use Rattle.big_endian.proofs.copy_reversed_seq.Goals.{In-loop-i, After-unpack_big_endian}

pub returns-in_err-room : goal.returns-in_err-room
returns-in_err-room g c =
    let a = c.args in
    let w = g.T.PackedInt.WIDTH in
    let inside = elements-inside w (length a.src.now) (omega (arith, g.met.T.PackedInt.width_within)) in
    rw (length-reverse_each w (length a.src.now / w) a.src.now inside) (search rules)

pub loop-i-init : goal.loop-i-init
unfolding reverse_each
loop-i-init g c =
    let a = c.args in
    let w = c.WIDTH-width.result in
    record {
      inside = elements-inside w (length a.src.now) (omega (arith, g.met.T.PackedInt.width_within));
      room = room_fits (length a.out.now) a.index (w * (length a.src.now / w)) c.in_ok-room.ensures;
      copied = sym (put-nothing a.out.now a.index);
    }

-- the bytes of the next number are among those of all
more : (g : Over) (c : In-loop-i g) → c.WIDTH-width.result * c.loop-i.i + c.WIDTH-width.result ≤ c.WIDTH-width.result * (length c.args.src.now / c.WIDTH-width.result)
more g c = one_more c.WIDTH-width.result c.loop-i.i (length c.args.src.now / c.WIDTH-width.result) c.loop-i-test.true

-- it is there
read : (g : Over) (c : After-unpack_big_endian g) → map g.T.PackedInt.number (outcome_of c.unpack_big_endian.result) ≡ accepted (unpack_big_endian g.T.PackedInt.WIDTH (drop (c.WIDTH-width.result * c.loop-i.i) c.args.src.now))
read g c =
    let w = c.WIDTH-width.result in
    let at = w * c.loop-i.i in
    let m = more g (goal.at.unwrap-number-requires g c).In-loop-i in
    c.unpack_big_endian.ensures ∙ unpack_big-part g.T.PackedInt.WIDTH (at + w - at) at c.args.src.now (omega arith) (omega (arith, m))

pub unwrap-number-requires : goal.unwrap-number-requires
unwrap-number-requires g c =
    ok-accepted c.unpack_big_endian.result (map-accepted g.T.PackedInt.number (outcome_of c.unpack_big_endian.result) (read g c)).1

pub unwrap-requires : goal.unwrap-requires
unwrap-requires g c =
    let T = g.T.PackedInt in
    let w = c.WIDTH-width.result in
    let n = T.number c.unwrap-number.result in
    let at = c.args.index + w * c.loop-i.i in
    let m = more g (goal.at.unwrap-requires g c).In-loop-i in
    ok-accepted c.pack_little_endian_into_array.result
    (put_part-answers T.WIDTH (at + w - at) at c.loop-i.out (pack_little_endian T.WIDTH n) (length_pack T.WIDTH n) (omega arith) (omega (arith, m)) c.pack_little_endian_into_array.ensures)

pub loop-i-preserved : goal.loop-i-preserved
loop-i-preserved g c =
    let a = c.args in
    let l = c.loop-i in
    let T = g.T.PackedInt in
    let w = c.WIDTH-width.result in
    let n = T.number c.unwrap-number.result in
    let at = a.index + w * l.i in
    let m = more g (goal.at.loop-i-preserved g c).In-loop-i in
    let v : n ≡ unpack_big_endian T.WIDTH (drop (w * l.i) a.src.now) = ok-value T.number c.unwrap-number.ensures (read g (goal.at.loop-i-preserved g c).After-unpack_big_endian) in
    record {
      inside = l.invariant.inside;
      room = l.invariant.room;
      copied =
          put_part T.WIDTH (at + w - at) at l.out (pack_little_endian T.WIDTH n) (length_pack T.WIDTH n) (omega arith) (omega (arith, m)) c.pack_little_endian_into_array.ensures
          ∙ rw (sym c.WIDTH-width.ensures) (reverse_each-next w a.src.now a.out.now l.out a.index (length a.src.now / w) l.i n (λ j. (c.type_inv.src j).fits) c.loop-i-test.true l.invariant.inside l.invariant.room l.invariant.copied (rw (sym c.WIDTH-width.ensures) at v));
    }

pub returns : goal.returns
returns g c =
    let a = c.args in
    let w = c.WIDTH-width.result in
    let n = length a.src.now / w in
    let all : c.loop-i.i ≡ n = omega arith in
    rw (sym c.WIDTH-width.ensures)
    (put-accepted a.out.now a.index (reverse_each w a.src.now n) (w * n) (length-reverse_each w n a.src.now c.loop-i.invariant.inside) c.in_ok-room.ensures
    (c.loop-i.invariant.copied ∙ ap (λ (i : ℕ). put a.out.now a.index (reverse_each w a.src.now i)) all))
