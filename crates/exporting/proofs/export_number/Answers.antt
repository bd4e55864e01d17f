use Rattle.packed.proofs.Calls.{fills_put, fills_answers}
use Rattle.big_endian.specs.BigEndian.{pack_big_endian}
use Rattle.big_endian.proofs.Laws.{length_pack_big}
use Rattle.big_endian.proofs.Calls.{ok-accepted}
use Rattle.exporting.proofs.export_number.Goals as goal

pub unwrap-requires : goal.unwrap-requires
unwrap-requires g c =
    let a = c.args in
    let w = g.T.PackedInt.WIDTH in
    let n = g.T.PackedInt.number a.n in
    ok-accepted c.pack_big_endian_into_array.result (fills_answers a.out.now a.index (pack_big_endian w n) w (length_pack_big w n) c.requires c.pack_big_endian_into_array.ensures)

pub returns : goal.returns
returns g c =
    let a = c.args in
    let w = g.T.PackedInt.WIDTH in
    let n = g.T.PackedInt.number a.n in
    (rw c.WIDTH.ensures, fills_put a.out.now a.index (pack_big_endian w n) w (length_pack_big w n) c.requires c.pack_big_endian_into_array.ensures)
