use Rattle.std.proofs.Common.{arith}
use Rattle.packed.specs.Packed.{pack_little_endian}
use Rattle.packed.proofs.Laws.{length_pack}
use Rattle.packed.proofs.Calls.{fills_put, fills_answers}
use Rattle.writing.proofs.marshall_uint.Goals as goal

pub unwrap-requires : goal.unwrap-requires
unwrap-requires g c =
    let a = c.args in
    let T = g.T.PackedInt in
    let n = T.number a.n in
    let e = fills_answers a.out.now a.index (pack_little_endian T.WIDTH n) T.WIDTH (length_pack T.WIDTH n) c.requires c.pack_little_endian_into_array.ensures in
    grind arith

pub returns : goal.returns
returns g c =
    let a = c.args in
    let T = g.T.PackedInt in
    let n = T.number a.n in
    (rw c.WIDTH.ensures, fills_put a.out.now a.index (pack_little_endian T.WIDTH n) T.WIDTH (length_pack T.WIDTH n) c.requires c.pack_little_endian_into_array.ensures)
