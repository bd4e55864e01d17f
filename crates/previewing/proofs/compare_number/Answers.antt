-- The number's 8 bytes fill the array, so its first ones are the bytes of the width.
use Rattle.std.proofs.Common.{◌≡◌, ap, ◌∙◌, take, arith}
use Rattle.packed.specs.Packed.{pack_little_endian}
use Rattle.packed.proofs.Laws.{length_pack, pack_front}
use Rattle.packed.proofs.Put.{put_whole}
use Rattle.packed.proofs.Calls.{fills_put, fills_answers}
use Rattle.previewing.specs.Compared.{compared_with}
use Rattle.previewing.proofs.compare_number.Goals as goal

pub unwrap-requires : goal.unwrap-requires
unwrap-requires c =
    let a = c.args in
    let e = fills_answers _ 0 (pack_little_endian 8 a.n) 8 (length_pack 8 a.n) (omega arith) c.pack_little_endian_into_array.ensures in
    grind arith

pub returns : goal.returns
returns c =
    let a = c.args in
    let p = c.pack_little_endian_into_array in
    let e : take a.width p.new.out ≡ pack_little_endian a.width a.n = ap (take a.width) (fills_put _ 0 (pack_little_endian 8 a.n) 8 (length_pack 8 a.n) (omega arith) p.ensures ∙ put_whole _ (pack_little_endian 8 a.n) (length_pack 8 a.n)) ∙ pack_front a.width 8 a.n c.requires.0 in
    c.compare_bytes.ensures ∙ ap (compared_with a.out.now a.at) e
