use Rattle.std.proofs.Common.{◌≡◌, refl, ap, ◌∙◌, length, arith}
use Rattle.packed.specs.Packed.{pack_little_endian}
use Rattle.packed.proofs.Laws.{length_pack}
use Rattle.packed.proofs.Put.{length-put}
use Rattle.packed.proofs.Calls.{fills_more, fills_answers}
use Rattle.writing.proofs.marshall_elements.Goals as goal

pub unwrap-requires : goal.unwrap-requires
unwrap-requires c =
    let a = c.args in
    let u = c.marshall_uint-at in
    let w = length_pack 8 a.count in
    let k : length u.new.out ≡ length a.out.now = ap length u.ensures.1 ∙ length-put a.out.now a.index (pack_little_endian 8 a.count) (omega (arith, c.requires)) in
    let e = fills_answers u.new.out u.result a.elements.now (length a.elements.now) refl (omega (arith, u.ensures.0, c.requires)) c.copy_seq_into_array.ensures in
    grind arith

pub returns : goal.returns
returns c =
    let a = c.args in
    let u = c.marshall_uint-at in
    let w = length_pack 8 a.count in
    (omega (arith, u.ensures.0), fills_more a.out.now _ a.index u.result (pack_little_endian 8 a.count) a.elements.now (omega (arith, c.requires)) (omega (arith, u.ensures.0)) u.ensures.1 c.copy_seq_into_array.ensures)
