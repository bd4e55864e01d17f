-- The array's bytes are compared right behind its count.
use Rattle.std.proofs.Common.{ap, drop, arith}
use Rattle.packed.specs.Packed.{pack_little_endian}
use Rattle.packed.proofs.Laws.{length_pack}
use Rattle.previewing.specs.declared.Compared.{Compared}
use Rattle.previewing.proofs.Differing.{differing-most}
use Rattle.previewing.proofs.ComparedLaws.{compared_more}
use Rattle.previewing.proofs.compare_elements.Goals as goal

pub compare_bytes-compared-requires : goal.compare_bytes-compared-requires
compare_bytes-compared-requires c = omega (arith, ap (λ (x : Compared). x.at) c.compare_number-counted.ensures, length_pack 8 c.args.count, c.requires)

pub overflow_add-result : goal.overflow_add-result
overflow_add-result c =
    let a = c.args in
    let u = c.compare_number-counted in
    let m = (differing-most (drop a.at a.out.now) (pack_little_endian 8 a.count)).1 in
    let n = (differing-most (drop u.result.at a.out.now) a.elements.now).1 in
    omega (arith, ap (λ (x : Compared). x.changed) u.ensures, ap (λ (x : Compared). x.changed) c.compare_bytes-compared.ensures, length_pack 8 a.count, m, n, c.requires)

pub returns : goal.returns
returns c =
    let a = c.args in
    compared_more a.out.now a.at (pack_little_endian 8 a.count) a.elements.now c.compare_number-counted.ensures c.compare_bytes-compared.ensures
