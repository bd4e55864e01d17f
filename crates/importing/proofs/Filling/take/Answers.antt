use Rattle.std.proofs.Common.{arith}
use Rattle.std.proofs.lemmas.Result.{err_from_is_err_and}
use Rattle.importing.specs.Meaning.{filling_of}
use Rattle.importing.proofs.Laws.{take-unpacked, unpacked-fits, unpacked-below}
use Rattle.importing.proofs.Filling.take.Goals as goal

pub move_on-requires : goal.move_on-requires
move_on-requires g c =
    let a = c.args in
    let h = unpacked-fits a.bytes.now g.T.PackedInt.WIDTH (filling_of a.self) c.in_ok-n.ensures in
    omega (arith, h, c.WIDTH.ensures, c.requires)

pub returns-in_err-n : goal.returns-in_err-n
returns-in_err-n g c =
    let a = c.args in
    let p = err_from_is_err_and c.from_residual.result c.from_residual.ensures.1 in
    rw (p.1, p.2) (take-unpacked a.bytes.now g.T.PackedInt.WIDTH (filling_of a.self) c.requires.0 _ c.in_err-n.ensures, tt, tt)

pub returns : goal.returns
returns g c =
    let a = c.args in
    let w = g.T.PackedInt.WIDTH in
    let s = filling_of a.self in
    let e = c.in_ok-n.ensures in (
      rw (c.to_u64.ensures, c.move_on.ensures.0, c.WIDTH.ensures) (take-unpacked a.bytes.now w s c.requires.0 _ e),
      rw c.to_u64.ensures (unpacked-below a.bytes.now w s (λ j. (c.type_inv.bytes j).fits) e),
      c.move_on.ensures.1,
    )
