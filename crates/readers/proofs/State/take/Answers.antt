use Rattle.std.proofs.Common.{refl, arith, ap, ◌∙◌}
use Rattle.readers.specs.Meaning.{state_of}
use Rattle.readers.proofs.Laws.{unpacked, take-unpacked, unpacked-fits}
use Rattle.readers.proofs.State.take.Goals as goal

pub move_on-requires : goal.move_on-requires
move_on-requires g c =
    let a = c.args in
    let h = unpacked-fits g.T.PackedInt.WIDTH a.bytes.now a.self.at (g.T.PackedInt.number c.in-Ok.n) c.in-Ok.ensures in
    omega (arith, h)

pub returns-in-Ok : goal.returns-in-Ok
returns-in-Ok g c =
    let a = c.args in
    let w = g.T.PackedInt.WIDTH in
    let s = state_of a.self in
    (rw (c.to_u64.ensures, c.move_on.ensures.0, c.WIDTH.ensures) (ap (unpacked w s) c.in-Ok.ensures ∙ take-unpacked a.bytes.now w s c.requires.0), c.move_on.ensures.1)

pub returns-in-Err : goal.returns-in-Err
returns-in-Err g c =
    let a = c.args in
    let w = g.T.PackedInt.WIDTH in
    let s = state_of a.self in
    rw c.stop.ensures (ap (unpacked w s) c.in-Err.ensures ∙ take-unpacked a.bytes.now w s c.requires.0, refl)
