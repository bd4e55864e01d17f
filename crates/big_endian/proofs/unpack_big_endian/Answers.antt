use Rattle.big_endian.proofs.Calls.{unpack_swapped}
use Rattle.big_endian.proofs.unpack_big_endian.Goals as goal

pub returns : goal.returns
returns g c =
    let a = c.args in
    rw c.swap_bytes.ensures (unpack_swapped g.T.PackedInt.WIDTH a.packed.now a.index (λ j. (c.type_inv.packed j).fits) c.in_ok-number.ensures)
