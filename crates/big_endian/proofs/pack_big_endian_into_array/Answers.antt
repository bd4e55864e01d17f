use Rattle.big_endian.proofs.Calls.{pack_swapped}
use Rattle.big_endian.proofs.pack_big_endian_into_array.Goals as goal

pub returns : goal.returns
returns g c =
    let T = g.T.PackedInt in
    rw (c.swap_bytes.ensures, pack_swapped T.WIDTH (T.number c.args.n)) at c.pack_little_endian_into_array.ensures
