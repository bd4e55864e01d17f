use Rattle.std.proofs.Common.{arith}
use Rattle.packed.specs.Packed.{unpack_little_endian, pack_little_endian}
use Rattle.packed.proofs.U64PackedInt.swap_bytes.Goals as goal

pub returns : goal.returns
unfolding unpack_little_endian pack_little_endian
returns c = omega arith
