-- The byte rule of document 01; a signed number of document 02 has the bytes of its pattern.
use Rattle.std.specs.Prelude.{◌≡◌, List, [], ◌++◌, ℕ, length, take, drop}
use Rattle.packed.specs.Packed.{pack_little_endian, pack_little_endian_seq}
use Rattle.value.specs.Kinds.{width, element_width}
use Rattle.value.specs.Tree.{G, Val, Vals, VConstant, VNumber, VArray, VTuple, VNumberArray, VCase, vnil, vcons, seq_v, ValueOf, SizeOfV}

-- constant, nothing; a number, its bytes; tuple, its fields in order; array, an 8-byte element count, then the elements;
-- case, an 8-byte tag, then the value. Every number, count and tag is least byte first
unfoldable mutual
  pub bytes_of : Val → List ℕ
  bytes_of VConstant = []
  bytes_of (VNumber k n) = pack_little_endian (width k) n
  bytes_of (VArray vs) = pack_little_endian 8 (length (seq_v vs)) ++ bytes_of_all vs
  bytes_of (VTuple vs) = bytes_of_all vs
  bytes_of (VNumberArray k ns) = pack_little_endian 8 (length ns) ++ pack_little_endian_seq (element_width k) ns
  bytes_of (VCase c v) = pack_little_endian 8 c ++ bytes_of v

  -- one behind the other
  pub bytes_of_all : Vals → List ℕ
  bytes_of_all vnil = []
  bytes_of_all (vcons v vs) = bytes_of v ++ bytes_of_all vs

-- v is a value of g, and its bytes stand in d from byte p on
pub record Stands (d : List ℕ) (g : G) (p : ℕ) (v : Val) : Type 0 where
  pub of_grammar : ValueOf g v
  pub bytes : take (SizeOfV v) (drop p d) ≡ bytes_of v
