-- XDR (RFC 4506): the bytes of a value, what its arrays put into a store, and the rows with these places.
use Rattle.std.specs.Prelude.{ℕ, ◌+◌, ◌-◌, ◌%◌, List, [], ◌++◌, length, replicate}
use Rattle.packed.specs.Packed.{pack_little_endian_seq}
use Rattle.big_endian.specs.BigEndian.{pack_big_endian, pack_big_endian_seq}
use Rattle.value.specs.Kinds.{width, element_width}
use Rattle.value.specs.Tree.{Val, Vals, VConstant, VNumber, VArray, VTuple, VNumberArray, VCase, vnil, vcons, seq_v}
use Rattle.tables.specs.Row.{row_words}
use Rattle.rows.specs.Layout.{own_row}

-- the bytes from n bytes up to a multiple of four: none behind numbers of 4 or 8 bytes
unfoldable pub padding : ℕ → ℕ
padding n = (4 - n % 4) % 4

-- bytes, and zeros up to a multiple of four
unfoldable pub padded : List ℕ → List ℕ
padded bs = bs ++ replicate (padding (length bs)) 0

-- constant, void; a number, unsigned int or hyper, or int or hyper by its pattern; tuple, a structure: its fields in order; array, a
-- variable-length array: a 4-byte element count, then the elements, of a byte array (opaque) with its padding; case, a union: a 4-byte
-- discriminant, then the value. Every number, count and discriminant is most byte first
unfoldable mutual
  pub xdr_of : Val → List ℕ
  xdr_of VConstant = []
  xdr_of (VNumber k n) = pack_big_endian (width k) n
  xdr_of (VArray vs) = pack_big_endian 4 (length (seq_v vs)) ++ xdr_of_all vs
  xdr_of (VTuple vs) = xdr_of_all vs
  xdr_of (VNumberArray k ns) = pack_big_endian 4 (length ns) ++ padded (pack_big_endian_seq (element_width k) ns)
  xdr_of (VCase c v) = pack_big_endian 4 c ++ xdr_of v

  -- one behind the other
  pub xdr_of_all : Vals → List ℕ
  xdr_of_all vnil = []
  xdr_of_all (vcons v vs) = xdr_of v ++ xdr_of_all vs

-- document 02's XDR size of a value
abbrev pub xdr_size : Val → ℕ
xdr_size v = length (xdr_of v)

-- the bytes of a value's arrays as they lie in a store, least byte first, one behind the other
unfoldable mutual
  pub store_of : Val → List ℕ
  store_of VConstant = []
  store_of (VNumber k n) = []
  store_of (VArray vs) = store_of_all vs
  store_of (VTuple vs) = store_of_all vs
  store_of (VNumberArray k ns) = pack_little_endian_seq (element_width k) ns
  store_of (VCase c v) = store_of v

  pub store_of_all : Vals → List ℕ
  store_of_all vnil = []
  store_of_all (vcons v vs) = store_of v ++ store_of_all vs

-- the words of the rows of v, whose arrays lie so in a store from byte p on: its own row, then its children's
unfoldable mutual
  pub rows_in : Val → ℕ → List ℕ
  rows_in VConstant p = row_words (own_row VConstant p)
  rows_in (VNumber k n) p = row_words (own_row (VNumber k n) p)
  rows_in (VArray vs) p = row_words (own_row (VArray vs) p) ++ rows_in_all vs p
  rows_in (VTuple vs) p = row_words (own_row (VTuple vs) p) ++ rows_in_all vs p
  rows_in (VNumberArray k ns) p = row_words (own_row (VNumberArray k ns) p)
  rows_in (VCase c v) p = row_words (own_row (VCase c v) p) ++ rows_in v p

  -- one behind the other
  pub rows_in_all : Vals → ℕ → List ℕ
  rows_in_all vnil p = []
  rows_in_all (vcons v vs) p = rows_in v p ++ rows_in_all vs (p + length (store_of v))
