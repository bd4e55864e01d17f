-- The XDR bytes of a row by itself.
use Rattle.std.specs.Prelude.{◌≡◌, Bool, true, List, [], ◌++◌, ℕ, ◌+◌, ◌*◌, ◌^◌, take, drop, ltb}
use Rattle.big_endian.specs.BigEndian.{pack_big_endian, reverse_each}
use Rattle.value.specs.Kinds.{width, element_width, Kind, constant, number, array, tuple, elements, union, other}
use Rattle.tables.specs.Row.{Row}
use Rattle.rows.specs.Rule.{RowHolds}
use Rattle.rows.specs.Size.{of_row}
use Rattle.xdr.specs.Xdr.{padding, padded}

-- the XDR bytes that a row adds to its value's, without its children's. Elements lie least byte first in the store
unfoldable pub own_xdr : Kind → Row → List ℕ → List ℕ
own_xdr constant r s = []
own_xdr (number k) r s = pack_big_endian (width k) r.word2
own_xdr array r s = pack_big_endian 4 r.word2
own_xdr tuple r s = []
own_xdr (elements k) r s = pack_big_endian 4 r.word2 ++ padded (reverse_each (element_width k) (take (element_width k * r.word2) (drop r.word3 s)) r.word2)
own_xdr union r s = pack_big_endian 4 r.word2
own_xdr other r s = []

-- how many they are
abbrev pub own_xdr_size : Kind → Row → ℕ
own_xdr_size constant r = 0
own_xdr_size (number k) r = width k
own_xdr_size array r = 4
own_xdr_size tuple r = 0
own_xdr_size (elements k) r = 4 + (element_width k * r.word2 + padding (element_width k * r.word2))
own_xdr_size union r = 4
own_xdr_size other r = 0

-- a count or a tag that 4 bytes hold
abbrev pub narrow : Kind → Row → Bool
narrow constant r = true
narrow (number k) r = true
narrow array r = ltb r.word2 (256 ^ 4)
narrow tuple r = true
narrow (elements k) r = ltb r.word2 (256 ^ 4)
narrow union r = ltb r.word2 (256 ^ 4)
narrow other r = true

-- row i loses nothing in XDR
pub record RowFits (t s : List ℕ) (i : ℕ) : Type 0 where
  pub holds : RowHolds t s i
  pub count : of_row narrow t i ≡ true
