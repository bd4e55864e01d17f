-- Numbers as bytes, most byte first, at any width: the order of RFC 4506 (XDR). They are the bytes of PackedInts turned round.
use Rattle.std.specs.Prelude.{ℕ, zero, suc, List, [], ◌∷◌, ◌++◌, reverse, take, drop}
use Rattle.refusal.specs.Outcome.{Outcome, map, Reason}
use Rattle.packed.specs.Packed.{unpack_little_endian, pack_little_endian, bytes_at}

-- the w bytes of n
unfoldable pub pack_big_endian : ℕ → ℕ → List ℕ
pack_big_endian w n = reverse (pack_little_endian w n)

-- the number of the first w bytes
unfoldable pub unpack_big_endian : ℕ → List ℕ → ℕ
unpack_big_endian w s = unpack_little_endian w (reverse (take w s))

-- the bytes of numbers, w for each, one behind the other
unfoldable pub pack_big_endian_seq : ℕ → List ℕ → List ℕ
pack_big_endian_seq w [] = []
pack_big_endian_seq w (n ∷ ns) = pack_big_endian w n ++ pack_big_endian_seq w ns

-- n numbers of w bytes, one behind the other
unfoldable pub unpack_big_endian_seq : ℕ → List ℕ → ℕ → List ℕ
unpack_big_endian_seq w s zero = []
unpack_big_endian_seq w s (suc n) = unpack_big_endian w s ∷ unpack_big_endian_seq w (drop w s) n

-- n elements of w bytes, the bytes of each turned round: from one order to the other, either way
unfoldable pub reverse_each : ℕ → List ℕ → ℕ → List ℕ
reverse_each w s zero = []
reverse_each w s (suc n) = reverse (take w s) ++ reverse_each w (drop w s) n

-- what the unpackers answer: 7, 9, or the number at the index
abbrev pub unpack_big_endian_at : ℕ → List ℕ → ℕ → Outcome Reason ℕ
unpack_big_endian_at w s index = map (unpack_big_endian w) (bytes_at s index w)
