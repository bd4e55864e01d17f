-- Numbers as bytes, least byte first, at any width: PackedInts' definitions (PI), and what the calls over them answer.
use Rattle.std.specs.Prelude.{◌≡◌, ◌⊎◌, ℕ, zero, suc, ◌+◌, ◌*◌, ◌/◌, ◌%◌, ◌^◌, ◌≤◌, ◌<◌, List, [], ◌∷◌, ◌++◌, length, get_or, take, drop, leb}
use Rattle.refusal.specs.Outcome.{Outcome, accepted, test, map, contents, Reason, reason, byte}

-- each element is a byte: what Dafny's `byte` says
abbrev pub Bytes : List ℕ → Type 0
Bytes bs = (j : ℕ) → get_or bs j 0 < 256

-- each element is below a bound: what Dafny's `uint32` and `uint64` say at 2^32 and 2^64
abbrev pub Below : ℕ → List ℕ → Type 0
Below b ns = (j : ℕ) → j < length ns → get_or ns j 0 < b

-- the sum of byte i times 256 to the power i over w bytes, in PI's order.
-- At w = 4 PI's `unpack_LittleEndian_Uint32`, at w = 8 its `unpack_LittleEndian_Uint64`
unfoldable pub unpack_little_endian : ℕ → List ℕ → ℕ
unpack_little_endian zero s = 0
unpack_little_endian (suc i) s = unpack_little_endian i s + get_or s i 0 * 256 ^ i

-- len numbers of w bytes, one behind the other.
-- At w = 4 PI's `unpack_LittleEndian_Uint32_Seq`, at w = 8 its `unpack_LittleEndian_Uint64_Seq`
unfoldable pub unpack_little_endian_seq : ℕ → List ℕ → ℕ → List ℕ
unpack_little_endian_seq w packed zero = []
unpack_little_endian_seq w packed (suc n) = unpack_little_endian_seq w (take (w * n) packed) n ++ (unpack_little_endian w (take w (drop (w * n) packed)) ∷ [])

-- the w bytes of n
unfoldable pub pack_little_endian : ℕ → ℕ → List ℕ
pack_little_endian zero n = []
pack_little_endian (suc w) n = n % 256 ∷ pack_little_endian w (n / 256)

-- the bytes of numbers, w for each, one behind the other
unfoldable pub pack_little_endian_seq : ℕ → List ℕ → List ℕ
pack_little_endian_seq w [] = []
pack_little_endian_seq w (n ∷ ns) = pack_little_endian w n ++ pack_little_endian_seq w ns

-- whether size bytes stand from the index on: 7 where the index is above the length, 9 where they aren't all there
unfoldable pub present : ℕ → ℕ → ℕ → Outcome Reason (Unit {0})
present len index size =
    test (leb index len) (reason 7 (byte index))
    (λ _. test (leb (index + size) len) (reason 9 (byte index)) accepted)

-- the size bytes from the index on, PI's `s[index .. index + size]`
abbrev pub bytes_at : List ℕ → ℕ → ℕ → Outcome Reason (List ℕ)
bytes_at s index size = map (λ _. take size (drop index s)) (present (length s) index size)

abbrev pub unpack_at : ℕ → List ℕ → ℕ → Outcome Reason ℕ
unpack_at w s index = map (unpack_little_endian w) (bytes_at s index w)

abbrev pub unpack_seq_at : ℕ → List ℕ → ℕ → ℕ → Outcome Reason (List ℕ)
unpack_seq_at w s index len = map (λ bs. unpack_little_endian_seq w bs len) (bytes_at s index (w * len))

-- whether size bytes have room from the index on: 17 at the length where they have not
unfoldable pub room : ℕ → ℕ → ℕ → Outcome Reason (Unit {0})
room len index size = test (leb (index + size) len) (reason 17 (byte len)) accepted

-- the output with bs from the index on and everything else as it was
unfoldable pub put : List ℕ → ℕ → List ℕ → List ℕ
put out index bs = take index out ++ (bs ++ drop (index + length bs) out)

abbrev pub put_at : List ℕ → ℕ → List ℕ → Outcome Reason (List ℕ)
put_at out index bs = map (λ _. put out index bs) (room (length out) index (length bs))

-- the output with bs put where they have room, else as it was
unfoldable pub put_within : List ℕ → ℕ → List ℕ → List ℕ
put_within out index bs = contents (put_at out index bs) out

-- a buffer of at least n elements, or one of none, into which nothing is put
abbrev pub Lent : ℕ → List ℕ → Type 0
Lent n l = (l ≡ []) ⊎ (n ≤ length l)
