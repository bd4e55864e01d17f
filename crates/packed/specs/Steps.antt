-- Document 02's request 05: packing and unpacking take their steps in the order of PackedInts' sum (PI), "byte 0 first, then byte 1 times 0x1_00,
-- and so on". It is what holds between two steps, of which no contract of a whole call can speak: `Summed` and `PutSoFar` stand in the contracts of
-- the steps, `add_byte` here and `put_byte` of `packing`, and are the invariants of the loops over them. proofs/Steps.antt proves `InOrder`.
use Rattle.std.specs.Prelude.{◌≡◌, List, [], ◌∷◌, ℕ, ◌+◌, ◌*◌, ◌/◌, ◌%◌, ◌^◌, ◌≤◌, ◌<◌, length, get_or, set, take, drop}
use Rattle.refusal.specs.Outcome.{accepted}
use Rattle.packed.specs.Packed.{unpack_little_endian, unpack_little_endian_seq, pack_little_endian, pack_little_endian_seq, unpack_at, put, put_at}

-- "after i bytes of a number, unpacking holds the sum of these i": of PI's `s[index .. index + i]`
abbrev pub Summed : List ℕ → ℕ → ℕ → ℕ → Type 0
Summed s index i sum = sum ≡ unpack_little_endian i (take i (drop index s))

-- "packing has put exactly these i of it": the first i bytes of n stand at the index, and every other byte is what it was at entry
abbrev pub PutSoFar : ℕ → List ℕ → ℕ → ℕ → List ℕ → Type 0
PutSoFar n entry index i out = out ≡ put entry index (pack_little_endian i n)

-- the same of sequences: after i numbers exactly the first i stand in the slice of numbers, or are put
abbrev pub UnpackedTo : ℕ → List ℕ → ℕ → List ℕ → ℕ → List ℕ → Type 0
UnpackedTo w s index entry i numbers = numbers ≡ put entry 0 (unpack_little_endian_seq w (drop index s) i)

abbrev pub PackedTo : ℕ → List ℕ → List ℕ → ℕ → ℕ → List ℕ → Type 0
PackedTo w numbers entry index i out = out ≡ put entry index (pack_little_endian_seq w (take i numbers))

-- the steps of a number, of whatever width w
pub record InOrder : Type 0 where
  -- unpacking starts at 0; byte i adds itself times 256 to the power i, PI's next summand; after w bytes the sum is what the call answers
  pub sums_none : (s : List ℕ) (index : ℕ) → Summed s index 0 0
  pub adds : (s : List ℕ) (index i sum : ℕ) → Summed s index i sum → Summed s index (i + 1) (sum + get_or s (index + i) 0 * 256 ^ i)
  pub sums_all : (w : ℕ) (s : List ℕ) (index sum : ℕ) → index + w ≤ length s → Summed s index w sum → unpack_at w s index ≡ accepted sum
  -- packing starts with the output as it is; byte i of n goes behind those before it; after w bytes the output is what the call leaves
  pub puts_none : (n : ℕ) (entry : List ℕ) (index : ℕ) → PutSoFar n entry index 0 entry
  pub puts :
      (n : ℕ) (entry : List ℕ) (index i : ℕ) (out : List ℕ) → index + i < length entry → PutSoFar n entry index i out
      → PutSoFar n entry index (i + 1) (set out (index + i) (n / 256 ^ i % 256))
  pub putsAll :
      (w n : ℕ) (entry : List ℕ) (index : ℕ) (out : List ℕ) → index + w ≤ length entry → PutSoFar n entry index w out
      → put_at entry index (pack_little_endian w n) ≡ accepted out
  -- the i bytes are the first of the w: their sum is that of the w bytes cut after i summands, and they are the first that the whole call puts
  pub sums_front : (w : ℕ) (s : List ℕ) (index i : ℕ) → i ≤ w → Summed s index i (unpack_little_endian i (take w (drop index s)))
  pub puts_front : (w n : ℕ) (entry : List ℕ) (index i : ℕ) → i ≤ w → PutSoFar n entry index i (put entry index (take i (pack_little_endian w n)))
  -- both meet after every step: the bytes that are put sum to n modulo 256 to the power i
  pub meets :
      (n : ℕ) (entry : List ℕ) (index i : ℕ) (out : List ℕ) → index + i ≤ length entry → PutSoFar n entry index i out
      → Summed out index i (n % 256 ^ i)

-- Example E's number, 305,419,896, put at index 1 of six bytes EE, and its bytes 78 56 34 12 summed there, after 0 to 4 bytes
abbrev pub out_e : ℕ → ℕ → ℕ → ℕ → List ℕ
out_e a b c d = 0xee ∷ a ∷ b ∷ c ∷ d ∷ 0xee ∷ []

abbrev pub PutE : ℕ → List ℕ → Type 0
PutE i out = PutSoFar 305419896 (out_e 0xee 0xee 0xee 0xee) 1 i out

abbrev pub SumE : ℕ → ℕ → Type 0
SumE i sum = Summed (out_e 0x78 0x56 0x34 0x12) 1 i sum

pub record StepsOfE : Type 0 where
  pub puts :
      PutE 0 (out_e 0xee 0xee 0xee 0xee)
      × PutE 1 (out_e 0x78 0xee 0xee 0xee)
      × PutE 2 (out_e 0x78 0x56 0xee 0xee)
      × PutE 3 (out_e 0x78 0x56 0x34 0xee)
      × PutE 4 (out_e 0x78 0x56 0x34 0x12)
  pub sums : SumE 0 0 × SumE 1 120 × SumE 2 22136 × SumE 3 3430008 × SumE 4 305419896
