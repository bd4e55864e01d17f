-- The signed kinds: the number of a bit pattern in two's complement, over its width in bytes.
use Rattle.std.specs.Prelude.{◌≡◌, Bool, true, false, cond, ℕ, suc, ◌-◌, ◌/◌, ◌^◌, ◌≤◌, ◌<◌, ltb, ℤ, pos, negsuc}
use Rattle.std.proofs.Math.IntN.{sub_ℕ}
use Rattle.std.specs.Int.Signed.{mag}
use Rattle.value.specs.Kinds.{Number, uint32, uint64, int32, int64}
use Rattle.value.specs.Tree.{G, GNumber, Val, VNumber}

-- half of the patterns of w bytes: those below it stand for themselves, the others for numbers below zero
abbrev pub half : ℕ → ℕ
half w = 256 ^ w / 2

-- the signed number of a pattern p of w bytes: p where it is below half, else p − 256^w
unfoldable pub signed_of : ℕ → ℕ → ℤ
signed_of w p = cond (ltb p (half w)) (pos p) (sub_ℕ p (256 ^ w))

-- the pattern of a signed number: a number below zero, `negsuc n` for −(n + 1), has 256^w added
unfoldable pub pattern_of : ℕ → ℤ → ℕ
pattern_of w (pos n) = n
pattern_of w (negsuc n) = 256 ^ w - suc n

-- the numbers of w bytes: from −half w to half w − 1 (`mag` is n of both n and −(n + 1))
abbrev pub InRange : ℕ → ℤ → Type 0
InRange w z = mag z < half w

-- z is the number of the pattern p of w bytes in two's complement
pub record TwosComplement (w p : ℕ) (z : ℤ) : Type 0 where
  pub range : InRange w z
  pub pattern : pattern_of w z ≡ p
  pub low : p < half w → z ≡ pos p
  pub high : half w ≤ p → z ≡ sub_ℕ p (256 ^ w)

-- whether the number of a kind is signed: kinds 9 and 10
abbrev pub is_signed : Number → Bool
is_signed uint32 = false
is_signed uint64 = false
is_signed int32 = true
is_signed int64 = true

abbrev pub GInt32 : G
GInt32 = GNumber int32

abbrev pub GInt64 : G
GInt64 = GNumber int64

abbrev pub VInt32 : ℤ → Val
VInt32 z = VNumber int32 (pattern_of 4 z)

abbrev pub VInt64 : ℤ → Val
VInt64 z = VNumber int64 (pattern_of 8 z)
