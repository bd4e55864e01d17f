-- Two's complement over the width: each pattern has one number in range, and each number in range one pattern.
use Rattle.std.proofs.Common.{◌≡◌, refl, sym, ap, ◌∙◌, [], ◌∷◌, ℕ, zero, suc, ◌+◌, ◌-◌, ◌^◌, ◌≤◌, ◌<◌, pow-suc, arith, ℤ, pos, negsuc, lt-ltb, le-ltb}
use Rattle.std.proofs.Math.Decide.{dec_le}
use Rattle.packed.specs.Packed.{pack_little_endian}
use Rattle.value.specs.Kinds.{Number, width, int32, int64}
use Rattle.value.specs.Tree.{GNumber, VNumber, in_number, ValidVal, TypedVal, ValueOf}
use Rattle.value.specs.Bytes.{bytes_of}
use Rattle.value.specs.Signed.{half, signed_of, pattern_of, InRange, TwosComplement, GInt32, GInt64, VInt32, VInt64}
use Rattle.value.proofs.KindLaws.{width_positive}

-- the ends of both widths, and zero
pub ends-int32 : (signed_of 4 0 ≡ pos 0) × (signed_of 4 2147483647 ≡ pos 2147483647) × (signed_of 4 2147483648 ≡ negsuc 2147483647) × (signed_of 4 4294967295 ≡ negsuc 0)
unfolding signed_of
ends-int32 = (refl, refl, refl, refl)

pub ends-int64 : (signed_of 8 0 ≡ pos 0) × (signed_of 8 9223372036854775807 ≡ pos 9223372036854775807) × (signed_of 8 9223372036854775808 ≡ negsuc 9223372036854775807) × (signed_of 8 18446744073709551615 ≡ negsuc 0)
unfolding signed_of
ends-int64 = (refl, refl, refl, refl)

-- two halves are all patterns
pub halves : (w : ℕ) → 0 < w → 256 ^ w ≡ half w + half w
halves zero h = absurd (omega arith)
halves (suc w) h = rw (pow-suc 256 w) (omega arith)

pub signed_low : (w p : ℕ) → p < half w → signed_of w p ≡ pos p
unfolding signed_of
signed_low w p h = rw (lt-ltb p (half w) h)

pub signed_high : (w p : ℕ) → half w ≤ p → p < 256 ^ w → signed_of w p ≡ negsuc (256 ^ w - suc p)
unfolding signed_of
signed_high w p h l = rw (le-ltb p (half w) h, lt-ltb p (256 ^ w) l)

-- every pattern of w bytes is that of its signed number, which is in range
pub twos_complement : (w p : ℕ) → 0 < w → p < 256 ^ w → TwosComplement w p (signed_of w p)
unfolding pattern_of
twos_complement w p h l = go (dec_le (half w) p)
  where
    go : Dec (half w ≤ p) → TwosComplement w p (signed_of w p)
    go (yes a) = rw (signed_high w p a l) (record { range = omega (arith, halves w h); pattern = omega arith; low = λ b. absurd (omega arith); high = λ b. rw (lt-ltb p (256 ^ w) l) })
    go (no a) = rw (signed_low w p (omega arith)) (record { range = omega arith; pattern = refl; low = λ b. refl; high = λ b. absurd (omega arith) })

-- and it is the only such number
pub twos_complement_only : (w p : ℕ) (z : ℤ) → TwosComplement w p z → z ≡ signed_of w p
unfolding signed_of
twos_complement_only w p z h = go (dec_le (half w) p)
  where
    go : Dec (half w ≤ p) → z ≡ signed_of w p
    go (yes a) = h.high a ∙ rw (le-ltb p (half w) a)
    go (no a) = h.low (omega arith) ∙ sym (signed_low w p (omega arith))

-- so no two patterns have the same number
pub signed-one_to_one : (w p q : ℕ) → 0 < w → p < 256 ^ w → q < 256 ^ w → signed_of w p ≡ signed_of w q → p ≡ q
signed-one_to_one w p q h l m e = sym (twos_complement w p h l).pattern ∙ ap (pattern_of w) e ∙ (twos_complement w q h m).pattern

-- every number in range has such a pattern
pub pattern-signed : (w : ℕ) (z : ℤ) → 0 < w → InRange w z → (pattern_of w z < 256 ^ w) × (signed_of w (pattern_of w z) ≡ z)
unfolding pattern_of
pattern-signed w (pos n) h r = (omega (arith, halves w h), signed_low w n r)
pattern-signed w (negsuc n) h r =
    let k = halves w h in
    let e : 256 ^ w - suc (256 ^ w - suc n) ≡ n = omega arith in
    (omega arith, signed_high w (256 ^ w - suc n) (omega arith) (omega arith) ∙ ap negsuc e)

-- −3 at both widths
pub bytes-of_minus_3 : (bytes_of (VInt32 (negsuc 2)) ≡ 253 ∷ 255 ∷ 255 ∷ 255 ∷ []) × (bytes_of (VInt64 (negsuc 2)) ≡ 253 ∷ 255 ∷ 255 ∷ 255 ∷ 255 ∷ 255 ∷ 255 ∷ 255 ∷ [])
unfolding bytes_of pattern_of pack_little_endian
bytes-of_minus_3 = (refl, refl)

-- every number in range is a value of its kind
pub value-number : (k : Number) (z : ℤ) → InRange (width k) z → ValueOf (GNumber k) (VNumber k (pattern_of (width k) z))
unfolding ValidVal TypedVal
value-number k z r = record { in_grammar = in_number; valid = tt; typed = (pattern-signed (width k) z (width_positive k) r).0 }

pub value-int32 : (z : ℤ) → InRange 4 z → ValueOf GInt32 (VInt32 z)
value-int32 z r = value-number int32 z r

pub value-int64 : (z : ℤ) → InRange 8 z → ValueOf GInt64 (VInt64 z)
value-int64 z r = value-number int64 z r

-- numbers of two kinds of one width, as 1 and 9, have the same bytes, and are two values
pub kinds_apart : (j k : Number) (n : ℕ) → width j ≡ width k → (j ≡ k → ⊥) → (bytes_of (VNumber j n) ≡ bytes_of (VNumber k n)) × (VNumber j n ≡ VNumber k n → ⊥)
unfolding bytes_of
kinds_apart j k n e d = (ap (λ (w : ℕ). pack_little_endian w n) e, λ h. let q : j ≡ k = cc in d q)
