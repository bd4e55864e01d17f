-- Two's complement of a pattern of w bytes: as the machine's cast to a signed number of the width m gives it, and as −1 − (largest pattern − pattern).
use Rattle.std.proofs.Common.{◌≡◌, refl, ap, ◌∙◌, ℕ, zero, suc, ◌-◌, ◌^◌, ◌<◌, ◌≤◌, sym, arith, le-ltb, to_z, pos, negsuc, ◌-ℤ◌}
use Rattle.std.proofs.Math.Nat.{zero-add}
use Rattle.std.proofs.Math.Decide.{dec_le}
use mir.Syntax.{Width}
use mir.Val.{bits, hbits, SFits, of_z}
use Rattle.std.proofs.lemmas.Int.{to_z_pos, to_z-of_z}
use Rattle.value.specs.Signed.{half, signed_of}
use Rattle.value.proofs.Signed.{halves, signed_low, signed_high}

-- −1 − q
minus_one : (q : ℕ) → negsuc 0 -ℤ pos q ≡ negsuc q
minus_one zero = refl
minus_one (suc n) = ap (λ (x : ℕ). negsuc (suc x)) (zero-add n)

module _ (m : Width) (w : ℕ) (same : 2 ^ hbits m ≡ half w) (p : ℕ) where
  -- of a pattern below half the number is the pattern
  pub low : p < half w → to_z m p ≡ signed_of w p
  low h = to_z_pos m p (rw same h) ∙ sym (signed_low w p h)

  -- of another one it is −1 − (largest pattern − pattern)
  module _ (positive : 0 < w) (largest : ℕ) (all : 256 ^ w ≡ suc largest) (h : half w ≤ p) (l : p < 256 ^ w) where
    small : largest - p < 2 ^ hbits m
    small = rw same (omega (arith, halves w positive))

    value : negsuc 0 -ℤ to_z m (largest - p) ≡ signed_of w p
    value =
        let e : 256 ^ w - suc p ≡ largest - p = omega arith in
        rw (to_z_pos m (largest - p) small) (minus_one (largest - p) ∙ ap negsuc (sym e) ∙ sym (signed_high w p h l))

    pub high_fits : SFits m (negsuc 0 -ℤ to_z m (largest - p))
    high_fits = rw (to_z_pos m (largest - p) small, minus_one (largest - p)) (record { sfits = small })

    pub high : to_z m (of_z m (negsuc 0 -ℤ to_z m (largest - p))) ≡ signed_of w p
    high = to_z-of_z m (negsuc 0 -ℤ to_z m (largest - p)) high_fits ∙ value

  -- of any pattern of so many bytes it is what the machine's cast gives
  pub cast-signed : 2 ^ bits m ≡ 256 ^ w → p < 256 ^ w → to_z m p ≡ signed_of w p
  cast-signed all l = go (dec_le (half w) p)
    where
      go : Dec (half w ≤ p) → to_z m p ≡ signed_of w p
      go (yes h) = rw (same, all, le-ltb p (half w) h) (sym (signed_high w p h l))
      go (no h) = low (omega arith)
