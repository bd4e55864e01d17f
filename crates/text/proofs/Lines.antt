-- The longest numbers and lines, and lists put one behind the other.
use Rattle.std.proofs.Common.{◌≡◌, ℕ, ◌+◌, ◌^◌, ◌≤◌, ◌<◌, List, [], ◌++◌, length, refl, ap, arith, add-one, length-append}
use Rattle.tables.specs.Row.{Row, row_at}
use Rattle.text.specs.Text.{space, newline, numeral, most_numeral, line, lines_of}
use Rattle.text.proofs.Digits.{digits_bound, digits-one, digits_more, digits_longer}

-- a 64-bit number has 20 digits at most, and a byte stands behind it
pub numeral_bound : (n end : ℕ) → n < 2 ^ 64 → length (numeral n end) ≤ most_numeral
numeral_bound n end h = rw length-append (omega (arith, digits_bound n h))

pub lines_none : (t : List ℕ) → lines_of t 0 ≡ []
unfolding lines_of
lines_none t = refl

pub lines_more : (t : List ℕ) (n : ℕ) → lines_of t (n + 1) ≡ lines_of t n ++ line (row_at t n)
unfolding lines_of
lines_more t n = ap (lines_of t) (add-one n)

-- what the digits and lines so far are
pub ruleset pushed = (digits_bound, digits-one, digits_more, digits_longer)

-- the line of a row by the words that were read of it
pub line_of : {r : Row} {kind span word2 word3 size : ℕ} → kind ≡ r.kind → span ≡ r.span → word2 ≡ r.word2 → word3 ≡ r.word3 → size ≡ r.size → numeral kind space ++ (numeral span space ++ (numeral word2 space ++ (numeral word3 space ++ numeral size newline))) ≡ line r
line_of p q x y z = rw (p, q, x, y, z)
