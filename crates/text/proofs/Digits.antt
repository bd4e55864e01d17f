-- `digits` is the decimal notation: it is read back as the number, and only 0 begins with `0`.
use Rattle.std.proofs.Common.{◌≡◌, refl, sym, ◌∙◌, List, [], ◌∷◌, ◌++◌, ℕ, zero, suc, ◌+◌, ◌-◌, ◌*◌, ◌/◌, ◌%◌, ◌^◌, ◌≤◌, ◌<◌, pow-suc, arith, length, get_or, length-append, lt-ltb, le-ltb}
use Rattle.std.proofs.Math.Decide.{dec_le}
use Rattle.text.specs.Digits.{digit, digits_within, digits, number_behind}

-- more divisions than are enough change nothing
within_enough : (k j n : ℕ) → n ≤ k → n ≤ j → digits_within k n ≡ digits_within j n
unfolding digits_within
within_enough zero zero n h l = refl
within_enough zero (suc j) n h l = let e : n < 10 = omega arith in sym (rw (lt-ltb n 10 e))
within_enough (suc k) zero n h l = let e : n < 10 = omega arith in rw (lt-ltb n 10 e)
within_enough (suc k) (suc j) n h l = rw (within_enough k j (n / 10) (omega arith) (omega arith))

pub digits-one : (n : ℕ) → n < 10 → digits n ≡ digit n ∷ []
unfolding digits digits_within
digits-one zero h = refl
digits-one (suc n) h = rw (lt-ltb (suc n) 10 h)

pub digits_more : (n : ℕ) → 10 ≤ n → digits n ≡ digits (n / 10) ++ (digit (n % 10) ∷ [])
unfolding digits digits_within
digits_more zero h = absurd (omega arith)
digits_more (suc n) h = rw (le-ltb (suc n) 10 h, within_enough n (suc n / 10) (suc n / 10) (omega arith) (omega arith))

-- what holds of one digit, and goes on to one digit more, holds of all digits
module _ (P : ℕ → List ℕ → Type 0) (one : (n : ℕ) → n < 10 → P n (digit n ∷ [])) (more : (n : ℕ) (ds : List ℕ) → 10 ≤ n → P (n / 10) ds → P n (ds ++ (digit (n % 10) ∷ []))) where
  along_within : (k n : ℕ) → n ≤ k → P n (digits n)
  along_within zero n h = let l : n < 10 = omega arith in rw (digits-one n l) (one n l)
  along_within (suc k) n h = go (dec_le 10 n) (λ l. along_within k (n / 10) (omega arith))
    where
      go : Dec (10 ≤ n) → (10 ≤ n → P (n / 10) (digits (n / 10))) → P n (digits n)
      go (yes l) f = rw (digits_more n l) (more n (digits (n / 10)) l (f l))
      go (no l) f = let m : n < 10 = omega arith in rw (digits-one n m) (one n m)

  along : (n : ℕ) → P n (digits n)
  along n = along_within n n (omega arith)

behind_last : (front : ℕ) (ds : List ℕ) (d : ℕ) → number_behind front (ds ++ (d ∷ [])) ≡ 10 * number_behind front ds + (d - 48)
unfolding number_behind
behind_last front [] d = refl
behind_last front (x ∷ ds) d = behind_last (10 * front + (x - 48)) ds d

-- the digits are read back as the number
pub digits-read : (n : ℕ) → number_behind 0 (digits n) ≡ n
unfolding number_behind
digits-read = along (λ n ds. number_behind 0 ds ≡ n) (λ n h. omega arith) (λ n ds h e. behind_last 0 ds (digit (n % 10)) ∙ rw e (omega arith))

-- each byte is the code of a digit
abbrev pub AllDigits : List ℕ → Type 0
AllDigits [] = Unit {0}
AllDigits (d ∷ ds) = (48 ≤ d) × (d ≤ 57) × AllDigits ds

all_last : (ds : List ℕ) (d : ℕ) → d < 10 → AllDigits ds → AllDigits (ds ++ (digit d ∷ []))
all_last [] d h a = (omega arith, omega arith, tt)
all_last (x ∷ ds) d h a = (a.0, a.1, all_last ds d h a.2)

pub digits_each : (n : ℕ) → AllDigits (digits n)
digits_each = along (λ n ds. AllDigits ds) (λ n h. (omega arith, omega arith, tt)) (λ n ds h a. all_last ds (n % 10) (omega arith) a)

first_last : (ds : List ℕ) (d : ℕ) → 48 < get_or ds 0 0 → 48 < get_or (ds ++ (d ∷ [])) 0 0
first_last [] d h = absurd (omega arith)
first_last (x ∷ ds) d h = h

-- only 0 begins with `0`
pub digits-first : (n : ℕ) → 0 < n → 48 < get_or (digits n) 0 0
digits-first = along (λ n ds. 0 < n → 48 < get_or ds 0 0) (λ n h p. omega arith) (λ n ds h e p. first_last ds (digit (n % 10)) (e (omega arith)))

few_more : (k n : ℕ) (ds : List ℕ) → 10 ≤ n → n < 10 ^ suc k → ((j : ℕ) → n / 10 < 10 ^ suc j → length ds ≤ suc j) → length (ds ++ (digit (n % 10) ∷ [])) ≤ suc k
few_more zero n ds h l f = absurd (omega arith)
few_more (suc k) n ds h l f = let m : n < 10 ^ suc k * 10 = rw (pow-suc 10 (suc k)) at l in rw length-append (omega (arith, f k (omega arith)))

-- a number below 10 to the power k has k digits at most
digits-few : (n k : ℕ) → n < 10 ^ suc k → length (digits n) ≤ suc k
digits-few = along (λ n ds. (k : ℕ) → n < 10 ^ suc k → length ds ≤ suc k) (λ n h k l. omega arith) (λ n ds h f k l. few_more k n ds h l f)

-- a 64-bit number has 20 at most
pub digits_bound : (n : ℕ) → n < 2 ^ 64 → length (digits n) ≤ 20
digits_bound n h = digits-few n 19 (omega arith)

pub digits_longer : (n : ℕ) → 10 ≤ n → length (digits n) ≡ length (digits (n / 10)) + 1
digits_longer n h = rw (digits_more n h, length-append)
