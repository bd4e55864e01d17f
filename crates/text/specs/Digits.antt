-- A number in decimal notation, in ASCII, defined on every number.
use Rattle.std.specs.Prelude.{Bool, true, false, List, [], ◌∷◌, ◌++◌, ℕ, zero, suc, ◌+◌, ◌-◌, ◌*◌, ◌/◌, ◌%◌, ltb}

-- the code of a digit below 10
abbrev pub digit : ℕ → ℕ
digit d = 48 + d

-- what is chosen waits for the test
abbrev pub choose : Bool → (Unit {0} → List ℕ) → (Unit {0} → List ℕ) → List ℕ
choose true whole parted = whole tt
choose false whole parted = parted tt

-- the digits of n, which is divided k times at most
unfoldable pub digits_within : ℕ → ℕ → List ℕ
digits_within zero n = digit n ∷ []
digits_within (suc k) n = choose (ltb n 10) (λ _. digit n ∷ []) (λ _. digits_within k (n / 10) ++ (digit (n % 10) ∷ []))

-- the digits of n, the greatest place first, `0` for 0: n divisions are enough
unfoldable pub digits : ℕ → List ℕ
digits n = digits_within n n

-- digits read as a number, behind digits that were read as `front`
unfoldable pub number_behind : ℕ → List ℕ → ℕ
number_behind front [] = front
number_behind front (d ∷ ds) = number_behind (10 * front + (d - 48)) ds
