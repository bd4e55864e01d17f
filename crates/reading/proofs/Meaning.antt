-- An answer is determined by what it means, so a contract through the meaning fixes the answer.
use Rattle.std.proofs.Common.{◌≡◌, ℕ, Result, Ok, Err, ap, arith}
use Rattle.refusal.specs.declared.Refusal.{Refusal}
use Rattle.refusal.proofs.Meaning.{reason_injective}
use Rattle.reading.specs.declared.Parsed.{Parsed}
use Rattle.reading.specs.Meaning.{Counts, parsed_of}

pub parsed_of_injective : (a b : Result Parsed Refusal) → parsed_of a ≡ parsed_of b → a ≡ b
parsed_of_injective (Ok p) (Ok q) h =
    let c : ◌≡◌ {A = Counts} (record { rows = p.rows; rest_index = p.rest_index }) (record { rows = q.rows; rest_index = q.rest_index }) = cc in
    rw (ap (λ (x : Counts). x.rows) c, ap (λ (x : Counts). x.rest_index) c)
parsed_of_injective (Ok p) (Err s) h = let z : ◌≡◌ {A = ℕ} 0 1 = cc in absurd (omega arith)
parsed_of_injective (Err r) (Ok q) h = let z : ◌≡◌ {A = ℕ} 0 1 = cc in absurd (omega arith)
parsed_of_injective (Err r) (Err s) h = ap Err (reason_injective r s (cc))
