-- What the answer of a reading means.
use Rattle.std.specs.Prelude.{ℕ, Result}
use Rattle.refusal.specs.Outcome.{Outcome, map, Reason}
use Rattle.refusal.specs.declared.Refusal.{Refusal}
use Rattle.refusal.specs.Meaning.{outcome_of}
use Rattle.reading.specs.declared.Parsed.{Parsed}

-- what an accepted reading gives: the row count and `rest_index`
pub record Counts : Type 0 where
  pub rows : ℕ
  pub rest_index : ℕ

abbrev pub parsed_of : Result Parsed Refusal → Outcome Reason Counts
parsed_of r = map (λ p. record { rows = p.rows; rest_index = p.rest_index }) (outcome_of r)
