-- The contracts of the second walk: over rows that stand for a value, its answer is what `check_in_grammar` says of that value.
use Rattle.std.specs.Prelude.{◌≡◌, List, ℕ, ◌+◌, ◌*◌, ◌≤◌, length, Result}
use Rattle.refusal.specs.Outcome.{Outcome, Reason}
use Rattle.refusal.specs.Meaning.{outcome_of}
use Rattle.refusal.specs.declared.Refusal.{Refusal}
use Rattle.value.specs.Tree.{G, Val, Vals, seq_v, row_count, row_counts}
use Rattle.tables.specs.Row.{row_width}
use Rattle.rows.specs.Rule.{StandFor, StandForAll}
use Rattle.sizing.specs.InGrammar.{check_in_grammar}

-- the rows from row i on, all in the table, stand for a value, with some store
pub record Standing (t : List ℕ) (i : ℕ) : Type 0 where
  pub store : List ℕ
  pub value : Val
  pub rows : StandFor t store i value
  pub within : row_width * (i + row_count value) ≤ length t

-- and for so many values, one behind the other
pub record StandingAll (t : List ℕ) (count i : ℕ) : Type 0 where
  pub store : List ℕ
  pub values : Vals
  pub rows : StandForAll t store i values
  pub many : length (seq_v values) ≡ count
  pub within : row_width * (i + row_counts values) ≤ length t

-- r is the answer for the value whose own row is row i, whichever value and store that is
abbrev pub Checks : List ℕ → ℕ → G → Result (Unit {0}) Refusal → Type 0
Checks t i g r = (s : List ℕ) (v : Val) → StandFor t s i v → outcome_of r ≡ check_in_grammar v g i

-- r is the answer for so many values from row i on, where `check` says what it is to be
abbrev pub ChecksAll : List ℕ → ℕ → ℕ → (Vals → Outcome Reason (Unit {0})) → Result (Unit {0}) Refusal → Type 0
ChecksAll t count i check r = (s : List ℕ) (vs : Vals) → StandForAll t s i vs → length (seq_v vs) ≡ count → outcome_of r ≡ check vs
