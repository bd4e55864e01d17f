-- What the states and answers of the code mean.
use Rattle.std.specs.Prelude.{◌≡◌, ℕ, ◌<◌, Result, Ok, Err}
use Rattle.refusal.specs.Outcome.{Outcome, refused, map, Reason}
use Rattle.refusal.specs.declared.Refusal.{Refusal}
use Rattle.refusal.specs.Meaning.{reason_of, outcome_of}
use Rattle.value.specs.Step.{yield}
use Rattle.xdr.specs.Import.{Filling, Importing}
use Rattle.importing.specs.declared.Filling.{Filling as CodeFilling}
use Rattle.importing.specs.declared.Imported.{Imported}

abbrev pub filling_of : CodeFilling → Filling
filling_of s = record { at = s.at; begun = s.begun; used = s.used }

-- what a reader answers: the state behind what it read, or a refusal
abbrev pub CodeStep : Type 0
CodeStep = Result CodeFilling Refusal

abbrev pub step_of : CodeStep → Outcome Reason Filling
step_of r = map filling_of (outcome_of r)

-- the size of what was imported, where a step goes on
abbrev pub StepSize : ℕ → CodeStep → Type 0
StepSize size (Ok s) = s.size ≡ size
StepSize size (Err r) = Unit {0}

-- what taking a number answers
abbrev pub Taken : Type 0
Taken = Result (ℕ × CodeFilling) Refusal

abbrev pub taken_of : Taken → Importing ℕ
taken_of (Ok t) = yield t.0 (filling_of t.1)
taken_of (Err r) = refused (reason_of r)

-- a number that was taken is below a bound
abbrev pub TakenBelow : ℕ → Taken → Type 0
TakenBelow bound (Ok t) = t.0 < bound
TakenBelow bound (Err r) = Unit {0}

-- the size of what was imported, where a number was taken
abbrev pub TakenSize : ℕ → Taken → Type 0
TakenSize size (Ok t) = t.1.size ≡ size
TakenSize size (Err r) = Unit {0}

-- what an accepted import gives: the row count, and the bytes of the store used
pub record Counts : Type 0 where
  pub rows : ℕ
  pub used : ℕ

abbrev pub imported_of : Result Imported Refusal → Outcome Reason Counts
imported_of r = map (λ i. record { rows = i.rows; used = i.used }) (outcome_of r)
