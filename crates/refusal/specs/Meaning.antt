-- What the code's types mean: which number and place of the papers a `Refusal`, which outcome a `Result`.
use Rattle.std.specs.Prelude.{Result, Ok, Err}
use Rattle.refusal.specs.declared.Place.{Place}
use Rattle.refusal.specs.declared.Place.TheVariants.{Word, Byte, Row}
use Rattle.refusal.specs.declared.Refusal.{Refusal}
use Rattle.refusal.specs.Outcome.{Location, word, byte, row, Reason, reason, Outcome, accepted, refused}

abbrev pub location_of : Place → Location
location_of (Word n) = word n
location_of (Byte n) = byte n
location_of (Row n) = row n

abbrev pub reason_of : Refusal → Reason
reason_of r = reason r.number (location_of r.place)

-- the outcome of a call that answers with a value, or with nothing (`()`), else with its refusal
abbrev pub outcome_of : {A : Type 0} → Result A Refusal → Outcome Reason A
outcome_of (Ok a) = accepted a
outcome_of (Err r) = refused (reason_of r)
