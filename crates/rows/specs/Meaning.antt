-- What an answer of the locator means: the part of the store, or the refusal's number and place.
use Rattle.std.specs.Prelude.{Result}
use Rattle.refusal.specs.declared.Refusal.{Refusal}
use Rattle.refusal.specs.Outcome.{Outcome, map, Reason}
use Rattle.refusal.specs.Meaning.{outcome_of}
use Rattle.rows.specs.Locate.{Part}
use Rattle.rows.specs.declared.Located.{Located}

abbrev pub part_of : Located → Part
part_of l = record { start = l.start; size = l.size }

abbrev pub located : Result Located Refusal → Outcome Reason Part
located r = map part_of (outcome_of r)
