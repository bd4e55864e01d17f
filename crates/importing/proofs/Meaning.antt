-- An answer is determined by what it means, so a contract through the meaning fixes the answer.
use Rattle.std.proofs.Common.{◌≡◌, Result, Ok, Err, ap, sym}
use Rattle.refusal.specs.declared.Refusal.{Refusal}
use Rattle.refusal.proofs.Meaning.{reason_injective}
use Rattle.refusal.proofs.Outcome.{clash}
use Rattle.importing.specs.declared.Imported.{Imported}
use Rattle.importing.specs.Meaning.{Counts, imported_of}

pub imported_of_injective : (a b : Result Imported Refusal) → imported_of a ≡ imported_of b → a ≡ b
imported_of_injective (Ok i) (Ok j) h =
    let p : ◌≡◌ {A = Counts} (record { rows = i.rows; used = i.used }) (record { rows = j.rows; used = j.used }) = cc in
    rw (ap (λ (x : Counts). x.rows) p, ap (λ (x : Counts). x.used) p)
imported_of_injective (Ok i) (Err s) h = clash (sym h)
imported_of_injective (Err r) (Ok j) h = clash h
imported_of_injective (Err r) (Err s) h = ap Err (reason_injective r s (cc))
