-- An answer is determined by what it means, so a contract through the meaning fixes the answer.
use Rattle.std.proofs.Common.{◌≡◌, ap, sym, Result, Ok, Err}
use Rattle.refusal.specs.declared.Refusal.{Refusal}
use Rattle.refusal.proofs.Outcome.{clash}
use Rattle.refusal.proofs.Meaning.{reason_injective}
use Rattle.choosing.specs.declared.Chosen.{Chosen}
use Rattle.choosing.specs.Choose.{Choice, chosen_of}

pub chosen_of_injective : (a b : Result Chosen Refusal) → chosen_of a ≡ chosen_of b → a ≡ b
chosen_of_injective (Ok a) (Ok b) h =
    let p : ◌≡◌ {A = Choice} (record { number = a.number; begun = a.begun }) (record { number = b.number; begun = b.begun }) = cc in
    rw (ap (λ (x : Choice). x.number) p, ap (λ (x : Choice). x.begun) p)
chosen_of_injective (Ok a) (Err s) h = clash (sym h)
chosen_of_injective (Err r) (Ok b) h = clash h
chosen_of_injective (Err r) (Err s) h = ap Err (reason_injective r s (cc))
