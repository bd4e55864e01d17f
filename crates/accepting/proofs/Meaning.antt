-- An answer is determined by what it means, so a contract through the meaning fixes the answer.
use Rattle.std.proofs.Common.{◌≡◌, ap, sym, Result, Ok, Err}
use Rattle.refusal.specs.declared.Refusal.{Refusal}
use Rattle.refusal.proofs.Outcome.{clash}
use Rattle.refusal.proofs.Meaning.{reason_injective}
use Rattle.accepting.specs.declared.Verdict.{Verdict as CodeVerdict}
use Rattle.accepting.specs.Accepts.{Verdict, verdict_named, verdict_of}

pub verdict_of_injective : (a b : Result CodeVerdict Refusal) → verdict_of a ≡ verdict_of b → a ≡ b
verdict_of_injective (Ok v) (Ok w) h =
    let p : verdict_named v ≡ verdict_named w = cc in
    rw (ap (λ (x : Verdict). x.yes) p, ap (λ (x : Verdict). x.begun) p)
verdict_of_injective (Ok v) (Err s) h = clash (sym h)
verdict_of_injective (Err r) (Ok w) h = clash h
verdict_of_injective (Err r) (Err s) h = ap Err (reason_injective r s (cc))
