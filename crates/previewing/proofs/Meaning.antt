-- An answer is determined by what it means, so a contract through the meaning fixes the answer.
use Rattle.std.proofs.Common.{Result, Ok, Err, ◌≡◌, ℕ, ap, arith}
use Rattle.refusal.specs.declared.Refusal.{Refusal}
use Rattle.refusal.proofs.Meaning.{reason_injective}
use Rattle.previewing.specs.declared.Previewed.{Previewed}
use Rattle.previewing.specs.Preview.{Preview, previewed_of}

pub previewed_of_injective : (a b : Result Previewed Refusal) → previewed_of a ≡ previewed_of b → a ≡ b
previewed_of_injective (Ok x) (Ok y) h =
    let p : ◌≡◌ {A = Preview} (record { size = x.size; changed = x.changed }) (record { size = y.size; changed = y.changed }) = cc in
    let e : x ≡ y = rw (ap (λ (q : Preview). q.size) p, ap (λ (q : Preview). q.changed) p) in
    ap Ok e
previewed_of_injective (Ok x) (Err s) h = let z : ◌≡◌ {A = ℕ} 0 1 = cc in absurd (omega arith)
previewed_of_injective (Err r) (Ok y) h = let z : ◌≡◌ {A = ℕ} 0 1 = cc in absurd (omega arith)
previewed_of_injective (Err r) (Err s) h = ap Err (reason_injective r s (cc))
