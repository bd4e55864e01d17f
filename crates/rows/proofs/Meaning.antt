-- An answer of the locator is determined by what it means, so a contract through the meaning fixes the answer.
use Rattle.std.proofs.Common.{Result, Ok, Err, ◌≡◌, ℕ, ap, arith}
use Rattle.refusal.specs.declared.Refusal.{Refusal}
use Rattle.refusal.proofs.Meaning.{reason_injective}
use Rattle.rows.specs.declared.Located.{Located}
use Rattle.rows.specs.Locate.{Part}
use Rattle.rows.specs.Meaning.{part_of, located}

pub located_injective : (a b : Result Located Refusal) → located a ≡ located b → a ≡ b
located_injective (Ok x) (Ok y) h =
    let p : ◌≡◌ {A = Part} (part_of x) (part_of y) = cc in
    let e : x ≡ y = rw (ap (λ (q : Part). q.start) p, ap (λ (q : Part). q.size) p) in
    ap Ok e
located_injective (Ok x) (Err s) h = let z : ◌≡◌ {A = ℕ} 0 1 = cc in absurd (omega arith)
located_injective (Err r) (Ok y) h = let z : ◌≡◌ {A = ℕ} 0 1 = cc in absurd (omega arith)
located_injective (Err r) (Err s) h = ap Err (reason_injective r s (cc))
