-- A `Refusal` and a `Result` are determined by what they mean, so a contract through the meaning fixes the answer.
use Rattle.std.proofs.Common.{◌≡◌, refl, ap, sym, ◌∙◌, ℕ, Result, Ok, Err, arith}
use Rattle.refusal.specs.declared.Place.{Place}
use Rattle.refusal.specs.declared.Place.TheVariants.{Word, Byte, Row}
use Rattle.refusal.specs.declared.Refusal.{Refusal}
use Rattle.refusal.specs.Outcome.{Location, word, byte, row, Reason, reason, Outcome, accepted, refused}
use Rattle.refusal.specs.Meaning.{location_of, reason_of, outcome_of}

abbrev place_of : Location → Place
place_of (word n) = Word n
place_of (byte n) = Byte n
place_of (row n) = Row n

place_of_lem : (p : Place) → place_of (location_of p) ≡ p
place_of_lem (Word n) = refl
place_of_lem (Byte n) = refl
place_of_lem (Row n) = refl

abbrev pub refusal_of : Reason → Refusal
refusal_of (reason n l) = record { place = place_of l; number = n }

pub refusal-of : (r : Refusal) → refusal_of (reason_of r) ≡ r
refusal-of r = rw (place_of_lem r.place)

pub reason_injective : (r s : Refusal) → reason_of r ≡ reason_of s → r ≡ s
reason_injective r s h = sym (refusal-of r) ∙ ap refusal_of h ∙ refusal-of s

pub outcome_injective : {A : Type 0} (a b : Result A Refusal) → outcome_of a ≡ outcome_of b → a ≡ b
outcome_injective (Ok x) (Ok y) h = cc
outcome_injective (Ok x) (Err s) h = let z : ◌≡◌ {A = ℕ} 0 1 = cc in absurd (omega arith)
outcome_injective (Err r) (Ok y) h = let z : ◌≡◌ {A = ℕ} 0 1 = cc in absurd (omega arith)
outcome_injective (Err r) (Err s) h = ap Err (reason_injective r s (cc))

-- what an answer that was matched means
pub matched : {A B : Type 0} (meaning : A → B) {o : B} {p q : A} → p ≡ q → meaning p ≡ o → meaning q ≡ o
matched meaning e h = ap meaning (sym e) ∙ h

-- of a `Result`
module _ {A : Type 0} {r : Result A Refusal} {o : Outcome Reason A} where
  pub done : {a : A} → r ≡ Ok a → outcome_of r ≡ o → accepted a ≡ o
  done p h = matched outcome_of p h

  pub stopped : {x : Refusal} → r ≡ Err x → outcome_of r ≡ o → refused (reason_of x) ≡ o
  stopped p h = matched outcome_of p h
