-- What `rewrite` answers: the whole reading of a record, and the record written again from what was handed out.
use Rattle.std.specs.Prelude.{◌≡◌, List, ℕ, length, Result}
use Rattle.refusal.specs.declared.Refusal.{Refusal}
use Rattle.refusal.specs.Meaning.{outcome_of}
use Rattle.refusal.specs.Outcome.{Outcome, bind, map, contents, Reason}
use Rattle.packed.specs.Packed.{room, put}
use Rattle.value.specs.Tree.{Val}
use Rattle.value.specs.Step.{Step}
use Rattle.value.specs.Reading.{State}
use Rattle.rows.specs.Layout.{rows_of}
use Rattle.admission.specs.Admission.{capacity_of}
use Rattle.reading.specs.Calls.{demarshall_of}

-- 17 first, where the record has no room, so that no refusal comes behind rows that were filled; then the whole reading
unfoldable pub rewrite_of : List ℕ → List ℕ → ℕ → ℕ → ℕ → Outcome Reason (Step State Val)
rewrite_of g d capacity len index = bind (room len index (length d)) (λ _. demarshall_of g d capacity)

-- the answer is the record's length, rows 0 to n − 1 are the layout of its value, and the output has exactly the record at the index
pub record Rewrites (g d rows out : List ℕ) (index : ℕ) (r : Result ℕ Refusal) (filled exit : List ℕ) : Type 0 where
  pub answers : outcome_of r ≡ map (λ _. length d) (rewrite_of g d (capacity_of (length rows)) (length out) index)
  pub layout : filled ≡ contents (map (λ t. put rows 0 (rows_of t.value 0)) (rewrite_of g d (capacity_of (length rows)) (length out) index)) rows
  pub output : exit ≡ contents (map (λ _. put out index d) (rewrite_of g d (capacity_of (length rows)) (length out) index)) out
