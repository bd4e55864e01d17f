-- What the writers leave in the output beside what they answer.
use Rattle.std.specs.Prelude.{◌≡◌, List, ℕ, Result}
use Rattle.refusal.specs.Outcome.{Outcome, map, contents, Reason}
use Rattle.packed.specs.Packed.{put}
use Rattle.value.specs.Tree.{Val, SizeOfV}
use Rattle.value.specs.Bytes.{bytes_of}
use Rattle.refusal.specs.declared.Refusal.{Refusal}
use Rattle.refusal.specs.Meaning.{outcome_of}

-- a writer's answer is the value's size, and the output at exit is that at entry with the value's bytes at the index; after a refusal
-- it is that at entry
pub record Marshalls (o : Outcome Reason Val) (index : ℕ) (r : Result ℕ Refusal) (entry exit : List ℕ) : Type 0 where
  pub answers : outcome_of r ≡ map SizeOfV o
  pub output : exit ≡ contents (map (λ v. put entry index (bytes_of v)) o) entry
