-- What the writers put.
use Rattle.std.proofs.Common.{◌≡◌, List, ℕ, arith, length, Result}
use Rattle.refusal.specs.declared.Refusal.{Refusal}
use Rattle.refusal.specs.Meaning.{outcome_of}
use Rattle.refusal.specs.Outcome.{accepted}
use Rattle.value.specs.Tree.{Val, SizeOfV}
use Rattle.value.specs.Bytes.{bytes_of}
use Rattle.value.proofs.Laws.{length_bytes_of}
use Rattle.sizing.proofs.Writes.{write_accepted}
use Rattle.writing.proofs.Laws.{marshall_size, marshall_output}
use Rattle.sizing.specs.Writes.{marshall_val_of, Writes}
use Rattle.writing.specs.Marshall.{Marshalls}
use Rattle.route.specs.Demands.{PutThere}
use Rattle.route.proofs.Put.{put-at}

-- what is put of a value to be written
module _ {g t s out exit : List ℕ} {n index : ℕ} {r : Result ℕ Refusal} (m : Marshalls (marshall_val_of g t n s (length out) index) index r out exit) (v : Val) (w : Writes g t n s (length out) index v) where
  pub written : (outcome_of r ≡ accepted (SizeOfV v)) × PutThere (bytes_of v) out index exit
  written =
      let o : marshall_val_of g t n s (length out) index ≡ accepted v = write_accepted g t n s (length out) index v w in (
        marshall_size g t n s out exit index r m v o,
        put-at out index (bytes_of v) (omega (arith, length_bytes_of v, w.room)) (marshall_output g t n s out exit index r m v o),
      )
