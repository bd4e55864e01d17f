-- Putting what was decided.
use Rattle.std.proofs.Common.{◌≡◌, ap, sym, ◌∙◌, List, ℕ, ◌+◌, ◌^◌, ◌≤◌, ◌<◌, arith, Ok, Err}
use Rattle.refusal.specs.Outcome.{Outcome, accepted, refused, map, contents, Reason}
use Rattle.refusal.specs.Meaning.{reason_of}
use Rattle.refusal.specs.declared.Refusal.{Refusal}
use Rattle.refusal.proofs.Outcome.{map-accepted, map-refused}
use Rattle.packed.specs.Packed.{Bytes, Below, put}
use Rattle.value.specs.Tree.{Val, SizeOfV}
use Rattle.value.specs.Bytes.{bytes_of}
use Rattle.rows.specs.Rule.{RowHolds, TableOf}
use Rattle.rows.specs.Size.{size_from}
use Rattle.rows.proofs.Rule.{accepted_exactly as rows_exactly}
use Rattle.rows.proofs.Parts.{table-holds}
use Rattle.rows.proofs.Size.{table-size}
use Rattle.sizing.specs.Writes.{marshall_val_of}
use Rattle.sizing.proofs.Writes.{accepted_writes}
use Rattle.writing.specs.Marshall.{Marshalls}

-- the value to be put, and its table
pub record Written (g t : List ℕ) (n : ℕ) (s : List ℕ) (len index : ℕ) : Type 0 where
  pub value : Val
  pub decided : marshall_val_of g t n s len index ≡ accepted value
  pub table : TableOf t n s value

module _ (g t : List ℕ) (n : ℕ) (s : List ℕ) (len index : ℕ) where
  pub written : Below (2 ^ 64) t → Bytes s → {size : ℕ} → accepted size ≡ map SizeOfV (marshall_val_of g t n s len index) → Written g t n s len index
  written words bytes h =
      let x = map-accepted SizeOfV (marshall_val_of g t n s len index) (sym h) in
      let w = accepted_writes g t n s len index x.0 x.1 in
      record { value = x.0; decided = x.1; table = (rows_exactly t n s x.0 words bytes).0 w.rows }

  pub put-ready : Written g t n s len index → ((j : ℕ) → j < n → RowHolds t s j) × (index + size_from t 0 n ≤ len)
  put-ready w =
      let v = w.value in
      let h = w.table in
      (table-holds t n s v h, omega (arith, table-size t n s v h, (accepted_writes g t n s len index v w.decided).room))

module _ (o : Outcome Reason Val) (index : ℕ) (out : List ℕ) where
  output : {x : Outcome Reason Val} → o ≡ x → contents (map (λ v. put out index (bytes_of v)) o) out ≡ contents (map (λ v. put out index (bytes_of v)) x) out
  output e = ap (λ (x : Outcome Reason Val). contents (map (λ v. put out index (bytes_of v)) x) out) e

  pub marshalls_refused : (r : Refusal) → refused (reason_of r) ≡ map SizeOfV o → Marshalls o index (Err r) out out
  unfolding output
  marshalls_refused r h = record { answers = h; output = sym (output (map-refused SizeOfV o (sym h))) }

  pub marshalls_put : {size : ℕ} {v : Val} {exit : List ℕ} → accepted size ≡ map SizeOfV o → o ≡ accepted v → exit ≡ put out index (bytes_of v) → Marshalls o index (Ok size) out exit
  unfolding output
  marshalls_put h e p = record { answers = h; output = p ∙ sym (output e) }
