-- What was decided and counted is the preview, which equals what a writing answers and changes; and what a caller may take from it.
use Rattle.std.proofs.Common.{◌≡◌, refl, ap, sym, ◌∙◌, ◌↔◌, List, ℕ, ◌≤◌, arith, length, drop, Result}
use Rattle.refusal.specs.Outcome.{Outcome, accepted, refused, map, contents, Reason}
use Rattle.refusal.proofs.Outcome.{map-accepted, map-refused}
use Rattle.packed.specs.Packed.{put}
use Rattle.value.specs.Tree.{Val, SizeOfV}
use Rattle.value.specs.Bytes.{bytes_of}
use Rattle.value.proofs.Laws.{length_bytes_of}
use Rattle.rows.specs.Size.{bytes_from}
use Rattle.rows.proofs.Size.{table-bytes}
use Rattle.refusal.specs.declared.Refusal.{Refusal}
use Rattle.refusal.specs.Meaning.{outcome_of}
use Rattle.sizing.specs.Writes.{marshall_val_of}
use Rattle.sizing.proofs.Writes.{accepted_writes}
use Rattle.writing.specs.Marshall.{Marshalls}
use Rattle.writing.proofs.Writing.{Written}
use Rattle.writing.proofs.Laws.{marshall_output, marshall_length, marshall_bytes}
use Rattle.previewing.specs.Preview.{differing, Preview, preview_of, EqualsWriting, Consequences}
use Rattle.previewing.proofs.Differing.{differing-most, differing-front, differing-put, counts_places}

module _ (g t : List ℕ) (n : ℕ) (s out : List ℕ) (index : ℕ) where
  abbrev of : Val → Preview
  of v = record { size = SizeOfV v; changed = differing out (put out index (bytes_of v)) }

  pub preview-refused : {e : Reason} → refused e ≡ map SizeOfV (marshall_val_of g t n s (length out) index) → refused e ≡ preview_of g t n s out index
  unfolding preview_of
  preview-refused h = sym (ap (map of) (map-refused SizeOfV (marshall_val_of g t n s (length out) index) (sym h)))

  pub preview-counted : {size changed : ℕ} → Written g t n s (length out) index → accepted size ≡ map SizeOfV (marshall_val_of g t n s (length out) index) → changed ≡ differing (drop index out) (bytes_from t s 0 n) → accepted (record { size = size; changed = changed }) ≡ preview_of g t n s out index
  unfolding preview_of
  preview-counted {size = size} w h e =
      let v = w.value in
      let z : ◌≡◌ {A = Outcome Reason ℕ} (accepted size) (accepted (SizeOfV v)) = h ∙ ap (map SizeOfV) w.decided in
      let m : size ≡ SizeOfV v = cc in
      let f : index ≤ length out = omega (arith, (accepted_writes g t n s (length out) index v w.decided).room) in
      rw (w.decided, m, e, table-bytes t n s v w.table, differing-put out index (bytes_of v) f)

-- both go by the writers' outcome
equals : (o : Outcome Reason Val) (out : List ℕ) (index : ℕ) → ◌≡◌ {A = Outcome Reason Preview} (map (λ v. record { size = SizeOfV v; changed = differing out (put out index (bytes_of v)) }) o) (map (λ size. record { size = size; changed = differing out (contents (map (λ v. put out index (bytes_of v)) o) out) }) (map SizeOfV o))
equals (accepted v) out index = refl
equals (refused e) out index = refl

pub equals_writing : EqualsWriting
unfolding preview_of
equals_writing g t s out exit n index p w h m =
    h
    ∙ equals (marshall_val_of g t n s (length out) index) out index
    ∙ rw (m.answers, m.output)

-- ---- what a caller may take from it

changed-most : (g t s out : List ℕ) (n index : ℕ) (p : Preview) → preview_of g t n s out index ≡ accepted p → (p.changed ≤ p.size) × (p.size ≤ 1048576)
unfolding preview_of
changed-most g t s out n index p h =
    let x = map-accepted (of g t n s out index) (marshall_val_of g t n s (length out) index) h in
    let v = x.0 in
    let w = accepted_writes g t n s (length out) index v x.1 in
    let d = differing-put out index (bytes_of v) (omega (arith, w.room)) in
    rw x.2 (omega (arith, d, (differing-most (drop index out) (bytes_of v)).1, length_bytes_of v), w.small)

changed-none : (g t s out exit : List ℕ) (n index : ℕ) (p : Preview) (w : Result ℕ Refusal) → preview_of g t n s out index ≡ accepted p → Marshalls (marshall_val_of g t n s (length out) index) index w out exit → (p.changed ≡ 0) ↔ (exit ≡ out)
unfolding preview_of
changed-none g t s out exit n index p w h m =
    let x = map-accepted (of g t n s out index) (marshall_val_of g t n s (length out) index) h in
    let v = x.0 in
    let e : p.changed ≡ differing out exit = ap (λ (y : Preview). y.changed) x.2 ∙ ap (differing out) (sym (marshall_output g t n s out exit index w m v x.1)) in
    let z = counts_places.zero out exit (sym (marshall_length g t n s out exit index w m v x.1)) in
    (λ c. sym (z.0 (sym e ∙ c)), λ q. e ∙ z.1 (sym q))

preview-again : (g t s out exit : List ℕ) (n index size : ℕ) (w : Result ℕ Refusal) → Marshalls (marshall_val_of g t n s (length out) index) index w out exit → outcome_of w ≡ accepted size → preview_of g t n s exit index ≡ accepted (record { size = size; changed = 0 })
unfolding preview_of
preview-again g t s out exit n index size w m h =
    let x = map-accepted SizeOfV (marshall_val_of g t n s (length out) index) (sym m.answers ∙ h) in
    let v = x.0 in
    let l = marshall_length g t n s out exit index w m v x.1 in
    let q : marshall_val_of g t n s (length exit) index ≡ accepted v = ap (λ (k : ℕ). marshall_val_of g t n s k index) l ∙ x.1 in
    let f : index ≤ length exit = omega (arith, l, (accepted_writes g t n s (length out) index v x.1).room) in
    let z : differing exit (put exit index (bytes_of v)) ≡ 0 = differing-put exit index (bytes_of v) f ∙ ap (differing (drop index exit)) (sym (marshall_bytes g t n s out exit index w m v x.1)) ∙ differing-front (SizeOfV v) (drop index exit) in
    let r : ℕ → Outcome Reason Preview = λ k. accepted (record { size = k; changed = 0 }) in
    rw (q, z) (ap r (sym x.2))

pub consequences : Consequences
consequences = record { most = changed-most; none = changed-none; again = preview-again }
