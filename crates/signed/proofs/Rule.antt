-- The call gives z exactly where z is the signed number of the row.
use Rattle.std.proofs.Common.{◌≡◌, refl, sym, ap, subst, ◌∙◌, ◌↔◌, Bool, true, false, List, ℕ, ◌^◌, arith, ℤ, lt-ltb}
use Rattle.refusal.specs.Outcome.{accepted, test, Reason, reason, row}
use Rattle.packed.specs.Packed.{Below, Bytes}
use Rattle.value.specs.Kinds.{Number, width, Kind, kind_of, constant, number, array, tuple, elements, union, other}
use Rattle.value.specs.Signed.{is_signed, signed_of, TwosComplement}
use Rattle.value.proofs.KindLaws.{number-kind, width_positive}
use Rattle.value.proofs.Signed.{twos_complement, twos_complement_only}
use Rattle.tables.specs.Row.{Row, row_at}
use Rattle.rows.specs.Walk.{keeps_rule}
use Rattle.rows.specs.Locate.{look_up}
use Rattle.rows.proofs.Laws.{number-below}
use Rattle.rows.proofs.Rule.{class_word, accepted_exactly}
use Rattle.rows.proofs.Parts.{table-holds}
use Rattle.rows.proofs.Calls.{ends-bind, found}
use Rattle.signed.specs.Signed.{signed_of_row, signed_number_of}
use Rattle.signed.specs.Rule.{NumberOf}

-- a row that has a signed number is of a signed kind
of-kind : (c : Kind) (r : Row) (e : Reason) (z : ℤ) → accepted z ≡ signed_of_row c r e → (k : Number) × (is_signed k ≡ true) × (c ≡ number k) × (z ≡ signed_of (width k) r.word2)
unfolding signed_of_row
of-kind constant r e z h = let y : ◌≡◌ {A = ℕ} 0 1 = cc in absurd (omega arith)
of-kind (number k) r e z h = go (is_signed k) refl h
  where
    go : (b : Bool) → is_signed k ≡ b → accepted z ≡ test b e (λ _. accepted (signed_of (width k) r.word2)) → (j : Number) × (is_signed j ≡ true) × (number k ≡ number j) × (z ≡ signed_of (width j) r.word2)
    go true s h = (k, s, refl, cc)
    go false s h = let y : ◌≡◌ {A = ℕ} 0 1 = cc in absurd (omega arith)
of-kind array r e z h = let y : ◌≡◌ {A = ℕ} 0 1 = cc in absurd (omega arith)
of-kind tuple r e z h = let y : ◌≡◌ {A = ℕ} 0 1 = cc in absurd (omega arith)
of-kind (elements k) r e z h = let y : ◌≡◌ {A = ℕ} 0 1 = cc in absurd (omega arith)
of-kind union r e z h = let y : ◌≡◌ {A = ℕ} 0 1 = cc in absurd (omega arith)
of-kind other r e z h = let y : ◌≡◌ {A = ℕ} 0 1 = cc in absurd (omega arith)

module _ (t : List ℕ) (n : ℕ) (s : List ℕ) (i : ℕ) (z : ℤ) (words : Below (2 ^ 64) t) (bytes : Bytes s) where
  signed_is : accepted z ≡ signed_number_of t n s i → NumberOf t n s i z
  unfolding signed_number_of
  signed_is h =
      let f = found t n s words bytes 20 i (ends-bind (look_up 20 t n s i) _ z h) in
      let x = of-kind (kind_of (row_at t i).kind) (row_at t i) (reason 20 (row i)) z (h ∙ rw f.row) in
      let l = number-below x.0 (row_at t i) (ap (λ (c : Kind). keeps_rule c (row_at t i)) (sym x.2) ∙ (table-holds t n s f.table.value f.table.table i f.below).rule) in
      record {
        value = f.table.value;
        table = f.table.table;
        below = f.below;
        kind = x.0;
        signed = x.1;
        word = class_word (row_at t i).kind (λ o. let y : ◌≡◌ {A = ℕ} 0 1 = cc in omega arith) x.2;
        number = subst (TwosComplement (width x.0) (row_at t i).word2) (sym x.3) (twos_complement (width x.0) (row_at t i).word2 (width_positive x.0) l);
      }

  is-signed : NumberOf t n s i z → signed_number_of t n s i ≡ accepted z
  unfolding signed_number_of look_up signed_of_row
  is-signed h = rw ((accepted_exactly t n s h.value words bytes).1 h.table, lt-ltb i n h.below, h.word, number-kind h.kind, h.signed) (ap accepted (sym (twos_complement_only (width h.kind) (row_at t i).word2 z h.number)))

  pub signed_exactly : (signed_number_of t n s i ≡ accepted z) ↔ NumberOf t n s i z
  signed_exactly = (λ e. signed_is (sym e), is-signed)
