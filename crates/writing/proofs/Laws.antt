-- GM's clauses of `MarshallVal` and `Marshall`, of a call that answers r and leaves the output `exit`.
use Rattle.std.proofs.Common.{◌≡◌, ap, sym, ◌∙◌, List, [], append-nil, ℕ, ◌+◌, ◌^◌, ◌≤◌, ◌<◌, arith, length, get_or, take, drop, Result}
use Rattle.std.proofs.Math.Option.{some}
use Rattle.refusal.specs.Outcome.{Outcome, accepted, refused, map, contents, Reason}
use Rattle.packed.specs.Packed.{Bytes, Below, put}
use Rattle.packed.proofs.Put.{length-put}
use Rattle.packed.proofs.Source.{put-before, put-behind, put-there}
use Rattle.value.specs.Tree.{Val, ValueOf, SizeOfV}
use Rattle.value.specs.Bytes.{bytes_of}
use Rattle.value.specs.Parse.{parse_val, Demarshallable}
use Rattle.value.proofs.Laws.{length_bytes_of, parse_val_bytes_of, demarshallable_bytes_of}
use Rattle.grammar.specs.Tree.{tree_of}
use Rattle.grammar.proofs.Tree.{tree_valid}
use Rattle.refusal.specs.declared.Refusal.{Refusal}
use Rattle.refusal.specs.Meaning.{outcome_of}
use Rattle.rows.proofs.Rule.{accepted_exactly}
use Rattle.sizing.specs.Writes.{marshall_val_of}
use Rattle.sizing.proofs.Writes.{accepted_writes}
use Rattle.writing.specs.Marshall.{Marshalls}

module _ (g t : List ℕ) (n : ℕ) (s : List ℕ) (entry exit : List ℕ) (index : ℕ) (r : Result ℕ Refusal) (m : Marshalls (marshall_val_of g t n s (length entry) index) index r entry exit) where
  pub marshall_refused : (e : Reason) → marshall_val_of g t n s (length entry) index ≡ refused e → (outcome_of r ≡ refused e) × (exit ≡ entry)
  marshall_refused e h = (m.answers ∙ ap (map SizeOfV) h, m.output ∙ ap (λ (o : Outcome Reason Val). contents (map (λ v. put entry index (bytes_of v)) o) entry) h)

  module _ (v : Val) (h : marshall_val_of g t n s (length entry) index ≡ accepted v) where
    pub marshall_size : outcome_of r ≡ accepted (SizeOfV v)
    marshall_size = m.answers ∙ ap (map SizeOfV) h

    pub marshall_output : exit ≡ put entry index (bytes_of v)
    marshall_output = m.output ∙ ap (λ (o : Outcome Reason Val). contents (map (λ v. put entry index (bytes_of v)) o) entry) h

    fits : index + length (bytes_of v) ≤ length entry
    fits = let w = accepted_writes g t n s (length entry) index v h in omega (arith, w.room, length_bytes_of v)

    pub marshall_length : length exit ≡ length entry
    marshall_length = ap length marshall_output ∙ length-put entry index (bytes_of v) fits

    pub marshall_before : (j : ℕ) → j < index → get_or exit j 0 ≡ get_or entry j 0
    marshall_before j l = ap (λ (x : List ℕ). get_or x j 0) marshall_output ∙ put-before entry index (bytes_of v) fits j l

    pub marshall_behind : (j : ℕ) → index + SizeOfV v ≤ j → get_or exit j 0 ≡ get_or entry j 0
    marshall_behind j l = ap (λ (x : List ℕ). get_or x j 0) marshall_output ∙ put-behind entry index (bytes_of v) fits j (omega (arith, length_bytes_of v))

    -- data[index .. index + size] is the byte rule's
    pub marshall_bytes : take (SizeOfV v) (drop index exit) ≡ bytes_of v
    marshall_bytes =
        ap (λ (x : List ℕ). take (SizeOfV v) (drop index x)) marshall_output
        ∙ ap (λ (k : ℕ). take k (drop index (put entry index (bytes_of v)))) (sym (length_bytes_of v))
        ∙ put-there entry index (bytes_of v) fits

    -- what the slices of the code hold
    module _ (words : Below (2 ^ 64) t) (bytes : Bytes s) where
      -- document 01's value of the grammar
      pub marshall_value : ValueOf (tree_of g 0) v
      marshall_value =
          let w = accepted_writes g t n s (length entry) index v h in
          let x = (accepted_exactly t n s v words bytes).0 w.rows in
          record { in_grammar = w.in_grammar; valid = x.valid; typed = x.typed }

      -- it parses to the value, and nothing is left
      pub marshall_parses : parse_val (take (SizeOfV v) (drop index exit)) (tree_of g 0) ≡ (some v, [])
      marshall_parses = ap (λ (x : List ℕ). parse_val x (tree_of g 0)) marshall_bytes ∙ rw append-nil at (parse_val_bytes_of marshall_value [])

      pub marshall_demarshallable : Below (2 ^ 32) g → Demarshallable (take (SizeOfV v) (drop index exit)) (tree_of g 0)
      marshall_demarshallable b =
          let w = accepted_writes g t n s (length entry) index v h in
          rw marshall_bytes (demarshallable_bytes_of (tree_valid g b 0) marshall_value (omega (arith, w.small)))
