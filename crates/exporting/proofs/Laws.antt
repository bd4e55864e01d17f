-- What a call that answers r and leaves the output `exit` did.
use Rattle.std.proofs.Common.{◌≡◌, ap, ◌∙◌, List, ℕ, ◌+◌, ◌^◌, ◌≤◌, ◌<◌, length, get_or, take, drop, Result}
use Rattle.refusal.specs.Outcome.{Outcome, accepted, refused, map, contents, Reason}
use Rattle.packed.specs.Packed.{Bytes, Below, put}
use Rattle.packed.proofs.Put.{length-put}
use Rattle.packed.proofs.Source.{put-before, put-behind, put-there}
use Rattle.value.specs.Tree.{Val, ValueOf}
use Rattle.grammar.specs.Tree.{tree_of}
use Rattle.rows.specs.Rule.{TableOf}
use Rattle.refusal.specs.declared.Refusal.{Refusal}
use Rattle.refusal.specs.Meaning.{outcome_of}
use Rattle.rows.proofs.Rule.{accepted_exactly}
use Rattle.xdr.specs.Xdr.{xdr_of, xdr_size}
use Rattle.xdr.proofs.Import.{Small}
use Rattle.exporting.specs.Export.{export_of, Exports}
use Rattle.exporting.proofs.Narrow.{table-narrow}
use Rattle.exporting.proofs.Exports.{accepted_exports}

module _ (g t : List ℕ) (n : ℕ) (s : List ℕ) (entry exit : List ℕ) (index : ℕ) (r : Result ℕ Refusal) (m : Exports (export_of g t n s (length entry) index) index r entry exit) where
  pub export_refused : (e : Reason) → export_of g t n s (length entry) index ≡ refused e → (outcome_of r ≡ refused e) × (exit ≡ entry)
  export_refused e h = (m.answers ∙ ap (map xdr_size) h, m.output ∙ ap (λ (o : Outcome Reason Val). contents (map (λ v. put entry index (xdr_of v)) o) entry) h)

  module _ (v : Val) (h : export_of g t n s (length entry) index ≡ accepted v) where
    pub export_size : outcome_of r ≡ accepted (xdr_size v)
    export_size = m.answers ∙ ap (map xdr_size) h

    pub export_output : exit ≡ put entry index (xdr_of v)
    export_output = m.output ∙ ap (λ (o : Outcome Reason Val). contents (map (λ v. put entry index (xdr_of v)) o) entry) h

    fits : index + xdr_size v ≤ length entry
    fits = (accepted_exports g t n s (length entry) index v h).room

    pub export_length : length exit ≡ length entry
    export_length = ap length export_output ∙ length-put entry index (xdr_of v) fits

    pub export_before : (j : ℕ) → j < index → get_or exit j 0 ≡ get_or entry j 0
    export_before j l = ap (λ (x : List ℕ). get_or x j 0) export_output ∙ put-before entry index (xdr_of v) fits j l

    pub export_behind : (j : ℕ) → index + xdr_size v ≤ j → get_or exit j 0 ≡ get_or entry j 0
    export_behind j l = ap (λ (x : List ℕ). get_or x j 0) export_output ∙ put-behind entry index (xdr_of v) fits j l

    -- the bytes from the index on are the value's XDR
    pub export_bytes : take (xdr_size v) (drop index exit) ≡ xdr_of v
    export_bytes = ap (λ (x : List ℕ). take (xdr_size v) (drop index x)) export_output ∙ put-there entry index (xdr_of v) fits

    -- what the slices of the code hold
    module _ (words : Below (2 ^ 64) t) (bytes : Bytes s) where
      pub export_table : TableOf t n s v
      export_table = (accepted_exactly t n s v words bytes).0 (accepted_exports g t n s (length entry) index v h).rows

      -- document 01's value of the grammar
      pub export_value : ValueOf (tree_of g 0) v
      export_value = record { in_grammar = (accepted_exports g t n s (length entry) index v h).in_grammar; valid = export_table.valid; typed = export_table.typed }

      -- whose counts and tags lose nothing in 4 bytes
      pub export_small : Below (2 ^ 32) g → Small v
      export_small b = table-narrow g t n s v b export_table (accepted_exports g t n s (length entry) index v h).in_grammar
