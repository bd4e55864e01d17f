-- When a value is exported, and that what may be written may be exported.
use Rattle.std.proofs.Common.{◌≡◌, ◌↔◌, List, ℕ, arith}
use Rattle.refusal.specs.Outcome.{accepted}
use Rattle.value.specs.Tree.{Val}
use Rattle.sizing.specs.Writes.{value_in_grammar, marshall_val_of}
use Rattle.sizing.proofs.Writes.{size-passes, size_passed, in_grammar-accepted, accepted_in_grammar, accepted_writes}
use Rattle.xdr.specs.Xdr.{xdr_size}
use Rattle.xdr.proofs.Sizes.{sizes}
use Rattle.exporting.specs.Export.{value_to_export, export_of, MayExport}

module _ (g t : List ℕ) (n : ℕ) (s : List ℕ) (len index : ℕ) where
  pub export_accepted : (v : Val) → MayExport g t n s len index v → export_of g t n s len index ≡ accepted v
  unfolding value_to_export export_of
  export_accepted v w =
      size-passes xdr_size len index (value_in_grammar g t n s) v (in_grammar-accepted g t n s v (record { grammar = w.grammar; rows = w.rows; in_grammar = w.in_grammar })) w.small w.room

  pub accepted_exports : (v : Val) → export_of g t n s len index ≡ accepted v → MayExport g t n s len index v
  unfolding value_to_export export_of
  accepted_exports v h =
      let p = size_passed xdr_size len index (value_in_grammar g t n s) v h in
      let i = accepted_in_grammar g t n s v p.0 in
      record { grammar = i.grammar; rows = i.rows; in_grammar = i.in_grammar; small = p.1; room = p.2 }

  -- a value is exported exactly where nothing is to be refused
  pub export_exactly : (v : Val) → (export_of g t n s len index ≡ accepted v) ↔ MayExport g t n s len index v
  export_exactly v = (accepted_exports v, export_accepted v)

  -- what may be written may be exported: the XDR size is never above the record's. The converse does not hold
  pub writes_export : (v : Val) → marshall_val_of g t n s len index ≡ accepted v → export_of g t n s len index ≡ accepted v
  writes_export v h =
      let w = accepted_writes g t n s len index v h in
      let o = (sizes v).outer in
      export_accepted v (record { grammar = w.grammar; rows = w.rows; in_grammar = w.in_grammar; small = omega (arith, w.small); room = omega (arith, w.room) })
