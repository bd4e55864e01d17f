-- What `export_xdr` answers and leaves in the output: GM's `MarshallVal` with the XDR bytes and their size.
use Rattle.std.specs.Prelude.{◌≡◌, Result, List, ℕ, ◌+◌, ◌≤◌}
use Rattle.refusal.specs.Outcome.{Outcome, accepted, bind, map, contents, Reason}
use Rattle.packed.specs.Packed.{room, put}
use Rattle.value.specs.Tree.{Val, ValInGrammar}
use Rattle.grammar.specs.Rule.{Passes}
use Rattle.grammar.specs.Tree.{tree_of}
use Rattle.rows.specs.Walk.{walk}
use Rattle.refusal.specs.declared.Refusal.{Refusal}
use Rattle.refusal.specs.Meaning.{outcome_of}
use Rattle.sizing.specs.Writes.{value_in_grammar, check_size}
use Rattle.xdr.specs.Xdr.{xdr_of, xdr_size}

-- the value to be exported: 1 to 6 and 12 to 15 as in writing, then 16 of the XDR size
unfoldable pub value_to_export : List ℕ → List ℕ → ℕ → List ℕ → Outcome Reason Val
value_to_export g t n s = bind (value_in_grammar g t n s) (λ v. check_size (xdr_size v) v)

-- the value, where its XDR has room at the index of an output of len bytes; 17 where it has not
unfoldable pub export_of : List ℕ → List ℕ → ℕ → List ℕ → ℕ → ℕ → Outcome Reason Val
export_of g t n s len index = bind (value_to_export g t n s) (λ v. map (λ _. v) (room len index (xdr_size v)))

-- the answer is the XDR size, and the output at exit is that at entry with the XDR bytes at the index; after a refusal it is that at entry
pub record Exports (o : Outcome Reason Val) (index : ℕ) (r : Result ℕ Refusal) (entry exit : List ℕ) : Type 0 where
  pub answers : outcome_of r ≡ map xdr_size o
  pub output : exit ≡ contents (map (λ v. put entry index (xdr_of v)) o) entry

-- when v is exported: nothing is to be refused (`export_exactly` of proofs/)
pub record MayExport (g t : List ℕ) (n : ℕ) (s : List ℕ) (len index : ℕ) (v : Val) : Type 0 where
  pub grammar : Passes g
  pub rows : walk t n s ≡ accepted v
  pub in_grammar : ValInGrammar v (tree_of g 0)
  pub small : xdr_size v ≤ 1048576
  pub room : index + xdr_size v ≤ len
