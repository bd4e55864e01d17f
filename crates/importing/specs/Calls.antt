-- What the public call answers, over a grammar table, the bytes of a record in XDR, a capacity and the length of a lent store.
use Rattle.std.specs.Prelude.{◌≡◌, Result, List, ℕ, length, leb}
use Rattle.refusal.specs.Outcome.{Outcome, accepted, bind, test, map, contents, Reason, reason, byte}
use Rattle.packed.specs.Packed.{put}
use Rattle.value.specs.Tree.{Val}
use Rattle.value.specs.Step.{Step}
use Rattle.grammar.specs.Check.{check_grammar}
use Rattle.grammar.specs.Tree.{tree_of}
use Rattle.xdr.specs.Xdr.{store_of, rows_in}
use Rattle.xdr.specs.Import.{Filling, import_whole}
use Rattle.refusal.specs.declared.Refusal.{Refusal}
use Rattle.importing.specs.declared.Imported.{Imported}
use Rattle.importing.specs.Meaning.{Counts, imported_of}

-- 1 to 5 of the grammar, 6 of the record and of the lent store
unfoldable pub admit_of : List ℕ → List ℕ → ℕ → Outcome Reason (Unit {0})
admit_of g d len =
    bind (check_grammar g)
    (λ _. test (leb (length d) 1048576) (reason 6 (byte 0))
    (λ _. test (leb len 1048576) (reason 6 (byte 0)) accepted))

-- these, then the import
unfoldable pub import_of : List ℕ → List ℕ → ℕ → ℕ → Outcome Reason (Step Filling Val)
import_of g d capacity len = bind (admit_of g d len) (λ _. import_whole capacity len d (tree_of g 0))

-- what an accepted call answers: the row count, and the bytes of the store used
abbrev pub counts_of : Step Filling Val → Counts
counts_of t = record { rows = t.state.begun; used = t.state.used }

-- the call's answer; rows and store at exit are those at entry with the rows of the value from row 0 on and the bytes of its arrays from
-- byte 0 on, and after a refusal those at entry
pub record Imports (o : Outcome Reason (Step Filling Val)) (r : Result Imported Refusal) (rows₀ store₀ rows₁ store₁ : List ℕ) : Type 0 where
  pub answers : imported_of r ≡ map counts_of o
  pub rows : rows₁ ≡ contents (map (λ t. put rows₀ 0 (rows_in t.value 0)) o) rows₀
  pub store : store₁ ≡ contents (map (λ t. put store₀ 0 (store_of t.value)) o) store₀
