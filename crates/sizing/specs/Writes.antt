-- What the writers answer: GM's `MarshallVal` and `Marshall` over a grammar table, rows with their store, and the length of an output.
use Rattle.std.specs.Prelude.{ℕ, ◌+◌, ◌≤◌, ◌≡◌, List, leb}
use Rattle.refusal.specs.Outcome.{Outcome, accepted, bind, test, map, Reason, reason, row}
use Rattle.packed.specs.Packed.{room}
use Rattle.value.specs.Tree.{Val, ValInGrammar, SizeOfV}
use Rattle.grammar.specs.Check.{check_grammar}
use Rattle.grammar.specs.Rule.{Passes}
use Rattle.grammar.specs.Tree.{tree_of}
use Rattle.rows.specs.Walk.{walk}
use Rattle.sizing.specs.InGrammar.{check_in_grammar}

-- the value that rows with their store stand for, where it is one of the grammar: 1 to 5 of the grammar, 6 and 12 to 14 of the rows, then 15
unfoldable pub value_in_grammar : List ℕ → List ℕ → ℕ → List ℕ → Outcome Reason Val
value_in_grammar g t n s =
    bind (check_grammar g) (λ _.
    bind (walk t n s) (λ v.
    bind (check_in_grammar v (tree_of g 0) 0) (λ _. accepted v)))

-- refusal 16: a, where its size in bytes is at most 1,048,576
abbrev pub check_size : {A : Type 0} → ℕ → A → Outcome Reason A
check_size size a = test (leb size 1048576) (reason 16 (row 0)) (λ _. accepted a)

-- the value to be written: 1 to 6 and 12 to 15, then 16
unfoldable pub value_to_write : List ℕ → List ℕ → ℕ → List ℕ → Outcome Reason Val
value_to_write g t n s = bind (value_in_grammar g t n s) (λ v. check_size (SizeOfV v) v)

-- GM's `MarshallVal` at an index of an output of len bytes: the value, where it has room; 17 where it has not
unfoldable pub marshall_val_of : List ℕ → List ℕ → ℕ → List ℕ → ℕ → ℕ → Outcome Reason Val
marshall_val_of g t n s len index = bind (value_to_write g t n s) (λ v. map (λ _. v) (room len index (SizeOfV v)))

-- when v is written: nothing is to be refused (`write_exactly` of proofs/)
pub record Writes (g t : List ℕ) (n : ℕ) (s : List ℕ) (len index : ℕ) (v : Val) : Type 0 where
  pub grammar : Passes g
  pub rows : walk t n s ≡ accepted v
  pub in_grammar : ValInGrammar v (tree_of g 0)
  pub small : SizeOfV v ≤ 1048576
  pub room : index + SizeOfV v ≤ len
