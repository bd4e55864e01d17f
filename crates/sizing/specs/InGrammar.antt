-- Refusal 15: a second walk, in preorder, over the value that the rows stand for. Defined on every input.
use Rattle.std.specs.Prelude.{Bool, ◌&&◌, ℕ, suc, ◌+◌, length, ltb, eqb}
use Rattle.refusal.specs.Outcome.{Outcome, accepted, bind, test, Reason, reason, row}
use Rattle.value.specs.Kinds.{number_kind, elements_kind}
use Rattle.value.specs.Tree.{G, Gs, GConstant, GNumber, GArray, GTuple, GNumberArray, GTaggedUnion, gnil, gcons, Val, Vals, VConstant, VNumber, VArray, VTuple, VNumberArray, VCase, vnil, vcons, seq_g, seq_v, case_at, row_count}

-- the papers' number of a grammar's kind
abbrev pub kind_number : G → ℕ
kind_number GConstant = 0
kind_number (GNumber k) = number_kind k
kind_number (GArray g) = 3
kind_number (GTuple gs) = 4
kind_number (GNumberArray k) = elements_kind k
kind_number (GTaggedUnion gs) = 8

-- the grammar of an array's elements; of another kind it is not asked
abbrev pub element_grammar : G → G
element_grammar GConstant = GConstant
element_grammar (GNumber k) = GConstant
element_grammar (GArray g) = g
element_grammar (GTuple gs) = GConstant
element_grammar (GNumberArray k) = GConstant
element_grammar (GTaggedUnion gs) = GConstant

-- the grammars of a tuple's fields or of a union's cases; of another kind they are not asked
abbrev pub part_grammars : G → Gs
part_grammars GConstant = gnil
part_grammars (GNumber k) = gnil
part_grammars (GArray g) = gnil
part_grammars (GTuple gs) = gs
part_grammars (GNumberArray k) = gnil
part_grammars (GTaggedUnion gs) = gs

-- a row's own test: 15 at row i where it fails
abbrev pub at15 : {A : Type 0} → ℕ → Bool → (Unit {0} → Outcome Reason A) → Outcome Reason A
at15 i b k = test b (reason 15 (row i)) k

unfoldable mutual
  -- v, whose own row is row i, against g: its kind, a tuple's count, a case's tag, then its children in order
  pub check_in_grammar : Val → G → ℕ → Outcome Reason (Unit {0})
  check_in_grammar VConstant g i = at15 i (eqb (kind_number g) 0) accepted
  check_in_grammar (VNumber k n) g i = at15 i (eqb (kind_number g) (number_kind k)) accepted
  check_in_grammar (VArray vs) g i = at15 i (eqb (kind_number g) 3) (λ _. check_all_in_grammar vs (element_grammar g) (suc i))
  check_in_grammar (VTuple vs) g i = at15 i (eqb (kind_number g) 4 && eqb (length (seq_v vs)) (length (seq_g (part_grammars g)))) (λ _. check_each_in_grammar vs (part_grammars g) (suc i))
  check_in_grammar (VNumberArray k ns) g i = at15 i (eqb (kind_number g) (elements_kind k)) accepted
  check_in_grammar (VCase c v) g i = at15 i (eqb (kind_number g) 8 && ltb c (length (seq_g (part_grammars g)))) (λ _. check_in_grammar v (case_at (part_grammars g) c) (suc i))

  -- every element, from row i on, against the one grammar
  pub check_all_in_grammar : Vals → G → ℕ → Outcome Reason (Unit {0})
  check_all_in_grammar vnil g i = accepted tt
  check_all_in_grammar (vcons v vs) g i = bind (check_in_grammar v g i) (λ _. check_all_in_grammar vs g (i + row_count v))

  -- each field, from row i on, against its own; there are as many grammars as fields
  pub check_each_in_grammar : Vals → Gs → ℕ → Outcome Reason (Unit {0})
  check_each_in_grammar vnil gs i = accepted tt
  check_each_in_grammar (vcons v vs) gnil i = accepted tt
  check_each_in_grammar (vcons v vs) (gcons g gs) i = bind (check_in_grammar v g i) (λ _. check_each_in_grammar vs gs (i + row_count v))
