-- What is decided before a record is read.
use Rattle.std.specs.Prelude.{List, ℕ, ◌/◌, min, length, leb}
use Rattle.refusal.specs.Outcome.{Outcome, accepted, bind, test, Reason, reason, byte}
use Rattle.grammar.specs.Check.{check_grammar}
use Rattle.tables.specs.Row.{row_width}

-- the capacity in force where this one is named: a larger one than 4,096 counts as 4,096
abbrev pub in_force : ℕ → ℕ
in_force named = min named 4096

-- the capacity of a check for which none is named
abbrev pub check_rows : ℕ
check_rows = 1024

-- the capacity of a slice of words: divided by 5, rounded down, at most 4,096
abbrev pub capacity_of : ℕ → ℕ
capacity_of words = in_force (words / row_width)

-- refusal 6 of the record
abbrev pub check_length : List ℕ → Outcome Reason (Unit {0})
check_length d = test (leb (length d) 1048576) (reason 6 (byte 0)) accepted

-- refusals 1 to 5 of the grammar, 6 of the record, 7 of the index
unfoldable pub admit_of : List ℕ → List ℕ → ℕ → Outcome Reason (Unit {0})
admit_of g d index = bind (check_grammar g) (λ _. test (leb (length d) 1048576) (reason 6 (byte 0)) (λ _. test (leb index (length d)) (reason 7 (byte index)) accepted))
