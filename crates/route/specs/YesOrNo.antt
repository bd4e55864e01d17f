-- Document 02's request 09 in demand 3's terms: which records are answered yes. proofs/YesOrNo.antt proves it.
use Rattle.std.specs.Prelude.{◌≡◌, true, ◌↔◌, List, ℕ, ◌≤◌, length}
use Rattle.refusal.specs.Outcome.{accepted}
use Rattle.packed.specs.Packed.{Bytes}
use Rattle.value.specs.Tree.{Val, row_count}
use Rattle.accepting.specs.Accepts.{accepts_of}
use Rattle.route.specs.Demands.{Grammar, RecordOf}

-- yes exactly where the record is the bytes of some value of the grammar that has at most 4,096 rows, and the count is that of its rows
abbrev pub YesOfRecords : Type 0
YesOfRecords =
    (g d : List ℕ) → Grammar g → Bytes d → length d ≤ 1048576
    → (n : ℕ) → (accepts_of g d ≡ accepted (record { yes = true; begun = n })) ↔ ((v : Val) × RecordOf g d v × (row_count v ≡ n) × (n ≤ 4096))
