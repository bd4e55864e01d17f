-- What the public calls answer: GM's `ParseVal` and `Demarshall` over a grammar table, a record and a capacity.
use Rattle.std.specs.Prelude.{Result, Ok, Err, ◌≡◌, ◌⊎◌, List, ℕ, length, leb}
use Rattle.refusal.specs.Outcome.{Outcome, accepted, refused, bind, test, map, contents, Reason, reason, byte}
use Rattle.packed.specs.Packed.{put}
use Rattle.value.specs.Tree.{Val}
use Rattle.value.specs.Step.{Step}
use Rattle.value.specs.Reading.{State, Reading, read_at, read_whole}
use Rattle.grammar.specs.Check.{check_grammar}
use Rattle.grammar.specs.Tree.{tree_of}
use Rattle.rows.specs.Layout.{rows_of}
use Rattle.reading.specs.Meaning.{Counts, parsed_of}
use Rattle.reading.specs.declared.Parsed.{Parsed}
use Rattle.refusal.specs.declared.Refusal.{Refusal}
use Rattle.refusal.specs.Meaning.{reason_of}
use Rattle.readers.specs.Meaning.{CodeStep}

-- a reading, whose refusal is without its state
abbrev pub without_state : {A : Type 0} → Reading A → Outcome Reason (Step State A)
without_state (accepted t) = accepted t
without_state (refused e) = refused e.why

-- 1 to 5 of the grammar, 6 of the record, then the reading, which waits for both
abbrev pub guarded : List ℕ → List ℕ → (Unit {0} → Reading Val) → Outcome Reason (Step State Val)
guarded g d x = bind (check_grammar g) (λ _. test (leb (length d) 1048576) (reason 6 (byte 0)) (λ _. without_state (x tt)))

-- GM's `ParseVal` from an index on
unfoldable pub parse_val_of : List ℕ → List ℕ → ℕ → ℕ → Outcome Reason (Step State Val)
parse_val_of g d index capacity = guarded g d (λ _. read_at capacity d (tree_of g 0) index)

-- GM's `Demarshall`: the whole reading
unfoldable pub demarshall_of : List ℕ → List ℕ → ℕ → Outcome Reason (Step State Val)
demarshall_of g d capacity = guarded g d (λ _. read_whole capacity d (tree_of g 0))

-- what an accepted call answers: the row count, and the position behind the value
abbrev pub counts_of : Step State Val → Counts
counts_of t = record { rows = t.state.begun; rest_index = t.state.at }

-- a call with rows lent: its answer, and rows 0 to n − 1 at exit are the layout of the value, whose bytes start at the index
pub record Parses (o : Outcome Reason (Step State Val)) (index : ℕ) (r : Result Parsed Refusal) (entry exit : List ℕ) : Type 0 where
  pub answers : parsed_of r ≡ map counts_of o
  pub rows : exit ≡ contents (map (λ t. put entry 0 (rows_of t.value index)) o) entry

-- an outcome beside that of the same call with more rows: the same, or refused with 8
abbrev pub SameOr8 : Outcome Reason (Step State Val) → Outcome Reason (Step State Val) → Type 0
SameOr8 o more = (o ≡ more) ⊎ ((place : ℕ) × (o ≡ refused (reason 8 (byte place))))

-- a step of the readers as an answer
abbrev pub parsed_step : CodeStep → Outcome Reason Counts
parsed_step (Ok s) = accepted (record { rows = s.begun; rest_index = s.at })
parsed_step (Err e) = refused (reason_of e.refusal)
