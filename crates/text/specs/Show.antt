-- The whole of the program between reading and writing: which text an input gives.
use Rattle.std.specs.Prelude.{List, ℕ}
use Rattle.refusal.specs.Outcome.{Outcome, accepted, refused, bind, Reason}
use Rattle.value.specs.Tree.{Val}
use Rattle.value.specs.Step.{Step}
use Rattle.value.specs.Reading.{State}
use Rattle.rows.specs.Layout.{rows_of}
use Rattle.reading.specs.Calls.{demarshall_of}
use Rattle.text.specs.Text.{rows_text, refusal_text}
use Rattle.input.specs.Input.{layout_of, grammar_of, record_of}

-- the rows with which a record is read
abbrev pub most_rows : ℕ
most_rows = 1024

-- the record of an input, read whole: 19 before any other refusal
unfoldable pub read_input : List ℕ → Outcome Reason (Step State Val)
read_input input = bind (layout_of input) (λ p. demarshall_of (grammar_of input p) (record_of input p) most_rows)

-- the text of an outcome: the row count and the rows of the value, or the refusal
unfoldable pub shown : Outcome Reason (Step State Val) → List ℕ
shown (accepted t) = rows_text (rows_of t.value 0) t.state.begun
shown (refused r) = refusal_text r
