-- What the states and answers of the code mean.
use Rattle.std.specs.Prelude.{◌≡◌, ℕ, Result, Ok, Err}
use Rattle.refusal.specs.Outcome.{Outcome, accepted, refused}
use Rattle.refusal.specs.Meaning.{reason_of}
use Rattle.value.specs.Step.{yield}
use Rattle.value.specs.Reading.{State, Stop, Reading}
use Rattle.readers.specs.declared.State.{State as CodeState}
use Rattle.readers.specs.declared.Stopped.{Stopped}

abbrev pub state_of : CodeState → State
state_of s = record { at = s.at; begun = s.begun }

abbrev pub stop_of : Stopped → Stop
stop_of e = record { why = reason_of e.refusal; state = state_of e.state }

-- what a reader answers: the state behind what it read, or a refusal with the state where it ended
abbrev pub CodeStep : Type 0
CodeStep = Result CodeState Stopped

abbrev pub step_of : CodeStep → Outcome Stop State
step_of (Ok s) = accepted (state_of s)
step_of (Err e) = refused (stop_of e)

-- what taking a number answers
abbrev pub Taken : Type 0
Taken = Result (ℕ × CodeState) Stopped

abbrev pub taken_of : Taken → Reading ℕ
taken_of (Ok t) = yield t.0 (state_of t.1)
taken_of (Err e) = refused (stop_of e)

-- the capacity is handed on as it was
abbrev pub StepKeeps : ℕ → CodeStep → Type 0
StepKeeps capacity (Ok s) = s.capacity ≡ capacity
StepKeeps capacity (Err e) = e.state.capacity ≡ capacity

abbrev pub TakenKeeps : ℕ → Taken → Type 0
TakenKeeps capacity (Ok t) = t.1.capacity ≡ capacity
TakenKeeps capacity (Err e) = e.state.capacity ≡ capacity
