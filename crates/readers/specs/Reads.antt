-- The contracts of the inner readers: a reading of the definition done by the code, and the rows it lays.
use Rattle.std.specs.Prelude.{◌≡◌, Ok, Err, List, [], ◌∷◌, ℕ, ◌+◌, ◌-◌, ◌*◌, ◌^◌, ◌≤◌, ◌<◌, length, ltb}
use Rattle.refusal.specs.Outcome.{accepted, map, test}
use Rattle.packed.specs.Packed.{Bytes, Below, Lent}
use Rattle.value.specs.Kinds.{Kind, kind_of}
use Rattle.value.specs.Step.{Step, yield, next}
use Rattle.value.specs.Reading.{State, Reading, stop, take_number}
use Rattle.tables.specs.Grammar.{node_count, kind_word}
use Rattle.grammar.specs.Rule.{Passes}
use Rattle.tables.specs.Row.{row_width, laid}
use Rattle.readers.specs.declared.State.{State as CodeState}
use Rattle.readers.specs.Meaning.{CodeStep, step_of, StepKeeps}

-- rows are lent for the whole capacity, or none
abbrev pub Room : ℕ → List ℕ → Type 0
Room capacity rows = Lent (row_width * capacity) rows

-- a state from which a value can be read
pub record Ready (d rows : List ℕ) (s : CodeState) : Type 0 where
  pub inside : s.at ≤ length d
  pub short : length d ≤ 1048576
  pub few : s.begun ≤ s.capacity
  pub most : s.capacity ≤ 4096
  pub room : Room s.capacity rows
  pub byte_values : Bytes d

-- a node of a table that passes
pub record Node (t : List ℕ) (k : ℕ) : Type 0 where
  pub passes : Passes t
  pub below : k < node_count t
  pub words : Below (2 ^ 32) t

-- node k is of a kind, its value has claimed row `row`, and s is the state behind
pub record RowClaimed (g d rows : List ℕ) (k : ℕ) (named : Kind) (row : ℕ) (s : CodeState) : Type 0 where
  pub node : Node g k
  pub kind : kind_of (kind_word g k) ≡ named
  pub ready : Ready d rows s
  pub claimed : s.begun ≡ row + 1

-- the code's answer r and the rows at exit, beside the reading x of what starts at byte p and has its rows from `row` on:
-- the same outcome, and what was read is laid over the rows at entry
pub record Reads {A : Type 0} (rows_at : A → ℕ → List ℕ) (x : Reading A) (capacity row p : ℕ) (entry : List ℕ) (r : CodeStep) (exit : List ℕ) : Type 0 where
  pub answers : step_of r ≡ map (λ t. t.state) x
  pub keeps : StepKeeps capacity r
  pub rows : (t : Step State A) → x ≡ accepted t → exit ≡ laid entry row (rows_at t.value p)

-- what the row of a parent that starts at byte `start` holds once its children are read: kind, span, word 2, word 3, size
abbrev pub closed : ℕ → ℕ → ℕ → ℕ → CodeStep → List ℕ → List ℕ
closed row start kind word2 (Ok u) rows = laid rows row (kind ∷ (u.begun - row) ∷ word2 ∷ 0 ∷ (u.at - start) ∷ [])
closed row start kind word2 (Err e) rows = rows

-- the rows asked for so far are at least this one and at most the largest capacity, and the position is not before the start
abbrev pub Counted : ℕ → ℕ → CodeStep → Type 0
Counted row start (Ok u) = (row < u.begun) × (u.begun ≤ 4096) × (start ≤ u.at)
Counted row start (Err e) = Unit {0}

-- an 8-byte number below a limit
unfoldable pub take_below : List ℕ → ℕ → ℕ → State → Reading ℕ
take_below d limit number s = next (take_number d 8 s) (λ n t. test (ltb n limit) (stop number s) (λ _. yield n t))
