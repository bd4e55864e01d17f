-- The reading of the root on every input: 1 to 7, the capacity, the value, 11 of a whole reading, the rows that are filled, and where the
-- first field ends.
use Rattle.std.specs.Prelude.{◌≡◌, Bool, true, false, List, ℕ, zero, suc, ◌^◌, ◌≤◌, min, length}
use Rattle.refusal.specs.Outcome.{Outcome, accepted, refused, bind, map, contents, Reason}
use Rattle.packed.specs.Packed.{Bytes, Below}
use Rattle.value.specs.Tree.{Val, VConstant, VNumber, VArray, VTuple, VNumberArray, VCase, vnil, vcons}
use Rattle.value.specs.Step.{Step, next}
use Rattle.value.specs.Reading.{State, Stop, Reading, start, begin, at_end, read_val, read_to}
use Rattle.grammar.specs.Rule.{Passes}
use Rattle.grammar.specs.Tree.{tree_of}
use Rattle.tables.specs.Row.{laid}
use Rattle.rows.specs.Layout.{rows_of}
use Rattle.admission.specs.Admission.{in_force, capacity_of, admit_of}
use Rattle.readers.specs.Meaning.{CodeStep, step_of, StepKeeps}
use Rattle.readers.specs.Reads.{Room}

-- the capacity of a reading for which one is named: with no words lent, as a check, the one in force, else at most that of the words lent
unfoldable pub capacity_within : ℕ → ℕ → ℕ
capacity_within capacity zero = in_force capacity
capacity_within capacity (suc n) = min capacity (capacity_of (suc n))

-- a refusal from before any value is begun
abbrev pub before_start : {A : Type 0} → ℕ → Outcome Reason A → Outcome Stop A
before_start index (accepted a) = accepted a
before_start index (refused r) = refused (record { why = r; state = start index })

-- a whole reading also wants the end of the record reached
abbrev pub ended : Bool → List ℕ → Reading Val → Reading Val
ended true d x = next x (at_end d)
ended false d x = x

-- 1 to 7, then the value of the root from the index on
unfoldable pub read_root : List ℕ → List ℕ → ℕ → ℕ → Bool → Reading Val
read_root g d index capacity whole = bind (before_start index (admit_of g d index)) (λ _. ended whole d (read_val capacity d (tree_of g 0) (start index)))

-- the answer r to a reading x at a capacity, and the rows at exit: the layout of the value, whose bytes start at the index, over
-- the rows at entry; after a refusal the rows at entry
pub record FillsRows (x : Reading Val) (capacity index : ℕ) (r : CodeStep) (entry exit : List ℕ) : Type 0 where
  pub answers : step_of r ≡ map (λ t. t.state) x
  pub keeps : StepKeeps capacity r
  pub rows : exit ≡ contents (map (λ t. laid entry 0 (rows_of t.value index)) x) entry

-- what the reading of the root asks: 1 to 7 not given, and rows lent for the capacity, or none
pub record Admitted (g d rows : List ℕ) (index capacity : ℕ) : Type 0 where
  pub passes : Passes g
  pub words : Below (2 ^ 32) g
  pub short : length d ≤ 1048576
  pub inside : index ≤ length d
  pub byte_values : Bytes d
  pub most : capacity ≤ 4096
  pub room : Room capacity rows

-- the state behind the first field of a tuple at byte 0, whose own row is row 0; of a value that is no tuple or has no field, the
-- state before it
abbrev pub behind_first_field : Val → State
behind_first_field VConstant = start 0
behind_first_field (VNumber k n) = start 0
behind_first_field (VArray vs) = start 0
behind_first_field (VTuple vnil) = start 0
behind_first_field (VTuple (vcons v vs)) = (read_to v (begin (start 0))).state
behind_first_field (VNumberArray k ns) = start 0
behind_first_field (VCase c v) = start 0

-- the whole reading as a check and, where it is accepted, the state behind the first field of its value
abbrev pub first_field_of : List ℕ → List ℕ → ℕ → Outcome Stop State
first_field_of g d capacity = map (λ t. behind_first_field t.value) (read_root g d 0 capacity true)

-- the answer r of the reader of the first field: fixed where the root is accepted; its capacity is always the one given
pub record ReadsFirstField (g d : List ℕ) (capacity : ℕ) (r : CodeStep) : Type 0 where
  pub answers : (t : Step State Val) → read_val capacity d (tree_of g 0) (start 0) ≡ accepted t → step_of r ≡ accepted (behind_first_field t.value)
  pub keeps : StepKeeps capacity r
