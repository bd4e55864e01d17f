-- The contracts of the inner readers: an import of the definition done by the code, the rows it lays, the bytes it puts into the store, and
-- the bytes that a record of it has.
use Rattle.std.specs.Prelude.{◌≡◌, Ok, Err, List, [], ◌∷◌, ℕ, zero, suc, ◌+◌, ◌-◌, ◌*◌, ◌^◌, ◌≤◌, ◌<◌, length, get_or, ltb}
use Rattle.refusal.specs.Outcome.{accepted, map, test}
use Rattle.packed.specs.Packed.{Bytes, Below, put_within, Lent}
use Rattle.value.specs.Kinds.{Kind, kind_of}
use Rattle.value.specs.Tree.{Gs, gnil, gcons}
use Rattle.value.specs.Step.{Step, yield, next}
use Rattle.tables.specs.Grammar.{node_count, kind_word, first_word}
use Rattle.tables.specs.Row.{row_width, laid}
use Rattle.grammar.specs.Rule.{Passes}
use Rattle.grammar.specs.Tree.{tree_of}
use Rattle.xdr.specs.Import.{Filling, Importing, refusal, take_number}
use Rattle.importing.specs.declared.Filling.{Filling as CodeFilling}
use Rattle.importing.specs.declared.Lent.{Lent as CodeLent}
use Rattle.importing.specs.Meaning.{CodeStep, step_of, StepSize}

-- the largest size of what is imported: a record's counts and tags have 4 bytes more than XDR's, at most one in each of 4,096 rows
abbrev pub most_size : ℕ
most_size = 1064960

-- a state from which a value can be imported: rows are lent for the whole capacity, or none, and a store of all its room, or none; the size
-- is at most 4 bytes a row above the position
pub record Ready (d rows store : List ℕ) (lent : CodeLent) (s : CodeFilling) : Type 0 where
  pub inside : s.at ≤ length d
  pub short : length d ≤ 1048576
  pub few : s.begun ≤ lent.capacity
  pub most : lent.capacity ≤ 4096
  pub within : s.used ≤ lent.room
  pub small : lent.room ≤ 1048576
  pub sized : s.size ≤ s.at + 4 * s.begun
  pub rows_lent : Lent (row_width * lent.capacity) rows
  pub store_lent : Lent lent.room store
  pub byte_values : Bytes d

-- the code's answer r, rows and store at exit, beside the import x of what has its rows from `row` on and its arrays from byte `used` of the
-- store on: the same outcome, what was imported is laid over the rows and put into the store at entry, and its size is added to `size₀`
pub record Brings {A : Type 0} (rows_at : A → ℕ → List ℕ) (storeAt : A → List ℕ) (size_at : A → ℕ) (x : Importing A) (row used size₀ : ℕ) (rows₀ store₀ : List ℕ) (r : CodeStep) (rows₁ store₁ : List ℕ) : Type 0 where
  pub answers : step_of r ≡ map (λ t. t.state) x
  pub rows : (t : Step Filling A) → x ≡ accepted t → rows₁ ≡ laid rows₀ row (rows_at t.value used)
  pub store : (t : Step Filling A) → x ≡ accepted t → store₁ ≡ put_within store₀ used (storeAt t.value)
  pub size : (t : Step Filling A) → x ≡ accepted t → StepSize (size₀ + size_at t.value) r

-- a 4-byte number below a limit
unfoldable pub take_below : List ℕ → ℕ → ℕ → Filling → Importing ℕ
take_below d limit number s = next (take_number d 4 s) (λ n t. test (ltb n limit) (refusal number s) (λ _. yield n t))

-- what a parent's row holds once its children are imported: kind, span, word 2, word 3, and the size from its start on
abbrev pub closed : ℕ → ℕ → ℕ → ℕ → CodeStep → List ℕ → List ℕ
closed row kind word2 start (Ok u) rows = laid rows row (kind ∷ (u.begun - row) ∷ word2 ∷ 0 ∷ (u.size - start) ∷ [])
closed row kind word2 start (Err r) rows = rows

-- the rows asked for so far are at least this one, and the size is at least that at its start
abbrev pub Counted : ℕ → ℕ → CodeStep → Type 0
Counted row start (Ok u) = (row < u.begun) × (start ≤ u.size)
Counted row start (Err r) = Unit {0}

-- the word of a grammar table where the child words of a node start
abbrev pub child_place : List ℕ → ℕ → ℕ
child_place t node = 2 + 3 * node_count t + first_word t node

-- the node that a word of a table names: a child word its node, word 0, which is the node count, the root
abbrev pub node_at : List ℕ → ℕ → ℕ
node_at t zero = 0
node_at t (suc place) = get_or t (suc place) 0

-- the trees of so many nodes, named by the word at `place` and by those that follow, each `step` words on
unfoldable pub trees_at : List ℕ → ℕ → ℕ → ℕ → Gs
trees_at t place step zero = gnil
trees_at t place step (suc n) = gcons (tree_of t (node_at t place)) (trees_at t (place + step) step n)

-- a table that passes
pub record Table (t : List ℕ) : Type 0 where
  pub passes : Passes t
  pub words : Below (2 ^ 32) t

-- so many nodes of a table, named by words that are `step` words apart
pub record Children (t : List ℕ) (place step count : ℕ) : Type 0 where
  pub table : Table t
  pub below : (i : ℕ) → i < count → node_at t (place + step * i) < node_count t
  pub short : place + step * count < 2 ^ 64

-- a node of a table that passes
pub record Node (t : List ℕ) (k : ℕ) : Type 0 where
  pub table : Table t
  pub below : k < node_count t

-- node k is of a kind, its value has claimed row `row`, and s is the state behind, its size still bounded by the rows before
pub record RowClaimed (g d rows store : List ℕ) (k : ℕ) (named : Kind) (row : ℕ) (lent : CodeLent) (s : CodeFilling) : Type 0 where
  pub node : Node g k
  pub kind : kind_of (kind_word g k) ≡ named
  pub ready : Ready d rows store lent s
  pub claimed : s.begun ≡ row + 1
  pub sized : s.size ≤ s.at + 4 * row

-- what the import of the root asks: 1 to 6 not given, rows lent for the capacity or none, and a store of all its room or none
pub record Admitted (g d rows store : List ℕ) (lent : CodeLent) : Type 0 where
  pub table : Table g
  pub short : length d ≤ 1048576
  pub most : lent.capacity ≤ 4096
  pub small : lent.room ≤ 1048576
  pub rows_lent : Lent (row_width * lent.capacity) rows
  pub store_lent : Lent lent.room store
  pub byte_values : Bytes d
