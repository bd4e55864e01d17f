-- What the walk means, in document 01's terms: when rows, with a store, stand for a value.
use Rattle.std.specs.Prelude.{◌≡◌, true, List, ℕ, suc, ◌+◌, ◌*◌, ◌≤◌, length, take, drop}
use Rattle.packed.specs.Packed.{pack_little_endian_seq}
use Rattle.value.specs.Kinds.{Elements, element_width, kind_of}
use Rattle.value.specs.Tree.{Val, Vals, VConstant, VNumber, VArray, VTuple, VNumberArray, VCase, vnil, vcons, ValidVal, TypedVal, row_count}
use Rattle.tables.specs.Row.{row_width, row_at}
use Rattle.rows.specs.Layout.{own_row}
use Rattle.rows.specs.Walk.{keeps_rule, within_store}

-- row i by itself keeps its kind's rule and has its array in the store: neither 13 of its own words nor 14 is given
pub record RowHolds (t s : List ℕ) (i : ℕ) : Type 0 where
  pub rule : keeps_rule (kind_of (row_at t i).kind) (row_at t i) ≡ true
  pub within : within_store (kind_of (row_at t i).kind) (row_at t i) (length s) ≡ true

-- row i is the row of v itself, wherever its array lies
abbrev pub RowOf : List ℕ → ℕ → Val → Type 0
RowOf t i v = row_at t i ≡ own_row v (row_at t i).word3

-- an array's elements lie packed at a place of the store, count 0 too
pub record PackedAt (s : List ℕ) (place : ℕ) (k : Elements) (ns : List ℕ) : Type 0 where
  pub within : place + element_width k * length ns ≤ length s
  pub bytes : take (element_width k * length ns) (drop place s) ≡ pack_little_endian_seq (element_width k) ns

module _ (t s : List ℕ) where
  unfoldable mutual
    -- the rows from row i on stand for v: its own row, then its children's, one behind the other
    pub StandFor : ℕ → Val → Type 0
    StandFor i VConstant = RowOf t i VConstant
    StandFor i (VNumber k n) = RowOf t i (VNumber k n)
    StandFor i (VArray vs) = RowOf t i (VArray vs) × StandForAll (suc i) vs
    StandFor i (VTuple vs) = RowOf t i (VTuple vs) × StandForAll (suc i) vs
    StandFor i (VNumberArray k ns) = RowOf t i (VNumberArray k ns) × PackedAt s (row_at t i).word3 k ns
    StandFor i (VCase c v) = RowOf t i (VCase c v) × StandFor (suc i) v

    pub StandForAll : ℕ → Vals → Type 0
    StandForAll i vnil = Unit {0}
    StandForAll i (vcons v vs) = StandFor i v × StandForAll (i + row_count v) vs

-- u is one of some values
pub data Among (u : Val) : Vals → Type 0 where
  here : {vs : Vals} → Among u (vcons u vs)
  there : {v : Val} {vs : Vals} → Among u vs → Among u (vcons v vs)

-- u is v itself or an element, a field or a case value in it, at any depth
pub data ValueIn (v : Val) : Val → Type 0 where
  itself : ValueIn v v
  element : {u : Val} {vs : Vals} → ValueIn v (VArray vs) → Among u vs → ValueIn v u
  field : {u : Val} {vs : Vals} → ValueIn v (VTuple vs) → Among u vs → ValueIn v u
  case_value : {c : ℕ} {u : Val} → ValueIn v (VCase c u) → ValueIn v u

-- n rows, with a store, are a table of v
pub record TableOf (t : List ℕ) (n : ℕ) (s : List ℕ) (v : Val) : Type 0 where
  pub store : length s ≤ 1048576
  pub few : n ≤ 4096
  pub words : row_width * n ≤ length t
  pub count : row_count v ≡ n
  pub rows : StandFor t s 0 v
  pub valid : ValidVal v
  pub typed : TypedVal v
