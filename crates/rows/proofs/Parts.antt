-- Every row of a value stands for a part of it, so every row of a table keeps its kind's rule, has its array in the store and says the size
-- of its part.
use Rattle.std.proofs.Common.{◌≡◌, refl, ap, ◌∙◌, true, List, ℕ, suc, ◌+◌, ◌*◌, ◌^◌, ◌≤◌, ◌<◌, arith, length, lt-ltb, le-leb}
use Rattle.std.proofs.Math.Decide.{dec_lt}
use Rattle.value.specs.Kinds.{width, element_width, kinds, kind_of}
use Rattle.value.specs.Tree.{Val, Vals, VConstant, VNumber, VArray, VTuple, VNumberArray, VCase, vnil, vcons, TypedVal, TypedVals, SizeOfV, row_count, row_counts}
use Rattle.value.proofs.KindLaws.{number-kind, elements-kind}
use Rattle.tables.specs.Row.{Row, row_at}
use Rattle.rows.specs.Layout.{own_row}
use Rattle.rows.specs.Walk.{keeps_rule, within_store}
use Rattle.rows.specs.Rule.{RowHolds, StandFor, StandForAll, Among, here, there, ValueIn, itself, element, field, case_value, TableOf}
use Rattle.rows.proofs.Rule.{own_row_lem, row-size}

-- below, or not
split : {A : Type 0} (j k : ℕ) → (j < k → A) → (k ≤ j → A) → A
split {A} j k f g = go (dec_lt j k)
  where
    go : Dec (j < k) → A
    go (yes l) = f l
    go (no l) = g (omega arith)

-- a property that the children of a value share
pub record Inherited (P : Val → Type 0) (All : Vals → Type 0) : Type 0 where
  pub of_array : (vs : Vals) → P (VArray vs) → All vs
  pub of_tuple : (vs : Vals) → P (VTuple vs) → All vs
  pub of_case : (c : ℕ) (v : Val) → P (VCase c v) → P v
  pub of_more : (v : Val) (vs : Vals) → All (vcons v vs) → P v × All vs

module _ (t s : List ℕ) {P : Val → Type 0} {All : Vals → Type 0} (inherited : Inherited P All) where
  -- what stands at row j
  abbrev Part : ℕ → Type 0
  Part j = (u : Val) × StandFor t s j u × P u

  first : (v : Val) (i j : ℕ) → StandFor t s i v → P v → i ≡ j → Part j
  first v i j h d e = (v, rw (← e) h, d)

  later : (v : Val) (i j : ℕ) → StandFor t s i v → P v → i ≤ j → (suc i ≤ j → Part j) → Part j
  later v i j h d a f = split i j f (λ l. first v i j h d (omega arith))

  mutual
    unfolding StandFor row_count

    part-rows : (v : Val) (i j : ℕ) → StandFor t s i v → P v → i ≤ j → j < i + row_count v → Part j
    part-rows VConstant i j h d a b = first VConstant i j h d (omega arith)
    part-rows (VNumber k n) i j h d a b = first (VNumber k n) i j h d (omega arith)
    part-rows (VArray vs) i j h d a b = later (VArray vs) i j h d a (λ l. parts-rows vs (suc i) j h.1 (inherited.of_array vs d) l (omega arith))
    part-rows (VTuple vs) i j h d a b = later (VTuple vs) i j h d a (λ l. parts-rows vs (suc i) j h.1 (inherited.of_tuple vs d) l (omega arith))
    part-rows (VNumberArray k ns) i j h d a b = first (VNumberArray k ns) i j h d (omega arith)
    part-rows (VCase c v) i j h d a b = later (VCase c v) i j h d a (λ l. part-rows v (suc i) j h.1 (inherited.of_case c v d) l (omega arith))

    parts-rows : (vs : Vals) (i j : ℕ) → StandForAll t s i vs → All vs → i ≤ j → j < i + row_counts vs → Part j
    parts-rows vnil i j h d a b = absurd (omega arith)
    parts-rows (vcons v vs) i j h d a b =
        let p = inherited.of_more v vs d in
        split j (i + row_count v) (λ l. part-rows v i j h.0 p.0 a l) (λ l. parts-rows vs (i + row_count v) j h.1 p.1 l (omega arith))

  -- each row of a table stands for a value that has what the table's has
  pub table-part : {n : ℕ} {v : Val} → TableOf t n s v → P v → (j : ℕ) → j < n → (u : Val) × StandFor t s j u × P u
  table-part {n} {v} h d j l = part-rows v 0 j h.rows d (omega arith) (omega (arith, h.count))

module _ (t s : List ℕ) where
  keeps-rows : (v : Val) (i : ℕ) → StandFor t s i v → TypedVal v → keeps_rule (kind_of (row_at t i).kind) (row_at t i) ≡ true
  unfolding own_row TypedVal row_count kind_of kinds
  keeps-rows v i h d = ap (λ (r : Row). keeps_rule (kind_of r.kind) r) (own_row_lem t s v i h) ∙ own v d
    where
      own : (v : Val) → TypedVal v → let r = own_row v (row_at t i).word3 in keeps_rule (kind_of r.kind) r ≡ true
      own VConstant d = refl
      own (VNumber k n) d = rw (number-kind k, lt-ltb n (256 ^ width k) d)
      own (VArray vs) d = refl
      own (VTuple vs) d = refl
      own (VNumberArray k ns) d = rw (elements-kind k)
      own (VCase c v) d = refl

  within-rows : (v : Val) (i : ℕ) → StandFor t s i v → within_store (kind_of (row_at t i).kind) (row_at t i) (length s) ≡ true
  unfolding StandFor own_row kind_of kinds
  within-rows v i h = ap (λ (r : Row). within_store (kind_of r.kind) r (length s)) (own_row_lem t s v i h) ∙ own v h
    where
      own : (v : Val) → StandFor t s i v → let r = own_row v (row_at t i).word3 in within_store (kind_of r.kind) r (length s) ≡ true
      own VConstant h = refl
      own (VNumber k n) h = rw (number-kind k)
      own (VArray vs) h = refl
      own (VTuple vs) h = refl
      own (VNumberArray k ns) h = rw (elements-kind k) (le-leb ((row_at t i).word3 + element_width k * length ns) (length s) h.1.within)
      own (VCase c v) h = refl

typed_inherited : Inherited TypedVal TypedVals
unfolding TypedVal
typed_inherited = record { of_array = λ vs d. d; of_tuple = λ vs d. d; of_case = λ c v d. d.1; of_more = λ v vs d. d }

module _ (t : List ℕ) (n : ℕ) (s : List ℕ) (v : Val) (h : TableOf t n s v) where
  pub table-holds : (j : ℕ) → j < n → RowHolds t s j
  table-holds j l = let p = table-part t s typed_inherited h h.typed j l in record { rule = keeps-rows t s p.0 j p.1 p.2; within = within-rows t s p.0 j p.1 }

-- the values in v
within_inherited : (v : Val) → Inherited (ValueIn v) (λ vs. (u : Val) → Among u vs → ValueIn v u)
within_inherited v = record {
  of_array = λ vs d u a. element d a;
  of_tuple = λ vs d u a. field d a;
  of_case = λ c w d. case_value d;
  of_more = λ w vs d. (d w here, λ u a. d u (there a));
}

-- each row of a table stands for the value or one in it, and says its size
pub rows_say : (t : List ℕ) (n : ℕ) (s : List ℕ) (v : Val) → TableOf t n s v → (j : ℕ) → j < n → (u : Val) × ValueIn v u × StandFor t s j u × ((row_at t j).size ≡ SizeOfV u)
rows_say t n s v h j l = let p = table-part t s (within_inherited v) h itself j l in (p.0, p.2, p.1, row-size t s p.0 j p.1)
