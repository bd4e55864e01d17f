-- The bytes of a value are its rows' own bytes one behind the other, in every spelling.
use Rattle.std.proofs.Common.{◌≡◌, ap, sym, ◌∙◌, List, [], ◌++◌, append-nil, ℕ, suc, ◌+◌, arith, length}
use Rattle.value.specs.Kinds.{Number, Elements, Kind, kind_of, constant, number, array, tuple, elements, union}
use Rattle.value.specs.Tree.{Val, Vals, VConstant, VNumber, VArray, VTuple, VNumberArray, VCase, vnil, vcons, row_count, row_counts}
use Rattle.value.proofs.KindLaws.{number-kind, elements-kind, other-kinds}
use Rattle.tables.specs.Row.{Row, row_at}
use Rattle.rows.specs.Layout.{own_row}
use Rattle.rows.specs.Rule.{RowOf, PackedAt, StandFor, StandForAll, TableOf}
use Rattle.rows.specs.Size.{own_from, sum_from}
use Rattle.rows.proofs.Parts.{table-holds}
use Rattle.rows.proofs.Loop.{Sized, bytes_join, put-length}

-- a spelling of values as bytes: those of a value's own row, by `own`, come before those of its children, and values stand one behind the
-- other. An array's elements lie packed in the store
pub record Spelling (own : Kind → Row → List ℕ → List ℕ) (bytes : Val → List ℕ) (bytesAll : Vals → List ℕ) : Type 0 where
  pub of_constant : (place : ℕ) (s : List ℕ) → own constant (own_row VConstant place) s ≡ bytes VConstant
  pub of_number : (k : Number) (n place : ℕ) (s : List ℕ) → own (number k) (own_row (VNumber k n) place) s ≡ bytes (VNumber k n)
  pub of_array : (vs : Vals) (place : ℕ) (s : List ℕ) → own array (own_row (VArray vs) place) s ++ bytesAll vs ≡ bytes (VArray vs)
  pub of_tuple : (vs : Vals) (place : ℕ) (s : List ℕ) → own tuple (own_row (VTuple vs) place) s ++ bytesAll vs ≡ bytes (VTuple vs)
  pub of_number_array : (k : Elements) (ns : List ℕ) (place : ℕ) (s : List ℕ) → PackedAt s place k ns → own (elements k) (own_row (VNumberArray k ns) place) s ≡ bytes (VNumberArray k ns)
  pub of_case : (c : ℕ) (v : Val) (place : ℕ) (s : List ℕ) → own union (own_row (VCase c v) place) s ++ bytes v ≡ bytes (VCase c v)
  pub of_none : bytesAll vnil ≡ []
  pub of_more : (v : Val) (vs : Vals) → bytesAll (vcons v vs) ≡ bytes v ++ bytesAll vs

module _ {own : Kind → Row → List ℕ → List ℕ} {bytes : Val → List ℕ} {bytesAll : Vals → List ℕ} (spelling : Spelling own bytes bytesAll) where
  module _ (t s : List ℕ) where
    -- the first row, which is v's own and of class k, and n rows behind it
    own_first : (v : Val) (k : Kind) (i n : ℕ) → RowOf t i v → kind_of (own_row v (row_at t i).word3).kind ≡ k → own_from own t s i (1 + n) ≡ own k (own_row v (row_at t i).word3) s ++ own_from own t s (suc i) n
    unfolding own_from
    own_first v k i n h e =
        let a : 1 + n ≡ suc n = omega arith in
        rw a (ap (λ (r : Row). own (kind_of r.kind) r s ++ own_from own t s (suc i) n) h ∙ ap (λ (x : Kind). own x (own_row v (row_at t i).word3) s ++ own_from own t s (suc i) n) e)

    own_only : (v : Val) (k : Kind) (i : ℕ) → RowOf t i v → kind_of (own_row v (row_at t i).word3).kind ≡ k → own_from own t s i 1 ≡ own k (own_row v (row_at t i).word3) s
    unfolding own_from
    own_only v k i h e = own_first v k i 0 h e ∙ append-nil (own k (own_row v (row_at t i).word3) s)

    mutual
      unfolding StandFor own_row row_count own_from

      pub bytes-rows : (v : Val) (i : ℕ) → StandFor t s i v → own_from own t s i (row_count v) ≡ bytes v
      bytes-rows VConstant i h = own_only VConstant constant i h other-kinds.0 ∙ spelling.of_constant (row_at t i).word3 s
      bytes-rows (VNumber k n) i h = own_only (VNumber k n) (number k) i h (number-kind k) ∙ spelling.of_number k n (row_at t i).word3 s
      bytes-rows (VArray vs) i h =
          own_first (VArray vs) array i (row_counts vs) h.0 other-kinds.1
          ∙ ap (λ (x : List ℕ). own array (own_row (VArray vs) (row_at t i).word3) s ++ x) (byteses_rows vs (suc i) h.1)
          ∙ spelling.of_array vs (row_at t i).word3 s
      bytes-rows (VTuple vs) i h =
          own_first (VTuple vs) tuple i (row_counts vs) h.0 other-kinds.2
          ∙ ap (λ (x : List ℕ). own tuple (own_row (VTuple vs) (row_at t i).word3) s ++ x) (byteses_rows vs (suc i) h.1)
          ∙ spelling.of_tuple vs (row_at t i).word3 s
      bytes-rows (VNumberArray k ns) i h = own_only (VNumberArray k ns) (elements k) i h.0 (elements-kind k) ∙ spelling.of_number_array k ns (row_at t i).word3 s h.1
      bytes-rows (VCase c v) i h =
          own_first (VCase c v) union i (row_count v) h.0 other-kinds.3
          ∙ ap (λ (x : List ℕ). own union (own_row (VCase c v) (row_at t i).word3) s ++ x) (bytes-rows v (suc i) h.1)
          ∙ spelling.of_case c v (row_at t i).word3 s

      byteses_rows : (vs : Vals) (i : ℕ) → StandForAll t s i vs → own_from own t s i (row_counts vs) ≡ bytesAll vs
      byteses_rows vnil i h = sym spelling.of_none
      byteses_rows (vcons v vs) i h =
          bytes_join own t s (row_count v) i (row_counts vs)
          ∙ rw (bytes-rows v i h.0, byteses_rows vs (i + row_count v) h.1) (sym (spelling.of_more v vs))

  -- the whole table
  module _ (t : List ℕ) (n : ℕ) (s : List ℕ) (v : Val) (h : TableOf t n s v) where
    pub table_own : own_from own t s 0 n ≡ bytes v
    table_own = ap (own_from own t s 0) (sym h.count) ∙ bytes-rows t s v 0 h.rows

    -- and so their number
    pub table-sum : (size : Kind → Row → ℕ) → Sized own size → sum_from size t 0 n ≡ length (bytes v)
    table-sum size sized = sym (put-length own t s size sized n (table-holds t n s v h) n (omega arith)) ∙ ap length table_own
