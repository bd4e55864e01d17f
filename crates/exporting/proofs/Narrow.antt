-- Counts and tags of a value of the grammar fit in XDR's 4 bytes: a grammar's count words are below 2^32, a table has few rows and its store
-- few bytes.
use Rattle.std.proofs.Common.{◌≡◌, refl, ap, ◌∙◌, true, List, ℕ, ◌^◌, ◌<◌, arith, length, lt-ltb}
use Rattle.packed.specs.Packed.{Below}
use Rattle.value.specs.Kinds.{Kind, kinds, kind_of, constant, number, array, tuple, elements, union, other}
use Rattle.value.specs.Tree.{Gs, gnil, gcons, Val, VConstant, VNumber, VArray, VTuple, VNumberArray, VCase, seq_g, seq_v, ValInGrammar}
use Rattle.value.proofs.KindLaws.{number-kind, elements-kind}
use Rattle.grammar.specs.Tree.{only_child, node_tree, tree_of}
use Rattle.grammar.proofs.Tree.{tree_holds}
use Rattle.tables.specs.Row.{Row, row_at}
use Rattle.rows.specs.Layout.{own_row}
use Rattle.rows.specs.Rule.{StandFor, TableOf}
use Rattle.rows.specs.Size.{of_row}
use Rattle.rows.proofs.Rule.{own_row_lem}
use Rattle.rows.proofs.Parts.{Inherited, table-part, table-holds}
use Rattle.rows.proofs.Size.{table_bound}
use Rattle.xdr.proofs.Sizes.{sizes}
use Rattle.xdr.proofs.Import.{Small, SmallAll}
use Rattle.xdr.proofs.Small.{FewCases, FewCasesAll, small_of}
use Rattle.exporting.specs.Own.{narrow, RowFits}

-- ---- the grammar

only-few : (gs : Gs) → FewCasesAll gs → FewCases (only_child gs)
unfolding FewCases
only-few gnil h = tt
only-few (gcons g gs) h = h.0

node-few : (k : Kind) (gs : Gs) → length (seq_g gs) < 2 ^ 32 → FewCasesAll gs → FewCases (node_tree k gs)
unfolding node_tree FewCases
node-few constant gs l h = tt
node-few (number k) gs l h = tt
node-few array gs l h = only-few gs h
node-few tuple gs l h = h
node-few (elements k) gs l h = tt
node-few union gs l h = (omega arith, h)
node-few other gs l h = tt

pub tree_few : (g : List ℕ) → Below (2 ^ 32) g → (k : ℕ) → FewCases (tree_of g k)
unfolding FewCases
tree_few = tree_holds FewCases FewCasesAll tt (λ g gs h hs. (h, hs)) tt node-few

-- ---- the value

pub table-narrow : (g t : List ℕ) (n : ℕ) (s : List ℕ) (v : Val) → Below (2 ^ 32) g → TableOf t n s v → ValInGrammar v (tree_of g 0) → Small v
table-narrow g t n s v b h i = small_of i (tree_few g b 0) (omega (arith, h.count, h.few)) (omega (arith, table_bound t n s v h, (sizes v).outer))

-- ---- its rows

small_inherited : Inherited Small SmallAll
unfolding Small
small_inherited = record { of_array = λ vs d. d.1; of_tuple = λ vs d. d; of_case = λ c v d. d.1; of_more = λ v vs d. d }

narrow-row : (t s : List ℕ) (v : Val) (i : ℕ) → StandFor t s i v → Small v → of_row narrow t i ≡ true
unfolding own_row Small kind_of kinds
narrow-row t s v i h m = ap (λ (r : Row). narrow (kind_of r.kind) r) (own_row_lem t s v i h) ∙ own v m
  where
    own : (v : Val) → Small v → let r = own_row v (row_at t i).word3 in narrow (kind_of r.kind) r ≡ true
    own VConstant m = refl
    own (VNumber k n) m = rw (number-kind k)
    own (VArray vs) m = lt-ltb (length (seq_v vs)) (256 ^ 4) m.0
    own (VTuple vs) m = refl
    own (VNumberArray k ns) m = rw (elements-kind k) (lt-ltb (length ns) (256 ^ 4) m)
    own (VCase c v) m = lt-ltb c (256 ^ 4) m.0

pub table_fits : (t : List ℕ) (n : ℕ) (s : List ℕ) (v : Val) → TableOf t n s v → Small v → (j : ℕ) → j < n → RowFits t s j
table_fits t n s v h m j l =
    let p = table-part t s small_inherited h m j l in
    record { holds = table-holds t n s v h j l; count = narrow-row t s p.0 j p.1 p.2 }
