-- The least length of a grammar's records, in bytes; none where the grammar has no value.
use Rattle.std.specs.Prelude.{◌≡◌, Bool, true, ℕ, ◌+◌, ◌≤◌, min, ltb, Option, Some, None}
use Rattle.value.specs.Kinds.{width}
use Rattle.value.specs.Tree.{G, Gs, GConstant, GNumber, GArray, GTuple, GNumberArray, GTaggedUnion, gnil, gcons, Val, ValInGrammar, ValidGrammar, ValueOf, SizeOfV}

-- a sum stops growing at 1,048,577, which no record that is read is as long as; none with none
unfoldable pub add_least : Option ℕ → Option ℕ → Option ℕ
add_least None b = None
add_least (Some a) None = None
add_least (Some a) (Some b) = Some (min 1048577 (a + b))

-- the lesser; none is greater than all
unfoldable pub min_least : Option ℕ → Option ℕ → Option ℕ
min_least None b = b
min_least (Some a) None = Some a
min_least (Some a) (Some b) = Some (min a b)

unfoldable mutual
  -- an array of no elements is 8 bytes, whatever its elements are
  pub least : G → Option ℕ
  least GConstant = Some 0
  least (GNumber k) = Some (width k)
  least (GArray g) = Some 8
  least (GTuple gs) = fold_least add_least (Some 0) gs
  least (GNumberArray k) = Some 8
  least (GTaggedUnion gs) = add_least (Some 8) (fold_least min_least None gs)

  -- the least lengths of some grammars, joined from the last to the first
  pub fold_least : (Option ℕ → Option ℕ → Option ℕ) → Option ℕ → Gs → Option ℕ
  fold_least join end gnil = end
  fold_least join end (gcons g gs) = join (least g) (fold_least join end gs)

-- whether n bytes are fewer than the least length, or there is none
unfoldable pub below_least : Option ℕ → ℕ → Bool
below_least None n = true
below_least (Some l) n = ltb n l

-- what the least length of a grammar is, in the terms of its values: without one no value exists; no value is shorter; and one has exactly
-- this length or, where it is 1,048,577, at least that
pub record IsLeastLength (g : G) : Type 0 where
  pub absent : least g ≡ None → (v : Val) → ¬ (ValInGrammar v g)
  pub below : (l : ℕ) → least g ≡ Some l → (v : Val) → ValInGrammar v g → l ≤ SizeOfV v
  pub reached : (l : ℕ) → least g ≡ Some l → ValidGrammar g → (v : Val) × ValueOf g v × (l ≡ min 1048577 (SizeOfV v))
