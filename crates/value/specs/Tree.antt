-- Grammars and values as trees, `G` and `V` of the source's GenericMarshalling (GM), with its predicates and sizes.
use Rattle.std.specs.Prelude.{List, [], ◌∷◌, ℕ, ◌+◌, ◌*◌, ◌^◌, ◌<◌, length, get_or}
use Rattle.packed.specs.Packed.{Below}
use Rattle.value.specs.Kinds.{Number, uint32, uint64, width, Elements, bytes, uint32s, uint64s, element_width}

-- GM's datatype G, by classes, with document 02's numbers of kinds 9 and 10; Gs is seq<G>
mutual
  pub data G : Type 0 where
    GConstant : G
    GNumber : Number → G
    GArray : G → G
    GTuple : Gs → G
    GNumberArray : Elements → G
    GTaggedUnion : Gs → G

  pub data Gs : Type 0 where
    gnil : Gs
    gcons : G → Gs → Gs

-- GM's datatype V likewise (`V` is a reserved word here); Vals is seq<V>
mutual
  pub data Val : Type 0 where
    VConstant : Val
    VNumber : Number → ℕ → Val
    VArray : Vals → Val
    VTuple : Vals → Val
    VNumberArray : Elements → List ℕ → Val
    VCase : ℕ → Val → Val

  pub data Vals : Type 0 where
    vnil : Vals
    vcons : Val → Vals → Vals

-- GM's other names of kinds
abbrev pub GUint32 : G
GUint32 = GNumber uint32

abbrev pub GUint64 : G
GUint64 = GNumber uint64

abbrev pub GByteArray : G
GByteArray = GNumberArray bytes

abbrev pub GUint32Array : G
GUint32Array = GNumberArray uint32s

abbrev pub GUint64Array : G
GUint64Array = GNumberArray uint64s

abbrev pub VUint32 : ℕ → Val
VUint32 v = VNumber uint32 v

abbrev pub VUint64 : ℕ → Val
VUint64 u = VNumber uint64 u

abbrev pub VByteArray : List ℕ → Val
VByteArray b = VNumberArray bytes b

abbrev pub VUint32Array : List ℕ → Val
VUint32Array va = VNumberArray uint32s va

abbrev pub VUint64Array : List ℕ → Val
VUint64Array ua = VNumberArray uint64s ua

-- a seq<G> and a seq<V> as lists
abbrev pub seq_g : Gs → List G
seq_g gnil = []
seq_g (gcons g gs) = g ∷ seq_g gs

abbrev pub seq_v : Vals → List Val
seq_v vnil = []
seq_v (vcons v vs) = v ∷ seq_v vs

-- GM's `cases[c]`, where c is below the count
abbrev pub case_at : Gs → ℕ → G
case_at cases c = get_or (seq_g cases) c GConstant

-- GM's `ValInGrammar`
mutual
  pub data ValInGrammar : Val → G → Type 0 where
    in_constant : ValInGrammar VConstant GConstant
    in_number : {k : Number} {n : ℕ} → ValInGrammar (VNumber k n) (GNumber k)
    in_array : {vs : Vals} {g : G} → AllInGrammar vs g → ValInGrammar (VArray vs) (GArray g)
    in_tuple : {vs : Vals} {gs : Gs} → EachInGrammar vs gs → ValInGrammar (VTuple vs) (GTuple gs)
    in_number_array : {k : Elements} {ns : List ℕ} → ValInGrammar (VNumberArray k ns) (GNumberArray k)
    in_case : {c : ℕ} {v : Val} {gs : Gs} → c < length (seq_g gs) → ValInGrammar v (case_at gs c) → ValInGrammar (VCase c v) (GTaggedUnion gs)

  -- every element is in the one grammar
  pub data AllInGrammar : Vals → G → Type 0 where
    all_nil : {g : G} → AllInGrammar vnil g
    all_cons : {v : Val} {vs : Vals} {g : G} → ValInGrammar v g → AllInGrammar vs g → AllInGrammar (vcons v vs) g

  -- as many fields as grammars, each in its own
  pub data EachInGrammar : Vals → Gs → Type 0 where
    each_nil : EachInGrammar vnil gnil
    each_cons : {v : Val} {vs : Vals} {g : G} {gs : Gs} → ValInGrammar v g → EachInGrammar vs gs → EachInGrammar (vcons v vs) (gcons g gs)

-- GM's `ValidGrammar`
unfoldable mutual
  pub ValidGrammar : G → Type 0
  ValidGrammar GConstant = Unit {0}
  ValidGrammar (GNumber k) = Unit {0}
  ValidGrammar (GArray g) = ValidGrammar g
  ValidGrammar (GTuple gs) = (length (seq_g gs) < 2 ^ 64) × ValidGrammars gs
  ValidGrammar (GNumberArray k) = Unit {0}
  ValidGrammar (GTaggedUnion gs) = (length (seq_g gs) < 2 ^ 64) × ValidGrammars gs

  pub ValidGrammars : Gs → Type 0
  ValidGrammars gnil = Unit {0}
  ValidGrammars (gcons g gs) = ValidGrammar g × ValidGrammars gs

-- GM's `ValidVal`: every count is below 2^64
unfoldable mutual
  pub ValidVal : Val → Type 0
  ValidVal VConstant = Unit {0}
  ValidVal (VNumber k n) = Unit {0}
  ValidVal (VArray vs) = (length (seq_v vs) < 2 ^ 64) × ValidVals vs
  ValidVal (VTuple vs) = (length (seq_v vs) < 2 ^ 64) × ValidVals vs
  ValidVal (VNumberArray k ns) = length ns < 2 ^ 64
  ValidVal (VCase c v) = ValidVal v

  pub ValidVals : Vals → Type 0
  ValidVals vnil = Unit {0}
  ValidVals (vcons v vs) = ValidVal v × ValidVals vs

-- what Dafny's types uint32, uint64 and byte say of a V, and the same of a signed number's pattern: each number is below 256 to the power
-- of its width, a tag below 2^64
unfoldable mutual
  pub TypedVal : Val → Type 0
  TypedVal VConstant = Unit {0}
  TypedVal (VNumber k n) = n < 256 ^ width k
  TypedVal (VArray vs) = TypedVals vs
  TypedVal (VTuple vs) = TypedVals vs
  TypedVal (VNumberArray k ns) = Below (256 ^ element_width k) ns
  TypedVal (VCase c v) = (c < 2 ^ 64) × TypedVal v

  pub TypedVals : Vals → Type 0
  TypedVals vnil = Unit {0}
  TypedVals (vcons v vs) = TypedVal v × TypedVals vs

-- document 01's "each element count below 2^64": the counts that stand in the bytes, so not a tuple's
unfoldable mutual
  pub CountsBelow : Val → Type 0
  CountsBelow VConstant = Unit {0}
  CountsBelow (VNumber k n) = Unit {0}
  CountsBelow (VArray vs) = (length (seq_v vs) < 2 ^ 64) × CountsBelowAll vs
  CountsBelow (VTuple vs) = CountsBelowAll vs
  CountsBelow (VNumberArray k ns) = length ns < 2 ^ 64
  CountsBelow (VCase c v) = CountsBelow v

  pub CountsBelowAll : Vals → Type 0
  CountsBelowAll vnil = Unit {0}
  CountsBelowAll (vcons v vs) = CountsBelow v × CountsBelowAll vs

-- document 01's values of a grammar: a `V` that meets `ValInGrammar`, each element count below 2^64. Under `ValidGrammar`
-- that is `ValidVal` (`valid-counts` of proofs/)
pub record ValueOf (g : G) (v : Val) : Type 0 where
  pub in_grammar : ValInGrammar v g
  pub valid : ValidVal v
  pub typed : TypedVal v

-- an array's elements, and a tuple's fields
pub record ElementsOf (g : G) (vs : Vals) : Type 0 where
  pub in_grammar : AllInGrammar vs g
  pub valid : ValidVals vs
  pub typed : TypedVals vs

pub record FieldsOf (gs : Gs) (vs : Vals) : Type 0 where
  pub in_grammar : EachInGrammar vs gs
  pub valid : ValidVals vs
  pub typed : TypedVals vs

-- GM's `SizeOfV` and `SeqSum`: the bytes of a value
unfoldable mutual
  pub SizeOfV : Val → ℕ
  SizeOfV VConstant = 0
  SizeOfV (VNumber k n) = width k
  SizeOfV (VArray vs) = 8 + SeqSum vs
  SizeOfV (VTuple vs) = SeqSum vs
  SizeOfV (VNumberArray k ns) = 8 + element_width k * length ns
  SizeOfV (VCase c v) = 8 + SizeOfV v

  pub SeqSum : Vals → ℕ
  SeqSum vnil = 0
  SeqSum (vcons v vs) = SizeOfV v + SeqSum vs

-- the rows of a value: one for itself and one for each field, kind 3 element and case value in it, at any depth
unfoldable mutual
  pub row_count : Val → ℕ
  row_count VConstant = 1
  row_count (VNumber k n) = 1
  row_count (VArray vs) = 1 + row_counts vs
  row_count (VTuple vs) = 1 + row_counts vs
  row_count (VNumberArray k ns) = 1
  row_count (VCase c v) = 1 + row_count v

  pub row_counts : Vals → ℕ
  row_counts vnil = 0
  row_counts (vcons v vs) = row_count v + row_counts vs
