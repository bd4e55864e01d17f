-- The source's own equations: what GM writes for each of its pure functions and predicates, in GM's names for the kinds, holds of
-- the definitions here. Where GM matches, an equation stands for each case, in GM's order.
use Rattle.std.proofs.Common.{◌≡◌, refl, sym, ap, subst, ◌∙◌, ◌↔◌, inl, inr, Bool, true, false, not, List, [], ◌∷◌, ℕ, zero, suc, ◌+◌, ◌-◌, ◌*◌, ◌/◌, ◌^◌, ◌≤◌, ◌<◌, one-mul, div-one, suc-add, zero-add, arith, length, get_or, take, drop, length-append, length-drop, drop-drop, leb, ltb, T, leb→le, ltb→lt, nltb→le}
use Rattle.std.proofs.Math.Option.{Option, none, some}
use Rattle.std.proofs.Math.Seq.{take-nil, slice}
use mathlib.Core.List.{Memᴰ as Member}
use mathlib.Core.Logic.Iff
use mathlib.Core.List.Memᴰ.{cases_cons}
use mathlib.Core.List.Memᴰ.{head as first}
use mathlib.Core.List.Memᴰ.{not-nil}
use mathlib.Core.List.Memᴰ.{tail as later}
use Rattle.refusal.specs.Outcome.{accepted, refused, bind, test}
use Rattle.refusal.proofs.Outcome.{bind_assoc, holds, fails}
use Rattle.packed.specs.Packed.{unpack_little_endian, unpack_little_endian_seq, Bytes, Below}
use Rattle.packed.proofs.Laws.{unpack_seq_cons, unpack_seq_take}
use Rattle.value.specs.Kinds.{Number, width, Elements, bytes, element_width}
use Rattle.value.specs.Tree.{G, Gs, GConstant, GNumber, GArray, GTuple, GNumberArray, GTaggedUnion, gnil, gcons, GUint32, GUint64, GByteArray, GUint32Array, GUint64Array, Val, Vals, VConstant, VNumber, VArray, VTuple, VNumberArray, VCase, vnil, vcons, VUint32, VUint64, VByteArray, VUint32Array, VUint64Array, seq_g, seq_v, case_at, ValInGrammar, AllInGrammar, EachInGrammar, in_constant, in_number, in_array, in_tuple, in_number_array, in_case, all_nil, all_cons, each_nil, each_cons, ValidGrammar, ValidGrammars, ValidVal, ValidVals, TypedVal, TypedVals, SizeOfV, SeqSum}
use Rattle.value.specs.Step.{Step, yield, next, give, both, elements}
use Rattle.value.specs.Parse.{Parse, pair, parse_number, parse_numbers, parse, parse_fields, parse_case_at, parse_val, parse_uint32, parse_uint64, parse_array_contents, parse_array, parse_tuple_contents, parse_tuple, parse_byte_array, parse_uint32_array, parse_uint64_array, parse_case, Demarshallable, DemarshallFunc}
use Rattle.value.proofs.Laws.{each_length, parse_case_at-below, parse_case_at-above, Parses, elements_post, parse_post, fields_post, demarshallable_value}

infix 20 if◌then◌else◌
-- ---- sizes

pub SizeOfV-source : (SizeOfV VConstant ≡ 0)
    × ((v : ℕ) → SizeOfV (VUint32 v) ≡ 4)
    × ((u : ℕ) → SizeOfV (VUint64 u) ≡ 8)
    × ((a : Vals) → SizeOfV (VArray a) ≡ 8 + SeqSum a)
    × ((t : Vals) → SizeOfV (VTuple t) ≡ SeqSum t)
    × ((b : List ℕ) → SizeOfV (VByteArray b) ≡ 8 + length b)
    × ((b : List ℕ) → SizeOfV (VUint32Array b) ≡ 8 + 4 * length b)
    × ((b : List ℕ) → SizeOfV (VUint64Array b) ≡ 8 + 8 * length b)
    × ((c : ℕ) (v : Val) → SizeOfV (VCase c v) ≡ 8 + SizeOfV v)
unfolding SizeOfV
SizeOfV-source = (refl, λ v. refl, λ u. refl, λ a. refl, λ t. refl, λ b. rw one-mul, λ b. refl, λ b. refl, λ c v. refl)

pub SeqSum-source : (SeqSum vnil ≡ 0) × ((v : Val) (vs : Vals) → SeqSum (vcons v vs) ≡ SizeOfV v + SeqSum vs)
unfolding SeqSum
SeqSum-source = (refl, λ v vs. refl)

-- ---- predicates

-- a property of a seq<V> that its elements have: GM's `forall v :: v in vs ==> ..`
module _ (P : Val → Type 0) (F : Vals → Type 0) (none' : F vnil) (cons : (v : Val) (vs : Vals) → F (vcons v vs) ↔ (P v × F vs)) where
  each_val : (vs : Vals) → F vs ↔ ((v : Val) → Member v (seq_v vs) → P v)
  each_val vnil = (λ f v m. absurd (not-nil m), λ h. none')
  each_val (vcons v vs) = (
    λ f u m. elim (cases_cons m) [ inl e ↦ subst P (sym e) ((cons v vs).0 f).0 | inr n ↦ (each_val vs).0 ((cons v vs).0 f).1 u n ],
    λ h. (cons v vs).1 (h v (first refl), (each_val vs).1 (λ u m. h u (later m))),
  )

valid_each : (vs : Vals) → ValidVals vs ↔ ((v : Val) → Member v (seq_v vs) → ValidVal v)
unfolding ValidVal
valid_each = each_val ValidVal ValidVals tt (λ v vs. Iff.rfl)

pub ValidVal-source : ValidVal VConstant
    × ((v : ℕ) → ValidVal (VUint32 v))
    × ((u : ℕ) → ValidVal (VUint64 u))
    × ((a : Vals) → ValidVal (VArray a) ↔ ((length (seq_v a) < 2 ^ 64) × ((v : Val) → Member v (seq_v a) → ValidVal v)))
    × ((t : Vals) → ValidVal (VTuple t) ↔ ((length (seq_v t) < 2 ^ 64) × ((v : Val) → Member v (seq_v t) → ValidVal v)))
    × ((b : List ℕ) → ValidVal (VByteArray b) ↔ (length b < 2 ^ 64))
    × ((va : List ℕ) → ValidVal (VUint32Array va) ↔ (length va < 2 ^ 64))
    × ((ua : List ℕ) → ValidVal (VUint64Array ua) ↔ (length ua < 2 ^ 64))
    × ((c : ℕ) (v : Val) → ValidVal (VCase c v) ↔ ValidVal v)
unfolding ValidVal
ValidVal-source = (tt, λ v. tt, λ u. tt, counted, counted, λ b. Iff.rfl, λ va. Iff.rfl, λ ua. Iff.rfl, λ c v. Iff.rfl)
  where
    counted : (vs : Vals) → ((length (seq_v vs) < 2 ^ 64) × ValidVals vs) ↔ ((length (seq_v vs) < 2 ^ 64) × ((v : Val) → Member v (seq_v vs) → ValidVal v))
    counted vs = (λ h. (h.0, (valid_each vs).0 h.1), λ h. (h.0, (valid_each vs).1 h.1))

typed_each : (vs : Vals) → TypedVals vs ↔ ((v : Val) → Member v (seq_v vs) → TypedVal v)
unfolding TypedVal
typed_each = each_val TypedVal TypedVals tt (λ v vs. Iff.rfl)

-- what the fields of GM's `V` are by their types: uint32, uint64, seq<byte>, seq<uint32>, seq<uint64>
pub TypedVal-source : TypedVal VConstant
    × ((v : ℕ) → TypedVal (VUint32 v) ↔ (v < 2 ^ 32))
    × ((u : ℕ) → TypedVal (VUint64 u) ↔ (u < 2 ^ 64))
    × ((a : Vals) → TypedVal (VArray a) ↔ ((v : Val) → Member v (seq_v a) → TypedVal v))
    × ((t : Vals) → TypedVal (VTuple t) ↔ ((v : Val) → Member v (seq_v t) → TypedVal v))
    × ((b : List ℕ) → TypedVal (VByteArray b) ↔ Below (2 ^ 8) b)
    × ((va : List ℕ) → TypedVal (VUint32Array va) ↔ Below (2 ^ 32) va)
    × ((ua : List ℕ) → TypedVal (VUint64Array ua) ↔ Below (2 ^ 64) ua)
    × ((c : ℕ) (v : Val) → TypedVal (VCase c v) ↔ ((c < 2 ^ 64) × TypedVal v))
unfolding TypedVal
TypedVal-source = (tt, λ v. Iff.rfl, λ u. Iff.rfl, typed_each, typed_each, λ b. Iff.rfl, λ va. Iff.rfl, λ ua. Iff.rfl, λ c v. Iff.rfl)

-- the same of a seq<G>
valid_each_grammar : (gs : Gs) → ValidGrammars gs ↔ ((g : G) → Member g (seq_g gs) → ValidGrammar g)
unfolding ValidGrammar
valid_each_grammar gnil = (λ f g m. absurd (not-nil m), λ h. tt)
valid_each_grammar (gcons g gs) = (
  λ f u m. elim (cases_cons m) [ inl e ↦ subst ValidGrammar (sym e) f.0 | inr n ↦ (valid_each_grammar gs).0 f.1 u n ],
  λ h. (h g (first refl), (valid_each_grammar gs).1 (λ u m. h u (later m))),
)

pub ValidGrammar-source : ValidGrammar GConstant
    × ValidGrammar GUint32
    × ValidGrammar GUint64
    × ((elt : G) → ValidGrammar (GArray elt) ↔ ValidGrammar elt)
    × ((t : Gs) → ValidGrammar (GTuple t) ↔ ((length (seq_g t) < 2 ^ 64) × ((g : G) → Member g (seq_g t) → ValidGrammar g)))
    × ValidGrammar GByteArray
    × ValidGrammar GUint32Array
    × ValidGrammar GUint64Array
    × ((cases : Gs) → ValidGrammar (GTaggedUnion cases) ↔ ((length (seq_g cases) < 2 ^ 64) × ((g : G) → Member g (seq_g cases) → ValidGrammar g)))
unfolding ValidGrammar
ValidGrammar-source = (tt, tt, tt, λ elt. Iff.rfl, counted, tt, tt, tt, counted)
  where
    counted : (gs : Gs) → ((length (seq_g gs) < 2 ^ 64) × ValidGrammars gs) ↔ ((length (seq_g gs) < 2 ^ 64) × ((g : G) → Member g (seq_g gs) → ValidGrammar g))
    counted gs = (λ h. (h.0, (valid_each_grammar gs).0 h.1), λ h. (h.0, (valid_each_grammar gs).1 h.1))

in_constant_lem : (g : G) → ValInGrammar VConstant g ↔ (g ≡ GConstant)
in_constant_lem g = (out, λ e. rw e in_constant)
  where
    out : {g : G} → ValInGrammar VConstant g → g ≡ GConstant
    out in_constant = refl

in_number_lem : (k : Number) (n : ℕ) (g : G) → ValInGrammar (VNumber k n) g ↔ (g ≡ GNumber k)
in_number_lem k n g = (out, λ e. rw e in_number)
  where
    out : {g : G} → ValInGrammar (VNumber k n) g → g ≡ GNumber k
    out in_number = refl

in_elements : (k : Elements) (ns : List ℕ) (g : G) → ValInGrammar (VNumberArray k ns) g ↔ (g ≡ GNumberArray k)
in_elements k ns g = (out, λ e. rw e in_number_array)
  where
    out : {g : G} → ValInGrammar (VNumberArray k ns) g → g ≡ GNumberArray k
    out in_number_array = refl

all_in : (g : G) (vs : Vals) → AllInGrammar vs g ↔ ((v : Val) → Member v (seq_v vs) → ValInGrammar v g)
all_in g = each_val (λ v. ValInGrammar v g) (λ vs. AllInGrammar vs g) all_nil (λ v vs. (apart, λ h. all_cons h.0 h.1))
  where
    apart : {v : Val} {vs : Vals} → AllInGrammar (vcons v vs) g → ValInGrammar v g × AllInGrammar vs g
    apart (all_cons i is) = (i, is)

-- t[i] is in grammar.t[i]
abbrev pub InGrammarAt : Vals → Gs → ℕ → Type 0
InGrammarAt vs gs i = ValInGrammar (get_or (seq_v vs) i VConstant) (get_or (seq_g gs) i GConstant)

each_in : (vs : Vals) (gs : Gs) → EachInGrammar vs gs ↔ ((length (seq_v vs) ≡ length (seq_g gs)) × ((i : ℕ) → i < length (seq_v vs) → InGrammarAt vs gs i))
each_in vs gs = (λ e. (each_length e, at e), λ h. from vs gs h.0 h.1)
  where
    at : {vs : Vals} {gs : Gs} → EachInGrammar vs gs → (i : ℕ) → i < length (seq_v vs) → InGrammarAt vs gs i
    at each_nil i l = absurd (omega arith)
    at (each_cons j js) zero l = j
    at (each_cons j js) (suc i) l = at js i (omega arith)

    from : (vs : Vals) (gs : Gs) → length (seq_v vs) ≡ length (seq_g gs) → ((i : ℕ) → i < length (seq_v vs) → InGrammarAt vs gs i) → EachInGrammar vs gs
    from vnil gnil l h = each_nil
    from vnil (gcons g gs) l h = absurd (omega arith)
    from (vcons v vs) gnil l h = absurd (omega arith)
    from (vcons v vs) (gcons g gs) l h = each_cons (h 0 (omega arith)) (from vs gs (omega arith) (λ i k. h (suc i) (omega arith)))

pub ValInGrammar-source : ((g : G) → ValInGrammar VConstant g ↔ (g ≡ GConstant))
    × ((v : ℕ) (g : G) → ValInGrammar (VUint32 v) g ↔ (g ≡ GUint32))
    × ((u : ℕ) (g : G) → ValInGrammar (VUint64 u) g ↔ (g ≡ GUint64))
    × ((a : Vals) (g : G) → ValInGrammar (VArray a) g ↔ ((elt : G) × (g ≡ GArray elt) × ((v : Val) → Member v (seq_v a) → ValInGrammar v elt)))
    × ((t : Vals) (g : G) → ValInGrammar (VTuple t) g ↔ ((gs : Gs) × (g ≡ GTuple gs) × (length (seq_v t) ≡ length (seq_g gs)) × ((i : ℕ) → i < length (seq_v t) → InGrammarAt t gs i)))
    × ((b : List ℕ) (g : G) → ValInGrammar (VByteArray b) g ↔ (g ≡ GByteArray))
    × ((va : List ℕ) (g : G) → ValInGrammar (VUint32Array va) g ↔ (g ≡ GUint32Array))
    × ((ua : List ℕ) (g : G) → ValInGrammar (VUint64Array ua) g ↔ (g ≡ GUint64Array))
    × ((c : ℕ) (v : Val) (g : G) → ValInGrammar (VCase c v) g ↔ ((cases : Gs) × (g ≡ GTaggedUnion cases) × (c < length (seq_g cases)) × ValInGrammar v (case_at cases c)))
ValInGrammar-source = (in_constant_lem, in_number_lem _, in_number_lem _, λ a g. (array a, λ h. rw h.1 (in_array ((all_in h.0 a).1 h.2))), λ t g. (tuple t, λ h. rw h.1 (in_tuple ((each_in t h.0).1 (h.2, h.3)))), in_elements _, in_elements _, in_elements _, λ c v g. (case c v, λ h. rw h.1 (in_case h.2 h.3)))
  where
    array : (a : Vals) {g : G} → ValInGrammar (VArray a) g → (elt : G) × (g ≡ GArray elt) × ((v : Val) → Member v (seq_v a) → ValInGrammar v elt)
    array a (in_array {g = elt} i) = (elt, refl, (all_in elt a).0 i)

    tuple : (t : Vals) {g : G} → ValInGrammar (VTuple t) g → (gs : Gs) × (g ≡ GTuple gs) × (length (seq_v t) ≡ length (seq_g gs)) × ((i : ℕ) → i < length (seq_v t) → InGrammarAt t gs i)
    tuple t (in_tuple {gs = gs} i) = let h = (each_in t gs).0 i in (gs, refl, h.0, h.1)

    case : (c : ℕ) (v : Val) {g : G} → ValInGrammar (VCase c v) g → (cases : Gs) × (g ≡ GTaggedUnion cases) × (c < length (seq_g cases)) × ValInGrammar v (case_at cases c)
    case c v (in_case {gs = gs} l i) = (gs, refl, l, i)

-- ---- parse functions

-- GM's `if .. then .. else ..`
abbrev pub if◌then◌else◌ : {A : Type 0} → Bool → A → A → A
if◌then◌else◌ true a b = a
if◌then◌else◌ false a b = b

-- GM's `if !o.None? then .. o.value .. else (None, [])`
abbrev pub on_some : {A B : Type 0} → Option A → (A → Option B × List ℕ) → Option B × List ℕ
on_some (some a) k = k a
on_some none k = (none, [])

-- GM's `if !val.None? && !others.None? then (Some([val.value] + others.value), rest) else (None, [])`
abbrev pub joined : Option Val → Option Vals → List ℕ → Option Vals × List ℕ
joined (some v) (some vs) rest = (some (vcons v vs), rest)
joined (some v) none rest = (none, [])
joined none others rest = (none, [])

-- GM's field `u` of a `VUint64`
abbrev pub u : Val → ℕ
u VConstant = 0
u (VNumber k n) = n
u (VArray vs) = 0
u (VTuple vs) = 0
u (VNumberArray k ns) = 0
u (VCase c v) = 0

-- ---- the steps as pairs

pair-next : {A B : Type 0} (x : Parse A) (k : A → List ℕ → Parse B) → pair (next x k) ≡ on_some (pair x).0 (λ a. pair (k a (pair x).1))
pair-next (accepted t) k = refl
pair-next (refused e) k = refl

-- GM parses on behind a value that failed
pair-both : (x : Parse Val) (k : List ℕ → Parse Vals) → pair (both x k) ≡ joined (pair x).0 (pair (k (pair x).1)).0 (pair (k (pair x).1)).1
pair-both (accepted t) k = go (k t.state)
  where
    go : (y : Parse Vals) → pair (give (vcons t.value) y) ≡ joined (some t.value) (pair y).0 (pair y).1
    go (accepted r) = refl
    go (refused e) = refl
pair-both (refused e) k = refl

-- what follows a number of 8 bytes, GM's `parse_Uint64`
pair-count : {B : Type 0} (d : List ℕ) (k : Step (List ℕ) ℕ → Parse B) (f : ℕ → List ℕ → Option B × List ℕ) → ((t : Step (List ℕ) ℕ) → pair (k t) ≡ f t.value t.state) → pair (bind (parse_number 8 d) k) ≡ on_some (parse_uint64 d).0 (λ len. f (u len) (parse_uint64 d).1)
unfolding parse
pair-count d k f h = go (parse_number 8 d)
  where
    go : (x : Parse ℕ) → pair (bind x k) ≡ on_some (pair (give VUint64 x)).0 (λ len. f (u len) (pair (give VUint64 x)).1)
    go (accepted t) = h t
    go (refused e) = refl

-- bytes are numbers of one byte
unpack_seq_one : (n : ℕ) (s : List ℕ) → n ≤ length s → unpack_little_endian_seq 1 s n ≡ take n s
unfolding unpack_little_endian unpack_little_endian_seq
unpack_seq_one zero s h = refl
unpack_seq_one (suc n) [] h = absurd (omega arith)
unpack_seq_one (suc n) (b ∷ s) h =
    let e : 0 + b * 1 ≡ b = omega arith in
    unpack_seq_cons 1 n (b ∷ s) ∙ rw (e, unpack_seq_one n s (omega arith))

-- a part is a front part of what is left
slice-take : (m n : ℕ) (l : List ℕ) → slice m (m + n) l ≡ take n (drop m l)
slice-take zero n l = rw zero-add
slice-take (suc m) n [] = rw (take-nil (suc m + n)) (sym (take-nil n))
slice-take (suc m) n (a ∷ l) = rw suc-add (slice-take m n l)

-- ---- GM's equations

parse-number : (k : Number) (d : List ℕ) → parse_val d (GNumber k) ≡ if leb (width k) (length d) then (some (VNumber k (unpack_little_endian (width k) (take (width k) d))), drop (width k) d) else (none, [])
unfolding parse parse_number
parse-number k d = go (leb (width k) (length d))
  where
    go : (b : Bool) → pair (give (VNumber k) (test b tt (λ _. yield (unpack_little_endian (width k) (take (width k) d)) (drop (width k) d)))) ≡ if b then (some (VNumber k (unpack_little_endian (width k) (take (width k) d))), drop (width k) d) else (none, [])
    go true = refl
    go false = refl

pub parse_uint32-source : (d : List ℕ) → parse_uint32 d ≡ if leb 4 (length d) then (some (VUint32 (unpack_little_endian 4 (take 4 d))), drop 4 d) else (none, [])
parse_uint32-source = parse-number _

pub parse_uint64-source : (d : List ℕ) → parse_uint64 d ≡ if leb 8 (length d) then (some (VUint64 (unpack_little_endian 8 (take 8 d))), drop 8 d) else (none, [])
parse_uint64-source = parse-number _

pub parse_array_contents-source : (d : List ℕ) (eltType : G) → (parse_array_contents d eltType 0 ≡ (some vnil, d))
    × ((n : ℕ) →
    let val = parse_val d eltType in
    let others = parse_array_contents val.1 eltType n in
    parse_array_contents d eltType (suc n) ≡ joined val.0 others.0 others.1)
unfolding elements
parse_array_contents-source d eltType = (refl, λ n. pair-both (parse eltType d) (elements n (parse eltType)))

pub parse_array-source : (d : List ℕ) (eltType : G) →
    let len = parse_uint64 d in
    parse_array d eltType ≡ on_some len.0 (λ l. let contents = parse_array_contents len.1 eltType (u l) in on_some contents.0 (λ c. (some (VArray c), contents.1)))
unfolding parse
parse_array-source d eltType = pair-count d _ (λ n r. let contents = parse_array_contents r eltType n in on_some contents.0 (λ c. (some (VArray c), contents.1))) (λ t. pair-next (elements t.value (parse eltType) t.state) (λ c s. yield (VArray c) s))

pub parse_tuple_contents-source : (d : List ℕ) → (parse_tuple_contents d gnil ≡ (some vnil, d))
    × ((eltType : G) (eltTypes : Gs) →
    let val = parse_val d eltType in
    let contents = parse_tuple_contents val.1 eltTypes in
    parse_tuple_contents d (gcons eltType eltTypes) ≡ joined val.0 contents.0 contents.1)
unfolding parse
parse_tuple_contents-source d = (refl, λ g gs. pair-both (parse g d) (parse_fields gs))

pub parse_tuple-source : (d : List ℕ) (eltTypes : Gs) →
    let contents = parse_tuple_contents d eltTypes in
    parse_tuple d eltTypes ≡ on_some contents.0 (λ c. (some (VTuple c), contents.1))
unfolding parse
parse_tuple-source d eltTypes = pair-next (parse_fields eltTypes d) (λ c s. yield (VTuple c) s)

-- n numbers of a kind, from r on
abbrev numbers_of : Elements → ℕ → List ℕ → Option Val × List ℕ
numbers_of k n r = if leb n (length r / element_width k) then (some (VNumberArray k (unpack_little_endian_seq (element_width k) (take (element_width k * n) r) n)), drop (element_width k * n) r) else (none, [])

parse-numbers : (k : Elements) (d : List ℕ) (f : ℕ → List ℕ → Option Val × List ℕ) → ((n : ℕ) (r : List ℕ) → numbers_of k n r ≡ f n r) → parse_val d (GNumberArray k) ≡ on_some (parse_uint64 d).0 (λ l. f (u l) (parse_uint64 d).1)
unfolding parse parse_numbers
parse-numbers k d f h = ap pair (bind_assoc (parse_number 8 d) _ _) ∙ pair-count d _ f (λ t. go t.value t.state (leb t.value (length t.state / element_width k)) ∙ h t.value t.state)
  where
    go : (n : ℕ) (r : List ℕ) (b : Bool) → pair (give (VNumberArray k) (test b tt (λ _. yield (unpack_little_endian_seq (element_width k) (take (element_width k * n) r) n) (drop (element_width k * n) r)))) ≡ if b then (some (VNumberArray k (unpack_little_endian_seq (element_width k) (take (element_width k * n) r) n)), drop (element_width k * n) r) else (none, [])
    go n r true = refl
    go n r false = refl

-- GM compares a byte array's length with the bytes left
pub parse_byte_array-source : (d : List ℕ) →
    let len = parse_uint64 d in
    parse_byte_array d ≡ on_some len.0 (λ l. if leb (u l) (length len.1) then (some (VByteArray (take (u l) len.1)), drop (u l) len.1) else (none, []))
parse_byte_array-source d = parse-numbers bytes d bytes_from (λ n r. rw (div-one, one-mul) (go n r (leb n (length r)) (leb→le n (length r))))
  where
    bytes_from : ℕ → List ℕ → Option Val × List ℕ
    bytes_from n r = if leb n (length r) then (some (VByteArray (take n r)), drop n r) else (none, [])

    go : (n : ℕ) (r : List ℕ) (b : Bool) → (T b → n ≤ length r) → ◌≡◌ {A = Option Val × List ℕ} (if b then (some (VByteArray (unpack_little_endian_seq 1 (take n r) n)), drop n r) else (none, [])) (if b then (some (VByteArray (take n r)), drop n r) else (none, []))
    go n r true h = rw (unpack_seq_take 1 n n r (omega arith), unpack_seq_one n r (h tt))
    go n r false h = refl

-- and that of the others by division
parse_divided : (k : Elements) (d : List ℕ) →
    let len = unpack_little_endian 8 (take 8 d) in
    parse_val d (GNumberArray k) ≡ if leb 8 (length d) then if leb len ((length d - 8) / element_width k) then (some (VNumberArray k (unpack_little_endian_seq (element_width k) (slice 8 (8 + element_width k * len) d) len)), drop (8 + element_width k * len) d) else (none, []) else (none, [])
parse_divided k d = parse-numbers k d (numbers_of k) (λ n r. refl) ∙ ap (λ (p : Option Val × List ℕ). on_some p.0 (λ l. numbers_of k (u l) p.1)) (parse_uint64-source d) ∙ go (leb 8 (length d))
  where
    len : ℕ
    len = unpack_little_endian 8 (take 8 d)

    go : (b : Bool) →
        let p : Option Val × List ℕ = if b then (some (VUint64 len), drop 8 d) else (none, []) in
        on_some p.0 (λ l. numbers_of k (u l) p.1) ≡ if b then if leb len ((length d - 8) / element_width k) then (some (VNumberArray k (unpack_little_endian_seq (element_width k) (slice 8 (8 + element_width k * len) d) len)), drop (8 + element_width k * len) d) else (none, []) else (none, [])
    go true = rw (length-drop, drop-drop, slice-take)
    go false = refl

pub parse_uint32_array-source : (d : List ℕ) →
    let len = unpack_little_endian 8 (take 8 d) in
    parse_uint32_array d ≡ if leb 8 (length d) then if leb len ((length d - 8) / 4) then (some (VUint32Array (unpack_little_endian_seq 4 (slice 8 (8 + 4 * len) d) len)), drop (8 + 4 * len) d) else (none, []) else (none, [])
parse_uint32_array-source = parse_divided _

pub parse_uint64_array-source : (d : List ℕ) →
    let len = unpack_little_endian 8 (take 8 d) in
    parse_uint64_array d ≡ if leb 8 (length d) then if leb len ((length d - 8) / 8) then (some (VUint64Array (unpack_little_endian_seq 8 (slice 8 (8 + 8 * len) d) len)), drop (8 + 8 * len) d) else (none, []) else (none, [])
parse_uint64_array-source = parse_divided _

pub parse_case-source : (d : List ℕ) (cases : Gs) →
    let caseID = parse_uint64 d in
    parse_case d cases ≡ on_some caseID.0 (λ id. let val = parse_val caseID.1 (case_at cases (u id)) in if ltb (u id) (length (seq_g cases)) then on_some val.0 (λ v. (some (VCase (u id) v), val.1)) else (none, []))
unfolding parse
parse_case-source d cases = pair-count d _ (λ c r. let val = parse_val r (case_at cases c) in if ltb c (length (seq_g cases)) then on_some val.0 (λ v. (some (VCase c v), val.1)) else (none, [])) (λ t. go t.value t.state (ltb t.value (length (seq_g cases))) (ltb→lt t.value (length (seq_g cases))) (nltb→le t.value (length (seq_g cases))))
  where
    go : (c : ℕ) (r : List ℕ) (b : Bool) → (T b → c < length (seq_g cases)) → (T (not b) → length (seq_g cases) ≤ c) →
        let val = parse_val r (case_at cases c) in
        pair (give (VCase c) (parse_case_at cases c r)) ≡ if b then on_some val.0 (λ v. (some (VCase c v), val.1)) else (none, [])
    go c r true h i = rw (parse_case_at-below cases c r (h tt)) (pair-next (parse (case_at cases c) r) (λ v s. yield (VCase c v) s))
    go c r false h i = rw (parse_case_at-above cases c r (i tt))

pub parse_val-source : (d : List ℕ) → (parse_val d GConstant ≡ (some VConstant, d))
    × (parse_val d GUint32 ≡ parse_uint32 d)
    × (parse_val d GUint64 ≡ parse_uint64 d)
    × ((elt : G) → parse_val d (GArray elt) ≡ parse_array d elt)
    × ((t : Gs) → parse_val d (GTuple t) ≡ parse_tuple d t)
    × (parse_val d GByteArray ≡ parse_byte_array d)
    × (parse_val d GUint32Array ≡ parse_uint32_array d)
    × (parse_val d GUint64Array ≡ parse_uint64_array d)
    × ((cases : Gs) → parse_val d (GTaggedUnion cases) ≡ parse_case d cases)
unfolding parse
parse_val-source d = (refl, refl, refl, λ elt. refl, λ t. refl, refl, refl, refl, λ cases. refl)

-- ---- GM's `ensures` (of `SeqSum` and `SizeOfV` it is that they are at least 0)

-- no more bytes are left than there were, and what was found has the property
abbrev pub Ensures : {A : Type 0} → List ℕ → (A → Type 0) → Option A × List ℕ → Type 0
Ensures {A} d P result = (length result.1 ≤ length d) × ((a : A) → result.0 ≡ some a → P a)

ensured : {A : Type 0} {bytesFor : A → List ℕ} {P Q : A → Type 0} {d : List ℕ} {x : Parse A} → ((a : A) → P a → Q a) → Parses bytesFor P d x → Ensures d Q (pair x)
ensured {Q = Q} {d} f (holds t p) = (omega (arith, simp length-append at (ap length p.split.whole)), λ a e. let i : t.value ≡ a = cc in subst Q i (f t.value p.meets))
ensured f (fails e q) = (omega arith, λ a e. let z : ◌≡◌ {A = ℕ} 0 1 = cc in absurd (omega arith))

member_at : {A : Type 0} (l : List A) (i : ℕ) (z : A) → i < length l → Member (get_or l i z) l
member_at [] i z h = absurd (omega arith)
member_at (a ∷ l) zero z h = first refl
member_at (a ∷ l) (suc i) z h = later (member_at l i z (omega arith))

pub parse_val_ensures : (d : List ℕ) (g : G) → Bytes d → ValidGrammar g → Ensures d (λ v. ValidVal v × ValInGrammar v g) (parse_val d g)
parse_val_ensures d g b w = ensured (λ v o. (o.valid, o.in_grammar)) (parse_post g w d b)

pub parse_uint64_ensures : (d : List ℕ) (v : Val) → (parse_uint64 d).0 ≡ some v → (n : ℕ) × (v ≡ VUint64 n)
unfolding parse
parse_uint64_ensures d v e = go (parse_number 8 d) e
  where
    go : (x : Parse ℕ) → (pair (give VUint64 x)).0 ≡ some v → (n : ℕ) × (v ≡ VUint64 n)
    go (accepted t) e = (t.value, cc)
    go (refused r) e = let z : ◌≡◌ {A = ℕ} 0 1 = cc in absurd (omega arith)

pub parse_array_contents_ensures : (d : List ℕ) (eltType : G) (len : ℕ) → Bytes d → ValidGrammar eltType → Ensures d (λ vs. (length (seq_v vs) ≡ len) × ((i : ℕ) → i < length (seq_v vs) → ValidVal (get_or (seq_v vs) i VConstant) × ValInGrammar (get_or (seq_v vs) i VConstant) eltType)) (parse_array_contents d eltType len)
parse_array_contents_ensures d g len b w = ensured (λ vs o. (o.1, λ i l. let m = member_at (seq_v vs) i VConstant l in ((valid_each vs).0 o.0.valid (get_or (seq_v vs) i VConstant) m, (all_in g vs).0 o.0.in_grammar (get_or (seq_v vs) i VConstant) m))) (elements_post g (parse_post g w) len d b)

pub parse_array_ensures : (d : List ℕ) (eltType : G) → Bytes d → ValidGrammar eltType → Ensures d (λ v. ValidVal v × ValInGrammar v (GArray eltType)) (parse_array d eltType)
unfolding ValidGrammar
parse_array_ensures d eltType b w = parse_val_ensures d (GArray eltType) b w

module _ (d : List ℕ) (gs : Gs) (b : Bytes d) (l : length (seq_g gs) < 2 ^ 64) (w : (g : G) → Member g (seq_g gs) → ValidGrammar g) where
  pub parse_tuple_contents_ensures : Ensures d (λ vs. (length (seq_v vs) ≡ length (seq_g gs)) × ((i : ℕ) → i < length (seq_v vs) → ValidVal (get_or (seq_v vs) i VConstant) × InGrammarAt vs gs i)) (parse_tuple_contents d gs)
  parse_tuple_contents_ensures = ensured (λ vs o. let e = (each_in vs gs).0 o.in_grammar in (e.0, λ i h. ((valid_each vs).0 o.valid (get_or (seq_v vs) i VConstant) (member_at (seq_v vs) i VConstant h), e.1 i h))) (fields_post gs ((valid_each_grammar gs).1 w) d b)

  pub parse_tuple_ensures : Ensures d (λ v. ValidVal v × ValInGrammar v (GTuple gs)) (parse_tuple d gs)
  unfolding ValidGrammar
  parse_tuple_ensures = parse_val_ensures d (GTuple gs) b (l, (valid_each_grammar gs).1 w)

  pub parse_case_ensures : Ensures d (λ v. ValidVal v × ValInGrammar v (GTaggedUnion gs)) (parse_case d gs)
  unfolding ValidGrammar
  parse_case_ensures = parse_val_ensures d (GTaggedUnion gs) b (l, (valid_each_grammar gs).1 w)

pub parse_byte_array_ensures : (d : List ℕ) → Bytes d → length d < 2 ^ 64 → length (parse_byte_array d).1 < 2 ^ 64
unfolding ValidGrammar
parse_byte_array_ensures d b l = omega (arith, (parse_val_ensures d GByteArray b tt).0)

pub DemarshallFunc_ensures : (d : List ℕ) (g : G) → Bytes d → (h : Demarshallable d g) → ((parse_val d g).0 ≡ some (DemarshallFunc d g h)) × ValInGrammar (DemarshallFunc d g h) g
DemarshallFunc_ensures d g b h = (h.parsed, (demarshallable_value b h).1.in_grammar)
