-- GM's parse functions, on every input. What GM requires (|data| and the counts of fields and cases below 2^64) keeps its casts to
-- uint64 exact; lengths are natural numbers here and nothing is cast. That data is of bytes is said in the laws.
use Rattle.std.specs.Prelude.{◌≡◌, List, [], ℕ, zero, suc, ◌*◌, ◌/◌, ◌^◌, ◌<◌, length, take, drop, leb}
use Rattle.std.proofs.Math.Option.{Option, none, some}
use Rattle.refusal.specs.Outcome.{Outcome, accepted, refused, test}
use Rattle.packed.specs.Packed.{unpack_little_endian, unpack_little_endian_seq}
use Rattle.value.specs.Kinds.{width, element_width}
use Rattle.value.specs.Tree.{G, Gs, GConstant, GNumber, GArray, GTuple, GNumberArray, GTaggedUnion, gnil, gcons, GUint32, GUint64, GByteArray, GUint32Array, GUint64Array, Val, Vals, VConstant, VNumber, VArray, VTuple, VNumberArray, VCase, vnil, ValidGrammar, ValidVal}
use Rattle.value.specs.Step.{Step, yield, next, give, both, elements}

-- a step over the bytes left: GM's (Some(a), rest), or its (None, [])
abbrev pub Parse : Type 0 → Type 0
Parse A = Outcome (Unit {0}) (Step (List ℕ) A)

abbrev pub missing : {A : Type 0} → Parse A
missing = refused tt

-- GM's pair
abbrev pub pair : {A : Type 0} → Parse A → Option A × List ℕ
pair (accepted t) = (some t.value, t.state)
pair (refused e) = (none, [])

-- a number of w bytes
unfoldable pub parse_number : ℕ → List ℕ → Parse ℕ
parse_number w d = test (leb w (length d)) tt (λ _. yield (unpack_little_endian w (take w d)) (drop w d))

-- numbers of w bytes behind their count
unfoldable pub parse_numbers : ℕ → List ℕ → Parse (List ℕ)
parse_numbers w d = next (parse_number 8 d) (λ n r. test (leb n (length r / w)) tt (λ _. yield (unpack_little_endian_seq w (take (w * n) r) n) (drop (w * n) r)))

unfoldable mutual
  pub parse : G → List ℕ → Parse Val
  parse GConstant d = yield VConstant d
  parse (GNumber k) d = give (VNumber k) (parse_number (width k) d)
  parse (GArray g) d = next (parse_number 8 d) (λ n r. give VArray (elements n (parse g) r))
  parse (GTuple gs) d = give VTuple (parse_fields gs d)
  parse (GNumberArray k) d = give (VNumberArray k) (parse_numbers (element_width k) d)
  parse (GTaggedUnion gs) d = next (parse_number 8 d) (λ c r. give (VCase c) (parse_case_at gs c r))

  pub parse_fields : Gs → List ℕ → Parse Vals
  parse_fields gnil d = yield vnil d
  parse_fields (gcons g gs) d = both (parse g d) (λ r. parse_fields gs r)

  -- the value of case c
  pub parse_case_at : Gs → ℕ → List ℕ → Parse Val
  parse_case_at gnil c d = missing
  parse_case_at (gcons g gs) zero d = parse g d
  parse_case_at (gcons g gs) (suc c) d = parse_case_at gs c d

-- GM's `parse_Val`
abbrev pub parse_val : List ℕ → G → Option Val × List ℕ
parse_val d g = pair (parse g d)

-- GM's `parse_Uint32`
abbrev pub parse_uint32 : List ℕ → Option Val × List ℕ
parse_uint32 d = parse_val d GUint32

-- GM's `parse_Uint64`
abbrev pub parse_uint64 : List ℕ → Option Val × List ℕ
parse_uint64 d = parse_val d GUint64

-- GM's `parse_Array_contents`
abbrev pub parse_array_contents : List ℕ → G → ℕ → Option Vals × List ℕ
parse_array_contents d eltType len = pair (elements len (parse eltType) d)

-- GM's `parse_Array`
abbrev pub parse_array : List ℕ → G → Option Val × List ℕ
parse_array d eltType = parse_val d (GArray eltType)

-- GM's `parse_Tuple_contents`
abbrev pub parse_tuple_contents : List ℕ → Gs → Option Vals × List ℕ
parse_tuple_contents d eltTypes = pair (parse_fields eltTypes d)

-- GM's `parse_Tuple`
abbrev pub parse_tuple : List ℕ → Gs → Option Val × List ℕ
parse_tuple d eltTypes = parse_val d (GTuple eltTypes)

-- GM's `parse_ByteArray`
abbrev pub parse_byte_array : List ℕ → Option Val × List ℕ
parse_byte_array d = parse_val d GByteArray

-- GM's `parse_Uint32Array`
abbrev pub parse_uint32_array : List ℕ → Option Val × List ℕ
parse_uint32_array d = parse_val d GUint32Array

-- GM's `parse_Uint64Array`
abbrev pub parse_uint64_array : List ℕ → Option Val × List ℕ
parse_uint64_array d = parse_val d GUint64Array

-- GM's `parse_Case`
abbrev pub parse_case : List ℕ → Gs → Option Val × List ℕ
parse_case d cases = parse_val d (GTaggedUnion cases)

-- GM's `Demarshallable`
pub record Demarshallable (d : List ℕ) (g : G) : Type 0 where
  pub bounded : length d < 2 ^ 64
  pub valid_grammar : ValidGrammar g
  pub value : Val
  pub parsed : (parse_val d g).0 ≡ some value
  pub valid_val : ValidVal value
  pub whole : (parse_val d g).1 ≡ []

-- GM's `DemarshallFunc`, with what it requires
abbrev pub DemarshallFunc : (d : List ℕ) (g : G) → Demarshallable d g → Val
DemarshallFunc d g h = h.value
