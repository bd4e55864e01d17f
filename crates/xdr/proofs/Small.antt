-- Counts and tags that 4 bytes hold: those of a value of few rows and few XDR bytes, where the unions of its grammar have few cases.
use Rattle.std.proofs.Common.{◌≡◌, List, ◌++◌, ℕ, zero, suc, ◌+◌, ◌^◌, ◌≤◌, ◌<◌, mul-le-mul_right, arith, length, length-append}
use Rattle.big_endian.specs.BigEndian.{pack_big_endian}
use Rattle.value.specs.Tree.{G, Gs, GConstant, GNumber, GArray, GTuple, GNumberArray, GTaggedUnion, gnil, gcons, Val, Vals, seq_g, seq_v, case_at, ValInGrammar, AllInGrammar, EachInGrammar, in_constant, in_number, in_array, in_tuple, in_number_array, in_case, all_nil, all_cons, each_nil, each_cons, row_count, row_counts}
use Rattle.value.proofs.KindLaws.{element_width_positive}
use Rattle.value.proofs.Agreement.{count-rows}
use Rattle.xdr.specs.Xdr.{xdr_of, xdr_of_all, xdr_size}
use Rattle.xdr.proofs.Sizes.{length-elements}
use Rattle.xdr.proofs.Import.{Small, SmallAll}

-- each union has at most 2^32 cases
unfoldable mutual
  pub FewCases : G → Type 0
  FewCases GConstant = Unit {0}
  FewCases (GNumber k) = Unit {0}
  FewCases (GArray g) = FewCases g
  FewCases (GTuple gs) = FewCasesAll gs
  FewCases (GNumberArray k) = Unit {0}
  FewCases (GTaggedUnion gs) = (length (seq_g gs) ≤ 256 ^ 4) × FewCasesAll gs

  pub FewCasesAll : Gs → Type 0
  FewCasesAll gnil = Unit {0}
  FewCasesAll (gcons g gs) = FewCases g × FewCasesAll gs

few-case : (gs : Gs) (c : ℕ) → FewCasesAll gs → FewCases (case_at gs c)
unfolding FewCases
few-case gnil c f = tt
few-case (gcons g gs) zero f = f.0
few-case (gcons g gs) (suc c) f = few-case gs c f.1

-- bytes behind others are fewer than all
behind : (a b : List ℕ) (n : ℕ) → length (a ++ b) < n → (length a < n) × (length b < n)
behind a b n h = let e : length (a ++ b) ≡ length a + length b = length-append a b in (omega arith, omega arith)

mutual
  unfolding FewCases Small row_count xdr_of

  pub small_of : {v : Val} {g : G} → ValInGrammar v g → FewCases g → row_count v ≤ 256 ^ 4 → xdr_size v < 256 ^ 4 → Small v
  small_of in_constant f r x = tt
  small_of in_number f r x = tt
  small_of (in_array {vs} i) f r x = (omega (arith, count-rows vs), small_all i f (omega arith) (behind (pack_big_endian 4 (length (seq_v vs))) (xdr_of_all vs) (256 ^ 4) x).1)
  small_of (in_tuple i) f r x = small_each i f (omega arith) x
  small_of (in_number_array {k} {ns}) f r x = let e = length-elements k ns in let m = mul-le-mul_right (length ns) (element_width_positive k) in omega arith
  small_of (in_case {c} {v} {gs} j i) f r x = (omega (arith, j, f.0), small_of i (few-case gs c f.1) (omega arith) (behind (pack_big_endian 4 c) (xdr_of v) (256 ^ 4) x).1)

  small_all : {vs : Vals} {g : G} → AllInGrammar vs g → FewCases g → row_counts vs ≤ 256 ^ 4 → length (xdr_of_all vs) < 256 ^ 4 → SmallAll vs
  small_all all_nil f r x = tt
  small_all (all_cons {v} {vs} i is) f r x = let y = behind (xdr_of v) (xdr_of_all vs) (256 ^ 4) x in (small_of i f (omega arith) y.0, small_all is f (omega arith) y.1)

  small_each : {vs : Vals} {gs : Gs} → EachInGrammar vs gs → FewCasesAll gs → row_counts vs ≤ 256 ^ 4 → length (xdr_of_all vs) < 256 ^ 4 → SmallAll vs
  small_each each_nil f r x = tt
  small_each (each_cons {v} {vs} i is) f r x = let y = behind (xdr_of v) (xdr_of_all vs) (256 ^ 4) x in (small_of i f.0 (omega arith) y.0, small_each is f.1 (omega arith) y.1)
