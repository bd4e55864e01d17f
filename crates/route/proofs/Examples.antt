-- That the demands are not empty: a record that is read, one that is refused by 8 whatever rows are lent, and a grammar with two different values.
use Rattle.std.proofs.Common.{◌≡◌, refl, sym, ap, subst, ◌∙◌, Bool, true, ◌&&◌, List, [], ◌∷◌, ◌++◌, ℕ, zero, suc, ◌^◌, ◌≤◌, ◌<◌, arith, length, ltb, lit<, ltb-true, Ok, Err}
use Rattle.refusal.specs.Outcome.{Outcome, refused, map, contents, Reason, reason, byte}
use Rattle.refusal.specs.declared.Place.TheVariants.{Byte}
use Rattle.refusal.proofs.Tests.{and-true}
use Rattle.packed.specs.Packed.{Bytes, Below, unpack_little_endian, unpack_little_endian_seq, pack_little_endian, pack_little_endian_seq, put}
use Rattle.value.specs.Kinds.{kinds, kind_of}
use Rattle.value.specs.Tree.{GConstant, Val, Vals, VConstant, VArray, VUint32, vnil, vcons, seq_v, AllInGrammar, in_constant, in_number, in_array, in_tuple, in_number_array, all_nil, all_cons, each_nil, each_cons, CountsBelow, CountsBelowAll, TypedVal, TypedVals, SizeOfV, SeqSum, row_count, row_counts}
use Rattle.value.specs.Bytes.{bytes_of}
use Rattle.value.specs.Reading.{State, claim, take_number, take_numbers, read_body, read_whole}
use Rattle.value.specs.Step.{Step}
use Rattle.value.proofs.Laws.{bytes_of_bytes, length_bytes_of}
use Rattle.value.proofs.Reading.{whole-short}
use Rattle.grammar.specs.Check.{check_layout, check_node, check_children, check_nodes, check_grammar}
use Rattle.grammar.specs.Tree.{node_tree, child_trees, tree_to, tree_of}
use Rattle.grammar.proofs.Rule.{accepted_exactly}
use Rattle.rows.specs.Layout.{own_row, rows_of}
use Rattle.rows.specs.Walk.{row_value, check_row, walk_children, check_size_word, walk_to, walk}
use Rattle.sizing.specs.Writes.{Writes}
use Rattle.admission.specs.Admission.{capacity_of}
use Rattle.reading.specs.Calls.{without_state, demarshall_of, counts_of}
use Rattle.reading.proofs.Calls.{checked}
use Rattle.route.specs.Demands.{Grammar, ValueOfGrammar, RecordOf, WholeReading}
use Rattle.route.specs.Bench.{grammar_a, record_a, value_a, rows_a, grammar_c}
use Rattle.route.proofs.Reading.{value_of}

-- a list whose elements are tested one by one
abbrev all_below : ℕ → List ℕ → Bool
all_below b [] = true
all_below b (n ∷ ns) = ltb n b && all_below b ns

all-below : (b : ℕ) (ns : List ℕ) → all_below b ns ≡ true → Below b ns
all-below b [] h j l = absurd (omega arith)
all-below b (n ∷ ns) h zero l = ltb-true n b (and-true (ltb n b) (all_below b ns) h).0
all-below b (n ∷ ns) h (suc j) l = all-below b ns (and-true (ltb n b) (all_below b ns) h).1 j (omega arith)

-- ---- case A of document 01: its record is the bytes of a value, and there is a reading of it

-- 3 rows and one word more are lent
abbrev lent_a : List ℕ
lent_a = 9 ∷ 9 ∷ 9 ∷ 9 ∷ 9 ∷ 9 ∷ 9 ∷ 9 ∷ 9 ∷ 9 ∷ 9 ∷ 9 ∷ 9 ∷ 9 ∷ 9 ∷ 9 ∷ []

abbrev exit_a : List ℕ
exit_a = rows_a ++ (9 ∷ [])

grammar-A : Grammar grammar_a
unfolding check_grammar check_layout check_nodes check_node check_children kind_of kinds
grammar-A = record { words = all-below (2 ^ 32) grammar_a refl; passes = refl }

bytes-A : record_a ≡ bytes_of value_a
unfolding bytes_of pack_little_endian pack_little_endian_seq
bytes-A = refl

pub record_A : RecordOf grammar_a record_a value_a
unfolding tree_of tree_to node_tree child_trees kind_of kinds CountsBelow TypedVal
record_A = record {
  value = record { in_grammar = in_tuple (each_cons in_number (each_cons in_number_array each_nil)); counts = (tt, (lit< tt, tt)); typed = (lit< tt, (all-below 256 (65 ∷ 66 ∷ []) refl, tt)) };
  bytes = bytes-A;
}

pub reading-A : WholeReading grammar_a record_a lent_a (Ok (record { rows = 3; rest_index = 14 })) exit_a
unfolding demarshall_of check_grammar check_layout check_nodes check_node check_children tree_of tree_to node_tree child_trees kind_of kinds read_whole claim take_number take_numbers read_body unpack_little_endian unpack_little_endian_seq rows_of own_row row_count SizeOfV put
reading-A = record {
  grammar = grammar-A;
  bytes = subst Bytes (sym bytes-A) (bytes_of_bytes value_a);
  short = lit< tt;
  call = record { answers = refl; rows = refl };
}

-- its rows are to be written into as many bytes
pub writes_A : Writes grammar_a exit_a 3 record_a 14 0 value_a
unfolding walk walk_to walk_children check_row check_size_word row_value kind_of kinds unpack_little_endian unpack_little_endian_seq SizeOfV
writes_A = record { grammar = (accepted_exactly grammar_a).0 grammar-A.passes; rows = refl; in_grammar = record_A.value.in_grammar; small = lit< tt; room = lit< tt }

-- ---- an array of constants: the record has 8 bytes, and its rows are one more than are ever lent

unfoldable pub constants : ℕ → Vals
constants zero = vnil
constants (suc n) = vcons VConstant (constants n)

constants_in : (n : ℕ) → AllInGrammar (constants n) GConstant
unfolding constants
constants_in zero = all_nil
constants_in (suc n) = all_cons in_constant (constants_in n)

constants-count : (n : ℕ) → length (seq_v (constants n)) ≡ n
unfolding constants
constants-count zero = refl
constants-count (suc n) = ap suc (constants-count n)

constants-rows : (n : ℕ) → row_counts (constants n) ≡ n
unfolding constants row_count
constants-rows zero = refl
constants-rows (suc n) = omega (arith, constants-rows n)

constants-below : (n : ℕ) → CountsBelowAll (constants n)
unfolding constants CountsBelow
constants-below zero = tt
constants-below (suc n) = (tt, constants-below n)

constants-typed : (n : ℕ) → TypedVals (constants n)
unfolding constants TypedVal
constants-typed zero = tt
constants-typed (suc n) = (tt, constants-typed n)

pub record_C : (n : ℕ) → n < 2 ^ 64 → RecordOf grammar_c (bytes_of (VArray (constants n))) (VArray (constants n))
unfolding tree_of tree_to node_tree child_trees kind_of kinds CountsBelow TypedVal
record_C n l = record {
  value = record { in_grammar = in_array (constants_in n); counts = (rw (constants-count n) l, constants-below n); typed = constants-typed n };
  bytes = refl;
}

constants-size : (n : ℕ) → SeqSum (constants n) ≡ 0
unfolding constants SizeOfV
constants-size zero = refl
constants-size (suc n) = omega (arith, constants-size n)

-- whatever the count, the record has 8 bytes
pub length-C : (n : ℕ) → length (bytes_of (VArray (constants n))) ≡ 8
unfolding SizeOfV
length-C n = length_bytes_of (VArray (constants n)) ∙ omega (arith, constants-size n)

grammar-C : Grammar grammar_c
unfolding check_grammar check_layout check_nodes check_node check_children kind_of kinds
grammar-C = record { words = all-below (2 ^ 32) grammar_c refl; passes = refl }

pub rows-C : (words : ℕ) → capacity_of words < row_count (VArray (constants 4096))
unfolding row_count
rows-C words = omega (arith, constants-rows 4096)

-- there is a reading of it, whatever rows are lent: it is refused by 8
pub reading-C : (rows : List ℕ) → (place : ℕ) × WholeReading grammar_c (bytes_of (VArray (constants 4096))) rows (Err (record { number = 8; place = Byte place })) rows
reading-C rows =
    let v = VArray (constants 4096) in
    let d = bytes_of v in
    let short : length d ≤ 1048576 = omega (arith, length-C 4096) in
    let s = whole-short (capacity_of (length rows)) (tree_of grammar_c 0) v (value_of grammar-C (record_C 4096 (lit< tt)).value) (rows-C (length rows)) in
    let e : demarshall_of grammar_c d (capacity_of (length rows)) ≡ refused (reason 8 (byte s.0.at)) = checked grammar_c d (capacity_of (length rows)) grammar-C.passes short ∙ ap without_state s.1 in (
      s.0.at,
      record {
        grammar = grammar-C;
        bytes = bytes_of_bytes v;
        short = short;
        call = record {
          answers = sym (ap (map counts_of) e);
          rows = sym (ap (λ (o : Outcome Reason (Step State Val)). contents (map (λ t. put rows 0 (rows_of t.value 0)) o) rows) e);
        };
      },
    )

-- ---- the grammar of one uint32

abbrev grammar_n : List ℕ
grammar_n = 1 ∷ 1 ∷ 0 ∷ 0 ∷ 0 ∷ []

pub two-values : Grammar grammar_n × ValueOfGrammar grammar_n (VUint32 0) × ValueOfGrammar grammar_n (VUint32 1) × ¬ (VUint32 0 ≡ VUint32 1)
unfolding check_grammar check_layout check_nodes check_node check_children tree_of tree_to node_tree child_trees kind_of kinds CountsBelow TypedVal
two-values = (
  record { words = all-below (2 ^ 32) grammar_n refl; passes = refl },
  record { in_grammar = in_number; counts = tt; typed = lit< tt },
  record { in_grammar = in_number; counts = tt; typed = lit< tt },
  λ e. let z : ◌≡◌ {A = ℕ} 0 1 = cc in omega arith,
)
