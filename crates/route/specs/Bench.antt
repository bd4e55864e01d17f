-- Document 01's bench examples A to F, all their cases, and examples of document 02's requests 01, 04, 07 and 10, as one list: a call with its
-- inputs, and what the papers, or what follows from them, expect of it.
use Rattle.std.specs.Prelude.{◌≡◌, List, [], ◌∷◌, ◌++◌, map, ℕ, zero, suc, take, drop, ℤ, pos, negsuc}
use Rattle.refusal.specs.Outcome.{Outcome, accepted, refused, bind, Location, word, byte, row, Reason, reason}
use Rattle.value.specs.Tree.{Val, VConstant, VArray, VTuple, VUint32, VByteArray, VUint32Array, VUint64Array, VCase, vnil, vcons}
use Rattle.value.specs.Signed.{VInt32, VInt64}
use Rattle.value.specs.Step.{Step}
use Rattle.value.specs.Reading.{State}
use Rattle.grammar.specs.Check.{check_grammar}
use Rattle.rows.specs.Layout.{rows_of}
use Rattle.rows.specs.Size.{compute_size_of}
use Rattle.admission.specs.Admission.{in_force, check_rows}
use Rattle.reading.specs.Calls.{parse_val_of, demarshall_of, counts_of}
use Rattle.signed.specs.Signed.{signed_number_of}

-- the calls of the examples
pub data Call : Type 0 where
  -- the grammar check
  check : (grammar : List ℕ) → Call
  -- the whole reading; the capacity is 4,096 where the paper names none
  read : (grammar bytes : List ℕ) (capacity : ℕ) → Call
  -- the same with capacity 4,096, then the signed number of a row of what it handed out, with the record as store
  read_signed : (grammar bytes : List ℕ) (i : ℕ) → Call
  -- the readings as checks, without a capacity and with one that is named
  check_val : (grammar bytes : List ℕ) (index : ℕ) → Call
  check_whole : (grammar bytes : List ℕ) → Call
  check_val_with : (grammar bytes : List ℕ) (index capacity : ℕ) → Call
  check_whole_with : (grammar bytes : List ℕ) (capacity : ℕ) → Call
  -- the size of the value that n rows stand for
  size_of_rows : (rows : List ℕ) (n : ℕ) (store : List ℕ) → Call

-- what they answer, in the papers' values
pub data Result : Type 0 where
  passes : Result
  -- the row count, the words of the rows, five to a row, and the value that they stand for
  hands_out : (n : ℕ) (words : List ℕ) (value : Val) → Result
  is_number : (z : ℤ) → Result
  -- the row count and `rest_index`
  counts : (n rest : ℕ) → Result
  is_size : (bytes : ℕ) → Result
  refuses : (number : ℕ) (place : Location) → Result

-- by the definitions that the contracts of `check_grammar`, `demarshall`, `signed_number`, the checks and `compute_size_of` cite
abbrev pub checked : Outcome Reason (Unit {0}) → Result
checked (accepted u) = passes
checked (refused (reason number place)) = refuses number place

abbrev pub handed : Outcome Reason (Step State Val) → Result
handed (accepted t) = hands_out t.state.begun (rows_of t.value 0) t.value
handed (refused (reason number place)) = refuses number place

abbrev pub asked : Outcome Reason ℤ → Result
asked (accepted z) = is_number z
asked (refused (reason number place)) = refuses number place

abbrev pub counted : Outcome Reason (Step State Val) → Result
counted (accepted t) = counts (counts_of t).rows (counts_of t).rest_index
counted (refused (reason number place)) = refuses number place

abbrev pub sized : Outcome Reason ℕ → Result
sized (accepted size) = is_size size
sized (refused (reason number place)) = refuses number place

abbrev pub result_of : Call → Result
result_of (check grammar) = checked (check_grammar grammar)
result_of (read grammar bytes capacity) = handed (demarshall_of grammar bytes capacity)
result_of (read_signed grammar bytes i) = asked (bind (demarshall_of grammar bytes 4096) (λ t. signed_number_of (rows_of t.value 0) t.state.begun bytes i))
result_of (check_val grammar bytes index) = counted (parse_val_of grammar bytes index check_rows)
result_of (check_whole grammar bytes) = counted (demarshall_of grammar bytes check_rows)
result_of (check_val_with grammar bytes index capacity) = counted (parse_val_of grammar bytes index (in_force capacity))
result_of (check_whole_with grammar bytes capacity) = counted (demarshall_of grammar bytes (in_force capacity))
result_of (size_of_rows rows n store) = sized (compute_size_of rows n store)

-- where an example stands: document 01's letters, and document 02's requests
pub data Source : Type 0 where
  A : Source
  B : Source
  C : Source
  D : Source
  E : Source
  F : Source
  Req01 : Source
  Req04 : Source
  Req07 : Source
  Req10 : Source

pub record Example : Type 0 where
  pub source : Source
  pub call : Call
  pub expected : Result

-- a tuple of a uint32 and a byte array
abbrev pub grammar_a : List ℕ
grammar_a = 3 ∷ 4 ∷ 0 ∷ 2 ∷ 1 ∷ 0 ∷ 0 ∷ 5 ∷ 0 ∷ 0 ∷ 2 ∷ 1 ∷ 2 ∷ []

abbrev pub record_a : List ℕ
record_a = 0x07 ∷ 0 ∷ 0 ∷ 0 ∷ 0x02 ∷ 0 ∷ 0 ∷ 0 ∷ 0 ∷ 0 ∷ 0 ∷ 0 ∷ 0x41 ∷ 0x42 ∷ []

abbrev pub record_a-cut : List ℕ
record_a-cut = 0x07 ∷ 0 ∷ 0 ∷ 0 ∷ 0x02 ∷ 0 ∷ 0 ∷ 0 ∷ 0 ∷ 0 ∷ 0 ∷ 0 ∷ 0x41 ∷ []

abbrev pub value_a : Val
value_a = VTuple (vcons (VUint32 7) (vcons (VByteArray (0x41 ∷ 0x42 ∷ [])) vnil))

abbrev pub rows_a : List ℕ
rows_a = 4 ∷ 3 ∷ 2 ∷ 0 ∷ 14 ∷ 1 ∷ 1 ∷ 7 ∷ 0 ∷ 4 ∷ 5 ∷ 1 ∷ 2 ∷ 12 ∷ 10 ∷ []

-- one constant
abbrev pub grammar_b : List ℕ
grammar_b = 1 ∷ 0 ∷ 0 ∷ 0 ∷ 0 ∷ []

-- an array of constants
abbrev pub grammar_c : List ℕ
grammar_c = 2 ∷ 3 ∷ 0 ∷ 1 ∷ 0 ∷ 0 ∷ 0 ∷ 1 ∷ 1 ∷ []

-- a count of 3 in 8 bytes
abbrev pub record_c : List ℕ
record_c = 3 ∷ 0 ∷ 0 ∷ 0 ∷ 0 ∷ 0 ∷ 0 ∷ 0 ∷ []

-- an array of kind 3, whose elements are uint32
abbrev pub grammar_uint32s : List ℕ
grammar_uint32s = 2 ∷ 3 ∷ 0 ∷ 1 ∷ 1 ∷ 0 ∷ 0 ∷ 1 ∷ 1 ∷ []

-- a count in 8 bytes, by its two least ones
abbrev pub count_bytes : ℕ → ℕ → List ℕ
count_bytes low high = low ∷ high ∷ 0 ∷ 0 ∷ 0 ∷ 0 ∷ 0 ∷ 0 ∷ []

-- the empty union
abbrev pub grammar_d : List ℕ
grammar_d = 1 ∷ 8 ∷ 0 ∷ 0 ∷ 0 ∷ []

-- an array of uint32
abbrev pub grammar_e : List ℕ
grammar_e = 1 ∷ 6 ∷ 0 ∷ 0 ∷ 0 ∷ []

-- a union of one case, an array of uint64
abbrev pub grammar_case : List ℕ
grammar_case = 2 ∷ 8 ∷ 0 ∷ 1 ∷ 7 ∷ 0 ∷ 0 ∷ 1 ∷ 1 ∷ []

-- a tuple of a uint32 and the empty union
abbrev pub grammar_tuple_d : List ℕ
grammar_tuple_d = 3 ∷ 4 ∷ 0 ∷ 2 ∷ 1 ∷ 0 ∷ 0 ∷ 8 ∷ 0 ∷ 0 ∷ 2 ∷ 1 ∷ 2 ∷ []

-- N nodes 0 0 0, and M 0
unfoldable pub constant_nodes : ℕ → List ℕ
constant_nodes zero = 0 ∷ []
constant_nodes (suc n) = 0 ∷ 0 ∷ 0 ∷ constant_nodes n

abbrev pub grammar_f : ℕ → List ℕ
grammar_f nodes = nodes ∷ constant_nodes nodes

-- one node of a kind without children
abbrev pub grammar_of : ℕ → List ℕ
grammar_of kind = 1 ∷ kind ∷ 0 ∷ 0 ∷ 0 ∷ []

abbrev pub minus_one32 : List ℕ
minus_one32 = 0xff ∷ 0xff ∷ 0xff ∷ 0xff ∷ []

abbrev pub minus_one64 : List ℕ
minus_one64 = 0xff ∷ 0xff ∷ 0xff ∷ 0xff ∷ 0xff ∷ 0xff ∷ 0xff ∷ 0xff ∷ []

-- the first bytes of a record, as many as each number of the list says, are refused with 9 at the place
abbrev pub cut : (grammar bytes : List ℕ) (capacity place : ℕ) → List ℕ → List Example
cut grammar bytes capacity place = map (λ n. record { source = Req04; call = read grammar (take n bytes) capacity; expected = refuses 9 (byte place) })

-- Document 01 gives the places of A's refusal, B's, C's at capacity 3 and F's 5. The others follow from its table: a value's 8, 9 and 10 are
-- placed where the value starts, at byte 0 for the root, and 1 at word 0
abbrev pub bench : List Example
bench =
    record { source = A; call = read grammar_a record_a 4096; expected = hands_out 3 rows_a value_a }
    ∷ record { source = A; call = read grammar_a record_a-cut 4096; expected = refuses 9 (byte 4) }
    ∷ record { source = B; call = read grammar_b [] 4096; expected = hands_out 1 (0 ∷ 1 ∷ 0 ∷ 0 ∷ 0 ∷ []) VConstant }
    ∷ record { source = B; call = read grammar_b (0 ∷ []) 4096; expected = refuses 11 (byte 0) }
    ∷ record { source = C; call = read grammar_c record_c 4096; expected = hands_out 4 (3 ∷ 4 ∷ 3 ∷ 0 ∷ 8 ∷ 0 ∷ 1 ∷ 0 ∷ 0 ∷ 0 ∷ 0 ∷ 1 ∷ 0 ∷ 0 ∷ 0 ∷ 0 ∷ 1 ∷ 0 ∷ 0 ∷ 0 ∷ []) (VArray (vcons VConstant (vcons VConstant (vcons VConstant vnil)))) }
    ∷ record { source = C; call = read grammar_c record_c 3; expected = refuses 8 (byte 0) }
    -- a count of 2^64 − 1
    ∷ record { source = C; call = read grammar_c (0xff ∷ 0xff ∷ 0xff ∷ 0xff ∷ 0xff ∷ 0xff ∷ 0xff ∷ 0xff ∷ []) 4096; expected = refuses 8 (byte 0) }
    ∷ record { source = C; call = read grammar_c (3 ∷ 0 ∷ 0 ∷ 0 ∷ 0 ∷ 0 ∷ 0 ∷ []) 4096; expected = refuses 9 (byte 0) }
    ∷ record { source = D; call = read grammar_d (0 ∷ 0 ∷ 0 ∷ 0 ∷ 0 ∷ 0 ∷ 0 ∷ 0 ∷ []) 4096; expected = refuses 10 (byte 0) }
    ∷ record { source = D; call = read grammar_d [] 4096; expected = refuses 9 (byte 0) }
    ∷ record { source = E; call = read grammar_e (1 ∷ 0 ∷ 0 ∷ 0 ∷ 0 ∷ 0 ∷ 0 ∷ 0 ∷ 0x78 ∷ 0x56 ∷ 0x34 ∷ 0x12 ∷ []) 4096; expected = hands_out 1 (6 ∷ 1 ∷ 1 ∷ 8 ∷ 12 ∷ []) (VUint32Array (305419896 ∷ [])) }
    -- a count of 2^62
    ∷ record { source = E; call = read grammar_e (0 ∷ 0 ∷ 0 ∷ 0 ∷ 0 ∷ 0 ∷ 0 ∷ 0x40 ∷ 0x78 ∷ 0x56 ∷ 0x34 ∷ 0x12 ∷ []) 4096; expected = refuses 9 (byte 0) }
    ∷ record { source = F; call = check (1 ∷ 4 ∷ 0 ∷ 1 ∷ 1 ∷ 0 ∷ []); expected = refuses 5 (word 5) }
    ∷ record { source = F; call = check (grammar_f 256); expected = passes }
    ∷ record { source = F; call = check (grammar_f 257); expected = refuses 1 (word 0) }
    -- the two that document 02 prints, −1 and the least 32-bit number; what follows them is by its rule: −1 in 64 bits, zero and the other ends
    ∷ record { source = Req01; call = read (grammar_of 9) minus_one32 4096; expected = hands_out 1 (9 ∷ 1 ∷ 4294967295 ∷ 0 ∷ 4 ∷ []) (VInt32 (negsuc 0)) }
    ∷ record { source = Req01; call = read_signed (grammar_of 9) minus_one32 0; expected = is_number (negsuc 0) }
    ∷ record { source = Req01; call = read (grammar_of 9) (0 ∷ 0 ∷ 0 ∷ 0x80 ∷ []) 4096; expected = hands_out 1 (9 ∷ 1 ∷ 2147483648 ∷ 0 ∷ 4 ∷ []) (VInt32 (negsuc 2147483647)) }
    ∷ record { source = Req01; call = read_signed (grammar_of 9) (0 ∷ 0 ∷ 0 ∷ 0x80 ∷ []) 0; expected = is_number (negsuc 2147483647) }
    ∷ record { source = Req01; call = read (grammar_of 10) minus_one64 4096; expected = hands_out 1 (10 ∷ 1 ∷ 18446744073709551615 ∷ 0 ∷ 8 ∷ []) (VInt64 (negsuc 0)) }
    ∷ record { source = Req01; call = read_signed (grammar_of 10) minus_one64 0; expected = is_number (negsuc 0) }
    ∷ record { source = Req01; call = read_signed (grammar_of 9) (0 ∷ 0 ∷ 0 ∷ 0 ∷ []) 0; expected = is_number (pos 0) }
    ∷ record { source = Req01; call = read_signed (grammar_of 9) (0xff ∷ 0xff ∷ 0xff ∷ 0x7f ∷ []) 0; expected = is_number (pos 2147483647) }
    ∷ record { source = Req01; call = read_signed (grammar_of 10) (0 ∷ 0 ∷ 0 ∷ 0 ∷ 0 ∷ 0 ∷ 0 ∷ 0 ∷ []) 0; expected = is_number (pos 0) }
    ∷ record { source = Req01; call = read_signed (grammar_of 10) (0xff ∷ 0xff ∷ 0xff ∷ 0xff ∷ 0xff ∷ 0xff ∷ 0xff ∷ 0x7f ∷ []) 0; expected = is_number (pos 9223372036854775807) }
    ∷ record { source = Req01; call = read_signed (grammar_of 10) (0 ∷ 0 ∷ 0 ∷ 0 ∷ 0 ∷ 0 ∷ 0 ∷ 0x80 ∷ []) 0; expected = is_number (negsuc 9223372036854775807) }
    -- kinds 1 and 2 have the same bytes and no signed number, and there is no row 1
    ∷ record { source = Req01; call = read_signed (grammar_of 1) minus_one32 0; expected = refuses 20 (row 0) }
    ∷ record { source = Req01; call = read_signed (grammar_of 2) minus_one64 0; expected = refuses 20 (row 0) }
    ∷ record { source = Req01; call = read_signed (grammar_of 9) minus_one32 1; expected = refuses 20 (row 1) }
    -- the first kind above 10
    ∷ record { source = Req01; call = check (grammar_of 11); expected = refuses 3 (word 1) }
    -- with 2 rows A's record is not accepted, and not each of its front parts is refused with 9
    ∷ record { source = Req04; call = read grammar_a record_a 2; expected = refuses 8 (byte 4) }
    ∷ record { source = Req04; call = read grammar_a (take 4 record_a) 2; expected = refuses 8 (byte 4) }
    ∷ record { source = Req04; call = read grammar_a (take 3 record_a) 2; expected = refuses 9 (byte 0) }
    -- a grammar without records, under which some bytes are refused with 9
    ∷ record { source = Req04; call = read grammar_tuple_d [] 4096; expected = refuses 9 (byte 0) }
    ∷ record { source = Req04; call = read grammar_tuple_d (take 4 record_a) 4096; expected = refuses 9 (byte 4) }
    ∷ record { source = Req04; call = read grammar_tuple_d (take 12 record_a) 4096; expected = refuses 10 (byte 4) }
    -- with as few rows as A's record needs, and C's: both records, and every proper front part
    ∷ record { source = Req04; call = read grammar_a record_a 3; expected = hands_out 3 rows_a value_a }
    ∷ record { source = Req04; call = read grammar_c record_c 4; expected = hands_out 4 (3 ∷ 4 ∷ 3 ∷ 0 ∷ 8 ∷ 0 ∷ 1 ∷ 0 ∷ 0 ∷ 0 ∷ 0 ∷ 1 ∷ 0 ∷ 0 ∷ 0 ∷ 0 ∷ 1 ∷ 0 ∷ 0 ∷ 0 ∷ []) (VArray (vcons VConstant (vcons VConstant (vcons VConstant vnil)))) }
    ∷ cut grammar_a record_a 3 0 (0 ∷ 1 ∷ 2 ∷ 3 ∷ [])
    ++ cut grammar_a record_a 3 4 (4 ∷ 5 ∷ 6 ∷ 7 ∷ 8 ∷ 9 ∷ 10 ∷ 11 ∷ 12 ∷ 13 ∷ [])
    ++ cut grammar_c record_c 4 0 (0 ∷ 1 ∷ 2 ∷ 3 ∷ 4 ∷ 5 ∷ 6 ∷ 7 ∷ [])
    -- without a capacity: counts of 1,023 and 1,024 constants, and a byte left over
    ++ record { source = Req07; call = check_whole grammar_c (count_bytes 0xff 3); expected = counts 1024 8 }
    ∷ record { source = Req07; call = check_whole grammar_c (count_bytes 0 4); expected = refuses 8 (byte 0) }
    ∷ record { source = Req07; call = check_val grammar_c (7 ∷ count_bytes 0xff 3) 1; expected = counts 1024 9 }
    ∷ record { source = Req07; call = check_val grammar_c (7 ∷ count_bytes 0 4) 1; expected = refuses 8 (byte 1) }
    ∷ record { source = Req07; call = check_whole grammar_b (0 ∷ []); expected = refuses 11 (byte 0) }
    -- 1,025 named: counts of 1,024 and 1,025
    ∷ record { source = Req07; call = check_whole_with grammar_c (count_bytes 0 4) 1025; expected = counts 1025 8 }
    ∷ record { source = Req07; call = check_whole_with grammar_c (count_bytes 1 4) 1025; expected = refuses 8 (byte 0) }
    -- 4,096 and more named: counts of 4,095, whose first element lacks its bytes, and 4,096
    ∷ record { source = Req07; call = check_whole_with grammar_uint32s (count_bytes 0xff 0x0f) 4096; expected = refuses 9 (byte 8) }
    ∷ record { source = Req07; call = check_whole_with grammar_uint32s (count_bytes 0 0x10) 4097; expected = refuses 8 (byte 0) }
    ∷ record { source = Req07; call = check_val_with grammar_uint32s (count_bytes 0xff 0x0f) 0 18446744073709551615; expected = refuses 9 (byte 8) }
    ∷ record { source = Req07; call = check_val_with grammar_uint32s (count_bytes 0 0x10) 0 18446744073709551615; expected = refuses 8 (byte 0) }
    -- as many named as the record needs, and one fewer; from an index, and with a byte left over
    ∷ record { source = Req07; call = check_whole_with grammar_a record_a 3; expected = counts 3 14 }
    ∷ record { source = Req07; call = check_whole_with grammar_a record_a 2; expected = refuses 8 (byte 4) }
    ∷ record { source = Req07; call = check_val_with grammar_b (0 ∷ 0 ∷ 0 ∷ []) 2 1; expected = counts 1 2 }
    ∷ record { source = Req07; call = check_whole_with grammar_b (0 ∷ []) 1; expected = refuses 11 (byte 0) }
    -- 0 named, and once 1: 8 at the index, before 9 and 10 and behind 1 and 7
    ∷ record { source = Req07; call = check_whole_with grammar_b [] 0; expected = refuses 8 (byte 0) }
    ∷ record { source = Req07; call = check_whole_with grammar_c (0 ∷ 0 ∷ 0 ∷ 0 ∷ 0 ∷ 0 ∷ 0 ∷ []) 0; expected = refuses 8 (byte 0) }
    ∷ record { source = Req07; call = check_whole_with grammar_c (0 ∷ 0 ∷ 0 ∷ 0 ∷ 0 ∷ 0 ∷ 0 ∷ []) 1; expected = refuses 9 (byte 0) }
    ∷ record { source = Req07; call = check_whole_with grammar_d (0 ∷ 0 ∷ 0 ∷ 0 ∷ 0 ∷ 0 ∷ 0 ∷ 0 ∷ []) 0; expected = refuses 8 (byte 0) }
    ∷ record { source = Req07; call = check_val_with grammar_b (0 ∷ 0 ∷ 0 ∷ []) 2 0; expected = refuses 8 (byte 2) }
    ∷ record { source = Req07; call = check_val_with grammar_b (0 ∷ 0 ∷ 0 ∷ []) 3 0; expected = refuses 8 (byte 3) }
    ∷ record { source = Req07; call = check_val_with grammar_b (0 ∷ 0 ∷ 0 ∷ []) 4 0; expected = refuses 7 (byte 4) }
    ∷ record { source = Req07; call = check_whole_with [] [] 0; expected = refuses 1 (word 0) }
    -- case 0 with an array of two uint64: the sizes of a value and of the one in it
    ∷ record { source = Req10; call = read grammar_case (count_bytes 0 0 ++ (count_bytes 2 0 ++ (count_bytes 5 0 ++ count_bytes 6 0))) 4096; expected = hands_out 2 (8 ∷ 2 ∷ 0 ∷ 0 ∷ 32 ∷ 7 ∷ 1 ∷ 2 ∷ 16 ∷ 24 ∷ []) (VCase 0 (VUint64Array (5 ∷ 6 ∷ []))) }
    -- row 0 says the size; a row that says a wrong one, and one word too few
    ∷ record { source = Req10; call = size_of_rows rows_a 3 record_a; expected = is_size 14 }
    ∷ record { source = Req10; call = size_of_rows (4 ∷ 3 ∷ 2 ∷ 0 ∷ 15 ∷ drop 5 rows_a) 3 record_a; expected = refuses 13 (row 0) }
    ∷ record { source = Req10; call = size_of_rows (take 14 rows_a ++ (11 ∷ [])) 3 record_a; expected = refuses 13 (row 2) }
    ∷ record { source = Req10; call = size_of_rows (take 14 rows_a) 3 record_a; expected = refuses 12 (row 0) }
    -- the order: row 1's size before row 2, whose kind is 11; row 2, which lies outside the store, before its own size and before row 0's
    ∷ record { source = Req10; call = size_of_rows (take 9 rows_a ++ (5 ∷ 11 ∷ drop 11 rows_a)) 3 record_a; expected = refuses 13 (row 1) }
    ∷ record { source = Req10; call = size_of_rows (take 13 rows_a ++ (13 ∷ 11 ∷ [])) 3 record_a; expected = refuses 14 (row 2) }
    ∷ record { source = Req10; call = size_of_rows (take 4 rows_a ++ (15 ∷ take 8 (drop 5 rows_a)) ++ (13 ∷ 10 ∷ [])) 3 record_a; expected = refuses 14 (row 2) }
    ∷ []

-- every call of the list answers as expected
abbrev pub BenchHolds : Type 0
BenchHolds = map (λ e. result_of e.call) bench ≡ map (λ e. e.expected) bench
