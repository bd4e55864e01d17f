-- Examples of imports, as one list: what a call answers, and what rows and store hold at exit.
use Rattle.std.specs.Prelude.{◌≡◌, List, [], ◌∷◌, map, ℕ, length, replicate}
use Rattle.refusal.specs.Outcome.{Outcome, accepted, refused, map as map_outcome, Reason, reason, word, byte}
use Rattle.packed.specs.Packed.{put}
use Rattle.admission.specs.Admission.{capacity_of}
use Rattle.xdr.specs.Xdr.{store_of, rows_in}
use Rattle.importing.specs.Meaning.{Counts}
use Rattle.importing.specs.Calls.{import_of, counts_of}

-- what an accepted call leaves: its answer, and both buffers at exit
pub record Left : Type 0 where
  pub counts : Counts
  pub rows : List ℕ
  pub store : List ℕ

-- a grammar, a record in XDR, and the rows and the store lent
pub record Example : Type 0 where
  pub grammar : List ℕ
  pub bytes : List ℕ
  pub rows : List ℕ
  pub store : List ℕ
  pub expected : Outcome Reason Left

-- by the definitions of `Imports`; a refusal leaves both as they were
abbrev pub imported : Example → Outcome Reason Left
imported e = map_outcome (λ t. record { counts = counts_of t; rows = put e.rows 0 (rows_in t.value 0); store = put e.store 0 (store_of t.value) }) (import_of e.grammar e.bytes (capacity_of (length e.rows)) (length e.store))

-- over words and bytes EE
abbrev pub over : List ℕ → List ℕ → ℕ → ℕ → Outcome Reason Left → Example
over grammar bytes words len expected = record { grammar = grammar; bytes = bytes; rows = replicate words 0xee; store = replicate len 0xee; expected = expected }

abbrev pub gives : ℕ → ℕ → List ℕ → List ℕ → Outcome Reason Left
gives n used rows store = accepted (record { counts = record { rows = n; used = used }; rows = rows; store = store })

abbrev pub refuses : ℕ → ℕ → Outcome Reason Left
refuses number place = refused (reason number (byte place))

-- a node of a kind without children
abbrev pub leaf : ℕ → List ℕ
leaf kind = 1 ∷ kind ∷ 0 ∷ 0 ∷ 0 ∷ []

-- document 01's case A: a tuple of a uint32 and a byte array
abbrev pub grammar_a : List ℕ
grammar_a = 3 ∷ 4 ∷ 0 ∷ 2 ∷ 1 ∷ 0 ∷ 0 ∷ 5 ∷ 0 ∷ 0 ∷ 2 ∷ 1 ∷ 2 ∷ []

-- T: a tuple of an int32, a byte array and an array of uint32; its XDR by the second padding byte, and its rows
abbrev pub grammar_t : List ℕ
grammar_t = 4 ∷ 4 ∷ 0 ∷ 3 ∷ 9 ∷ 0 ∷ 0 ∷ 5 ∷ 0 ∷ 0 ∷ 6 ∷ 0 ∷ 0 ∷ 3 ∷ 1 ∷ 2 ∷ 3 ∷ []

abbrev pub bytes_t : ℕ → List ℕ → List ℕ
bytes_t pad last = 0xff ∷ 0xff ∷ 0xff ∷ 0xff ∷ 0 ∷ 0 ∷ 0 ∷ 2 ∷ 0x41 ∷ 0x42 ∷ 0 ∷ pad ∷ 0 ∷ 0 ∷ 0 ∷ 1 ∷ 0x12 ∷ 0x34 ∷ 0x56 ∷ last

abbrev pub rows_t : List ℕ → List ℕ
rows_t rest = 4 ∷ 4 ∷ 3 ∷ 0 ∷ 26 ∷ 9 ∷ 1 ∷ 4294967295 ∷ 0 ∷ 4 ∷ 5 ∷ 1 ∷ 2 ∷ 0 ∷ 10 ∷ 6 ∷ 1 ∷ 1 ∷ 2 ∷ 12 ∷ rest

-- T's XDR over so many words and bytes
abbrev pub over_t : ℕ → ℕ → Outcome Reason Left → Example
over_t words len expected = over grammar_t (bytes_t 0 (0x78 ∷ [])) words len expected

-- a tuple of three byte arrays
abbrev pub grammar_three : List ℕ
grammar_three = 2 ∷ 4 ∷ 0 ∷ 3 ∷ 5 ∷ 0 ∷ 0 ∷ 3 ∷ 1 ∷ 1 ∷ 1 ∷ []

-- an array of constants, and a union of one case, a constant
abbrev pub grammar_c : List ℕ
grammar_c = 2 ∷ 3 ∷ 0 ∷ 1 ∷ 0 ∷ 0 ∷ 0 ∷ 1 ∷ 1 ∷ []

abbrev pub grammar_u : List ℕ
grammar_u = 2 ∷ 8 ∷ 0 ∷ 1 ∷ 0 ∷ 0 ∷ 0 ∷ 1 ∷ 1 ∷ []

-- RFC 4506, section 7: a file's name, its kind with what that kind has beside it (the third has an interpreter), its owner and its data
abbrev pub grammar_file : List ℕ
grammar_file = 4 ∷ 4 ∷ 0 ∷ 4 ∷ 8 ∷ 4 ∷ 3 ∷ 0 ∷ 0 ∷ 0 ∷ 5 ∷ 0 ∷ 0 ∷ 7 ∷ 3 ∷ 1 ∷ 3 ∷ 3 ∷ 2 ∷ 3 ∷ 3 ∷ []

-- "sillyprog", 2, "lisp", "john", "(quit)"
abbrev pub bytes_file : List ℕ
bytes_file =
    0 ∷ 0 ∷ 0 ∷ 9 ∷ 0x73 ∷ 0x69 ∷ 0x6c ∷ 0x6c ∷ 0x79 ∷ 0x70 ∷ 0x72 ∷ 0x6f ∷ 0x67 ∷ 0 ∷ 0 ∷ 0
    ∷ 0 ∷ 0 ∷ 0 ∷ 2 ∷ 0 ∷ 0 ∷ 0 ∷ 4 ∷ 0x6c ∷ 0x69 ∷ 0x73 ∷ 0x70
    ∷ 0 ∷ 0 ∷ 0 ∷ 4 ∷ 0x6a ∷ 0x6f ∷ 0x68 ∷ 0x6e ∷ 0 ∷ 0 ∷ 0 ∷ 6 ∷ 0x28 ∷ 0x71 ∷ 0x75 ∷ 0x69 ∷ 0x74 ∷ 0x29 ∷ 0 ∷ 0 ∷ []

abbrev pub rows_file : List ℕ
rows_file = 4 ∷ 6 ∷ 4 ∷ 0 ∷ 63 ∷ 5 ∷ 1 ∷ 9 ∷ 0 ∷ 17 ∷ 8 ∷ 2 ∷ 2 ∷ 0 ∷ 20 ∷ 5 ∷ 1 ∷ 4 ∷ 9 ∷ 12 ∷ 5 ∷ 1 ∷ 4 ∷ 13 ∷ 12 ∷ 5 ∷ 1 ∷ 6 ∷ 17 ∷ 14 ∷ []

-- "sillyproglispjohn(quit)"
abbrev pub store_file : List ℕ
store_file =
    0x73 ∷ 0x69 ∷ 0x6c ∷ 0x6c ∷ 0x79 ∷ 0x70 ∷ 0x72 ∷ 0x6f ∷ 0x67 ∷ 0x6c ∷ 0x69 ∷ 0x73 ∷ 0x70 ∷ 0x6a ∷ 0x6f ∷ 0x68 ∷ 0x6e
    ∷ 0x28 ∷ 0x71 ∷ 0x75 ∷ 0x69 ∷ 0x74 ∷ 0x29 ∷ []

abbrev pub examples : List Example
examples =
    -- 14 bytes in a record, as the first row says, from 12 in XDR
    over grammar_a (0 ∷ 0 ∷ 0 ∷ 7 ∷ 0 ∷ 0 ∷ 0 ∷ 2 ∷ 0x41 ∷ 0x42 ∷ 0 ∷ 0 ∷ []) 15 2 (gives 3 2 (4 ∷ 3 ∷ 2 ∷ 0 ∷ 14 ∷ 1 ∷ 1 ∷ 7 ∷ 0 ∷ 4 ∷ 5 ∷ 1 ∷ 2 ∷ 0 ∷ 10 ∷ []) (0x41 ∷ 0x42 ∷ []))
    ∷ over_t 20 8 (gives 4 6 (rows_t []) (0x41 ∷ 0x42 ∷ 0x78 ∷ 0x56 ∷ 0x34 ∷ 0x12 ∷ 0xee ∷ 0xee ∷ []))
    -- as many bytes as are used; words behind the four rows stay, a fifth row of them or less
    ∷ over_t 27 6 (gives 4 6 (rows_t (replicate 7 0xee)) (0x41 ∷ 0x42 ∷ 0x78 ∷ 0x56 ∷ 0x34 ∷ 0x12 ∷ []))
    ∷ over_t 20 5 (refuses 17 5)
    ∷ over_t 20 1 (refuses 17 1)
    ∷ over_t 15 8 (refuses 8 12)
    -- too few rows and too short a store: what is met first
    ∷ over_t 15 5 (refuses 8 12)
    ∷ over_t 15 1 (refuses 17 1)
    -- without its last byte, and with one more
    ∷ over grammar_t (bytes_t 0 []) 20 8 (refuses 9 12)
    ∷ over grammar_t (bytes_t 0 (0x78 ∷ 0 ∷ [])) 20 8 (refuses 11 20)
    -- padding that is not zero: 23 at the array's start, after 17
    ∷ over grammar_t (bytes_t 1 (0x78 ∷ [])) 20 8 (refuses 23 4)
    ∷ over grammar_t (bytes_t 1 (0x78 ∷ [])) 20 1 (refuses 17 1)
    -- of 0, 3 and 0 bytes: each place is the end of what is packed so far
    ∷ over grammar_three (0 ∷ 0 ∷ 0 ∷ 0 ∷ 0 ∷ 0 ∷ 0 ∷ 3 ∷ 7 ∷ 8 ∷ 9 ∷ 0 ∷ 0 ∷ 0 ∷ 0 ∷ 0 ∷ []) 20 3 (gives 4 3 (4 ∷ 4 ∷ 3 ∷ 0 ∷ 27 ∷ 5 ∷ 1 ∷ 0 ∷ 0 ∷ 8 ∷ 5 ∷ 1 ∷ 3 ∷ 0 ∷ 11 ∷ 5 ∷ 1 ∷ 0 ∷ 3 ∷ 8 ∷ []) (7 ∷ 8 ∷ 9 ∷ []))
    -- an array of two byte arrays
    ∷ over (2 ∷ 3 ∷ 0 ∷ 1 ∷ 5 ∷ 0 ∷ 0 ∷ 1 ∷ 1 ∷ []) (0 ∷ 0 ∷ 0 ∷ 2 ∷ 0 ∷ 0 ∷ 0 ∷ 1 ∷ 7 ∷ 0 ∷ 0 ∷ 0 ∷ 0 ∷ 0 ∷ 0 ∷ 2 ∷ 8 ∷ 9 ∷ 0 ∷ 0 ∷ []) 15 4 (gives 3 3 (3 ∷ 3 ∷ 2 ∷ 0 ∷ 27 ∷ 5 ∷ 1 ∷ 1 ∷ 0 ∷ 9 ∷ 5 ∷ 1 ∷ 2 ∷ 1 ∷ 10 ∷ []) (7 ∷ 8 ∷ 9 ∷ 0xee ∷ []))
    -- one byte with 0 to 3 padding bytes, and with the first of them not zero
    ∷ over (leaf 5) (0 ∷ 0 ∷ 0 ∷ 1 ∷ 7 ∷ []) 5 1 (refuses 9 0)
    ∷ over (leaf 5) (0 ∷ 0 ∷ 0 ∷ 1 ∷ 7 ∷ 0 ∷ []) 5 1 (refuses 9 0)
    ∷ over (leaf 5) (0 ∷ 0 ∷ 0 ∷ 1 ∷ 7 ∷ 0 ∷ 0 ∷ []) 5 1 (refuses 9 0)
    ∷ over (leaf 5) (0 ∷ 0 ∷ 0 ∷ 1 ∷ 7 ∷ 0 ∷ 0 ∷ 0 ∷ []) 5 1 (gives 1 1 (5 ∷ 1 ∷ 1 ∷ 0 ∷ 9 ∷ []) (7 ∷ []))
    ∷ over (leaf 5) (0 ∷ 0 ∷ 0 ∷ 1 ∷ 7 ∷ 1 ∷ 0 ∷ 0 ∷ []) 5 1 (refuses 23 0)
    -- 9 before 23: the second of three padding bytes is missing, and the first is not zero
    ∷ over (leaf 5) (0 ∷ 0 ∷ 0 ∷ 1 ∷ 7 ∷ 1 ∷ []) 5 1 (refuses 9 0)
    -- 9 before 17, which has no place for the byte
    ∷ over (leaf 5) (0 ∷ 0 ∷ 0 ∷ 1 ∷ 7 ∷ 0 ∷ 0 ∷ []) 5 0 (refuses 9 0)
    -- three constants: four rows and no byte of the store; with three rows, with the greatest count, and cut in the count
    ∷ over grammar_c (0 ∷ 0 ∷ 0 ∷ 3 ∷ []) 20 0 (gives 4 0 (3 ∷ 4 ∷ 3 ∷ 0 ∷ 8 ∷ 0 ∷ 1 ∷ 0 ∷ 0 ∷ 0 ∷ 0 ∷ 1 ∷ 0 ∷ 0 ∷ 0 ∷ 0 ∷ 1 ∷ 0 ∷ 0 ∷ 0 ∷ []) [])
    ∷ over grammar_c (0 ∷ 0 ∷ 0 ∷ 3 ∷ []) 19 0 (refuses 8 0)
    ∷ over grammar_c (0xff ∷ 0xff ∷ 0xff ∷ 0xff ∷ []) 20 0 (refuses 8 0)
    ∷ over grammar_c (0 ∷ 0 ∷ 0 ∷ []) 20 0 (refuses 9 0)
    -- a count of uint64 whose bytes would be 2^35 − 8; one uint64, and two uint32, least byte first in the store; −2 of kind 10 as its pattern
    ∷ over (leaf 7) (0xff ∷ 0xff ∷ 0xff ∷ 0xff ∷ []) 5 8 (refuses 9 0)
    ∷ over (leaf 7) (0 ∷ 0 ∷ 0 ∷ 1 ∷ 1 ∷ 2 ∷ 3 ∷ 4 ∷ 5 ∷ 6 ∷ 7 ∷ 8 ∷ []) 5 8 (gives 1 8 (7 ∷ 1 ∷ 1 ∷ 0 ∷ 16 ∷ []) (8 ∷ 7 ∷ 6 ∷ 5 ∷ 4 ∷ 3 ∷ 2 ∷ 1 ∷ []))
    ∷ over (leaf 6) (0 ∷ 0 ∷ 0 ∷ 2 ∷ 1 ∷ 2 ∷ 3 ∷ 4 ∷ 5 ∷ 6 ∷ 7 ∷ 8 ∷ []) 5 8 (gives 1 8 (6 ∷ 1 ∷ 2 ∷ 0 ∷ 16 ∷ []) (4 ∷ 3 ∷ 2 ∷ 1 ∷ 8 ∷ 7 ∷ 6 ∷ 5 ∷ []))
    ∷ over (leaf 10) (0xff ∷ 0xff ∷ 0xff ∷ 0xff ∷ 0xff ∷ 0xff ∷ 0xff ∷ 0xfe ∷ []) 5 0 (gives 1 0 (10 ∷ 1 ∷ 18446744073709551614 ∷ 0 ∷ 8 ∷ []) [])
    -- a tag of no case; tag 0 with two rows, and with one: 8 where the case's value starts; cut in the tag
    ∷ over grammar_u (0 ∷ 0 ∷ 0 ∷ 1 ∷ []) 10 0 (refuses 10 0)
    ∷ over grammar_u (0 ∷ 0 ∷ 0 ∷ 0 ∷ []) 10 0 (gives 2 0 (8 ∷ 2 ∷ 0 ∷ 0 ∷ 8 ∷ 0 ∷ 1 ∷ 0 ∷ 0 ∷ 0 ∷ []) [])
    ∷ over grammar_u (0 ∷ 0 ∷ 0 ∷ 0 ∷ []) 5 0 (refuses 8 4)
    ∷ over grammar_u (0 ∷ 0 ∷ 0 ∷ []) 10 0 (refuses 9 0)
    -- four words are no row: 8 before 9
    ∷ over_t 4 8 (refuses 8 0)
    ∷ over (leaf 1) [] 4 0 (refuses 8 0)
    ∷ over grammar_file bytes_file 30 23 (gives 6 23 rows_file store_file)
    ∷ over grammar_file bytes_file 30 22 (refuses 17 22)
    -- the grammar's refusals come first
    ∷ over (leaf 11) [] 4 0 (refused (reason 3 (word 1)))
    ∷ []

-- every call of the list answers and leaves as expected; and of a store above 1,048,576 bytes 6, before 8
abbrev pub ExamplesHold : Type 0
ExamplesHold = (map imported examples ≡ map (λ e. e.expected) examples) × (import_of (leaf 0) [] 0 1048577 ≡ refused (reason 6 (byte 0)))
