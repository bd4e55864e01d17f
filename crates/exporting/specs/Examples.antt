-- Examples of what `export_xdr` answers and leaves, as one list.
use Rattle.std.specs.Prelude.{◌≡◌, List, [], ◌∷◌, ◌++◌, map, ℕ, length, replicate}
use Rattle.refusal.specs.Outcome.{Outcome, accepted, refused, map as map_outcome, Location, word, byte, row, Reason, reason}
use Rattle.packed.specs.Packed.{put}
use Rattle.xdr.specs.Xdr.{xdr_of}
use Rattle.exporting.specs.Export.{export_of}

pub record Example : Type 0 where
  pub grammar : List ℕ
  pub rows : List ℕ
  pub n : ℕ
  pub store : List ℕ
  pub out : List ℕ
  pub index : ℕ
  pub expected : Outcome Reason (List ℕ)

-- the output behind an accepted call
abbrev pub exported : Example → Outcome Reason (List ℕ)
exported e = map_outcome (λ v. put e.out e.index (xdr_of v)) (export_of e.grammar e.rows e.n e.store (length e.out) e.index)

abbrev pub refuses : ℕ → Location → Outcome Reason (List ℕ)
refuses number place = refused (reason number place)

-- a tuple of an int32, a byte array and an array of uint32: -1, `AB`, 0x12345678
abbrev pub grammar_t : List ℕ
grammar_t = 4 ∷ 4 ∷ 0 ∷ 3 ∷ 9 ∷ 0 ∷ 0 ∷ 5 ∷ 0 ∷ 0 ∷ 6 ∷ 0 ∷ 0 ∷ 3 ∷ 1 ∷ 2 ∷ 3 ∷ []

abbrev pub record_t : List ℕ
record_t = 0xff ∷ 0xff ∷ 0xff ∷ 0xff ∷ 2 ∷ 0 ∷ 0 ∷ 0 ∷ 0 ∷ 0 ∷ 0 ∷ 0 ∷ 0x41 ∷ 0x42 ∷ 1 ∷ 0 ∷ 0 ∷ 0 ∷ 0 ∷ 0 ∷ 0 ∷ 0 ∷ 0x78 ∷ 0x56 ∷ 0x34 ∷ 0x12 ∷ []

abbrev pub rows_t : List ℕ
rows_t = 4 ∷ 4 ∷ 3 ∷ 0 ∷ 26 ∷ 9 ∷ 1 ∷ 4294967295 ∷ 0 ∷ 4 ∷ 5 ∷ 1 ∷ 2 ∷ 12 ∷ 10 ∷ 6 ∷ 1 ∷ 1 ∷ 22 ∷ 12 ∷ []

abbrev pub xdr_t : List ℕ
xdr_t = 0xff ∷ 0xff ∷ 0xff ∷ 0xff ∷ 0 ∷ 0 ∷ 0 ∷ 2 ∷ 0x41 ∷ 0x42 ∷ 0 ∷ 0 ∷ 0 ∷ 0 ∷ 0 ∷ 1 ∷ 0x12 ∷ 0x34 ∷ 0x56 ∷ 0x78 ∷ []

-- T's rows, with its record as store, into so many bytes EE
abbrev pub from_t : ℕ → ℕ → Outcome Reason (List ℕ) → Example
from_t len index expected = record { grammar = grammar_t; rows = rows_t; n = 4; store = record_t; out = replicate len 0xee; index = index; expected = expected }

-- one constant, which has no bytes, into two bytes
abbrev pub grammar_b : List ℕ
grammar_b = 1 ∷ 0 ∷ 0 ∷ 0 ∷ 0 ∷ []

abbrev pub from_b : ℕ → Outcome Reason (List ℕ) → Example
from_b index expected = record { grammar = grammar_b; rows = 0 ∷ 1 ∷ 0 ∷ 0 ∷ 0 ∷ []; n = 1; store = []; out = 1 ∷ 2 ∷ []; index = index; expected = expected }

abbrev pub examples : List Example
examples =
    from_t 20 0 (accepted xdr_t)
    ∷ from_t 27 4 (accepted (replicate 4 0xee ++ (xdr_t ++ replicate 3 0xee)))
    ∷ from_t 23 4 (refuses 17 (byte 23))
    ∷ from_b 2 (accepted (1 ∷ 2 ∷ []))
    ∷ from_b 3 (refuses 17 (byte 2))
    -- three bytes need one of padding, none need none, and an array of arrays has a count of four bytes
    ∷ record { grammar = 2 ∷ 3 ∷ 0 ∷ 1 ∷ 5 ∷ 0 ∷ 0 ∷ 1 ∷ 1 ∷ []; rows = 3 ∷ 3 ∷ 2 ∷ 0 ∷ 27 ∷ 5 ∷ 1 ∷ 3 ∷ 0 ∷ 11 ∷ 5 ∷ 1 ∷ 0 ∷ 3 ∷ 8 ∷ []; n = 3; store = 7 ∷ 8 ∷ 9 ∷ []; out = replicate 16 0xee; index = 0; expected = accepted (0 ∷ 0 ∷ 0 ∷ 2 ∷ 0 ∷ 0 ∷ 0 ∷ 3 ∷ 7 ∷ 8 ∷ 9 ∷ 0 ∷ 0 ∷ 0 ∷ 0 ∷ 0 ∷ []) }
    -- a case: its tag, then an array of one uint64
    ∷ record { grammar = 3 ∷ 8 ∷ 0 ∷ 2 ∷ 0 ∷ 0 ∷ 0 ∷ 7 ∷ 0 ∷ 0 ∷ 2 ∷ 1 ∷ 2 ∷ []; rows = 8 ∷ 2 ∷ 1 ∷ 0 ∷ 24 ∷ 7 ∷ 1 ∷ 1 ∷ 0 ∷ 16 ∷ []; n = 2; store = 1 ∷ 2 ∷ 3 ∷ 4 ∷ 5 ∷ 6 ∷ 7 ∷ 8 ∷ []; out = replicate 16 0xee; index = 0; expected = accepted (0 ∷ 0 ∷ 0 ∷ 1 ∷ 0 ∷ 0 ∷ 0 ∷ 1 ∷ 8 ∷ 7 ∷ 6 ∷ 5 ∷ 4 ∷ 3 ∷ 2 ∷ 1 ∷ []) }
    -- two uint32, in their order
    ∷ record { grammar = 1 ∷ 6 ∷ 0 ∷ 0 ∷ 0 ∷ []; rows = 6 ∷ 1 ∷ 2 ∷ 0 ∷ 16 ∷ []; n = 1; store = 4 ∷ 3 ∷ 2 ∷ 1 ∷ 8 ∷ 7 ∷ 6 ∷ 5 ∷ []; out = replicate 12 0xee; index = 0; expected = accepted (0 ∷ 0 ∷ 0 ∷ 2 ∷ 1 ∷ 2 ∷ 3 ∷ 4 ∷ 5 ∷ 6 ∷ 7 ∷ 8 ∷ []) }
    -- 15 before 17
    ∷ record { grammar = grammar_b; rows = rows_t; n = 4; store = record_t; out = []; index = 0; expected = refuses 15 (row 0) }
    -- 12 before 15
    ∷ record { grammar = grammar_b; rows = rows_t; n = 5; store = record_t; out = []; index = 0; expected = refuses 12 (row 0) }
    -- 1 before all
    ∷ record { grammar = []; rows = []; n = 0; store = []; out = []; index = 1; expected = refuses 1 (word 0) }
    ∷ []

-- every call of the list answers as expected
abbrev pub ExamplesHold : Type 0
ExamplesHold = map exported examples ≡ map (λ e. e.expected) examples
