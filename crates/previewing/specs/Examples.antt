-- Examples of what `preview` answers, as one list.
use Rattle.std.specs.Prelude.{◌≡◌, List, [], ◌∷◌, ◌++◌, map, ℕ, replicate}
use Rattle.refusal.specs.Outcome.{Outcome, accepted, refused, Location, byte, row, Reason, reason}
use Rattle.previewing.specs.Preview.{Preview, preview_of}

pub record Example : Type 0 where
  pub grammar : List ℕ
  pub rows : List ℕ
  pub n : ℕ
  pub store : List ℕ
  pub out : List ℕ
  pub index : ℕ
  pub expected : Outcome Reason Preview

abbrev pub previewed : Example → Outcome Reason Preview
previewed e = preview_of e.grammar e.rows e.n e.store e.out e.index

abbrev pub gives : ℕ → ℕ → Outcome Reason Preview
gives size changed = accepted (record { size = size; changed = changed })

abbrev pub refuses : ℕ → Location → Outcome Reason Preview
refuses number place = refused (reason number place)

-- document 01's case A: a tuple of a uint32 and a byte array, its record by the last byte, and its rows by the root's span
abbrev pub grammar_a : List ℕ
grammar_a = 3 ∷ 4 ∷ 0 ∷ 2 ∷ 1 ∷ 0 ∷ 0 ∷ 5 ∷ 0 ∷ 0 ∷ 2 ∷ 1 ∷ 2 ∷ []

abbrev pub record_a : ℕ → List ℕ
record_a last = 0x07 ∷ 0 ∷ 0 ∷ 0 ∷ 0x02 ∷ 0 ∷ 0 ∷ 0 ∷ 0 ∷ 0 ∷ 0 ∷ 0 ∷ 0x41 ∷ last ∷ []

abbrev pub rows_a : ℕ → List ℕ
rows_a span = 4 ∷ span ∷ 2 ∷ 0 ∷ 14 ∷ 1 ∷ 1 ∷ 7 ∷ 0 ∷ 4 ∷ 5 ∷ 1 ∷ 2 ∷ 12 ∷ 10 ∷ []

-- case A's rows, with its record as store, over an output
abbrev pub over_a : List ℕ → ℕ → Outcome Reason Preview → Example
over_a out index expected = record { grammar = grammar_a; rows = rows_a 3; n = 3; store = record_a 0x42; out = out; index = index; expected = expected }

-- case B: one constant, which has no bytes
abbrev pub grammar_b : List ℕ
grammar_b = 1 ∷ 0 ∷ 0 ∷ 0 ∷ 0 ∷ []

-- over two bytes
abbrev pub over_b : ℕ → Outcome Reason Preview → Example
over_b index expected = record { grammar = grammar_b; rows = 0 ∷ 1 ∷ 0 ∷ 0 ∷ 0 ∷ []; n = 1; store = []; out = 0 ∷ 0 ∷ []; index = index; expected = expected }

abbrev pub examples : List Example
examples =
    -- 07, 02, 41 and 42 are not 0
    over_a (replicate 14 0) 0 (gives 14 4)
    ∷ over_a (replicate 20 0) 3 (gives 14 4)
    ∷ over_a (replicate 14 0xee) 0 (gives 14 14)
    ∷ over_a (replicate 17 0xee) 1 (gives 14 14)
    ∷ over_a (record_a 0x42) 0 (gives 14 0)
    ∷ over_a (record_a 0x43) 0 (gives 14 1)
    -- the record one byte further on
    ∷ over_a (record_a 0x42 ++ (0 ∷ [])) 1 (gives 14 6)
    ∷ over_a (replicate 13 0) 0 (refuses 17 (byte 13))
    ∷ over_a (replicate 14 0) 1 (refuses 17 (byte 14))
    ∷ over_a (replicate 14 0) 18446744073709551615 (refuses 17 (byte 14))
    ∷ over_b 2 (gives 0 0)
    ∷ over_b 3 (refuses 17 (byte 2))
    -- an array of one uint32: of the element's four bytes the output holds the first and the third
    ∷ record { grammar = 1 ∷ 6 ∷ 0 ∷ 0 ∷ 0 ∷ []; rows = 6 ∷ 1 ∷ 1 ∷ 0 ∷ 12 ∷ []; n = 1; store = 0x78 ∷ 0x56 ∷ 0x34 ∷ 0x12 ∷ []; out = 1 ∷ 0 ∷ 0 ∷ 0 ∷ 0 ∷ 0 ∷ 0 ∷ 0 ∷ 0x78 ∷ 0 ∷ 0x34 ∷ 0 ∷ []; index = 0; expected = gives 12 2 }
    ∷ record { grammar = grammar_b; rows = rows_a 3; n = 3; store = record_a 0x42; out = replicate 14 0; index = 0; expected = refuses 15 (row 0) }
    -- 13 before 17
    ∷ record { grammar = grammar_a; rows = rows_a 2; n = 3; store = record_a 0x42; out = 0 ∷ []; index = 0; expected = refuses 13 (row 0) }
    ∷ record { grammar = grammar_a; rows = rows_a 3; n = 0; store = record_a 0x42; out = replicate 14 0; index = 0; expected = refuses 12 (row 0) }
    ∷ []

-- every call of the list answers as expected
abbrev pub ExamplesHold : Type 0
ExamplesHold = map previewed examples ≡ map (λ e. e.expected) examples
