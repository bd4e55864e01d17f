-- Examples of what counts of two records, as one list. They are of the same route where the two values expected are equal.
use Rattle.std.specs.Prelude.{◌≡◌, List, [], ◌∷◌, map, ℕ}
use Rattle.refusal.specs.Outcome.{Outcome, accepted, refused, reason, byte, map as map_outcome}
use Rattle.value.specs.Tree.{Val, VArray, VTuple, VCase, VUint32, VByteArray, vnil, vcons}
use Rattle.comparing.specs.SameRoute.{NamedReason, of_first, of_second, Both, read_both, counted}

pub record Example : Type 0 where
  pub grammar : List ℕ
  pub first : List ℕ
  pub second : List ℕ
  -- what counts of each, or the refusal
  pub expected : Outcome NamedReason Both

abbrev pub counted_both : Example → Outcome NamedReason Both
counted_both e = map_outcome (λ b. record { first = counted b.first; second = counted b.second }) (read_both e.grammar e.first e.second)

abbrev pub both : Val → Val → Outcome NamedReason Both
both x y = accepted (record { first = x; second = y })

-- a number below 256 in 4 bytes, and a count or a tag in 8
abbrev pub four : ℕ → List ℕ → List ℕ
four n rest = n ∷ 0 ∷ 0 ∷ 0 ∷ rest

abbrev pub eight : ℕ → List ℕ → List ℕ
eight n rest = n ∷ 0 ∷ 0 ∷ 0 ∷ 0 ∷ 0 ∷ 0 ∷ 0 ∷ rest

-- a tuple of a uint32 and a byte array, document 01's case A; its record by serial number and last byte
abbrev pub grammar_a : List ℕ
grammar_a = 3 ∷ 4 ∷ 0 ∷ 2 ∷ 1 ∷ 0 ∷ 0 ∷ 5 ∷ 0 ∷ 0 ∷ 2 ∷ 1 ∷ 2 ∷ []

abbrev pub record_a : ℕ → ℕ → List ℕ
record_a serial last = four serial (eight 2 (0x41 ∷ last ∷ []))

abbrev pub counted_a : ℕ → Val
counted_a last = VTuple (vcons (VByteArray (0x41 ∷ last ∷ [])) vnil)

-- a tuple of two fields: a node of the given kind, which has no children, and a uint32
abbrev pub before : ℕ → List ℕ
before kind = 3 ∷ 4 ∷ 0 ∷ 2 ∷ kind ∷ 0 ∷ 0 ∷ 1 ∷ 0 ∷ 0 ∷ 2 ∷ 1 ∷ 2 ∷ []

-- a tuple of a tuple of two uint32 and a uint32, and with these fields exchanged
abbrev pub tuple_first : List ℕ
tuple_first = 3 ∷ 4 ∷ 0 ∷ 2 ∷ 4 ∷ 2 ∷ 2 ∷ 1 ∷ 0 ∷ 0 ∷ 4 ∷ 1 ∷ 2 ∷ 2 ∷ 2 ∷ []

abbrev pub tuple_last : List ℕ
tuple_last = 3 ∷ 4 ∷ 0 ∷ 2 ∷ 4 ∷ 2 ∷ 2 ∷ 1 ∷ 0 ∷ 0 ∷ 4 ∷ 2 ∷ 1 ∷ 2 ∷ 2 ∷ []

-- a tuple of an array of constants and a uint32, and its record: a count by its two lowest bytes, and the number 7
abbrev pub constants_first : List ℕ
constants_first = 4 ∷ 4 ∷ 0 ∷ 2 ∷ 3 ∷ 2 ∷ 1 ∷ 1 ∷ 0 ∷ 0 ∷ 0 ∷ 0 ∷ 0 ∷ 3 ∷ 1 ∷ 2 ∷ 3 ∷ []

abbrev pub constants : ℕ → ℕ → List ℕ
constants low high = low ∷ high ∷ 0 ∷ 0 ∷ 0 ∷ 0 ∷ 0 ∷ 0 ∷ four 7 []

-- a root of the given kind, array or union, whose child is a tuple of two uint32
abbrev pub above : ℕ → List ℕ
above kind = 3 ∷ kind ∷ 0 ∷ 1 ∷ 4 ∷ 1 ∷ 2 ∷ 1 ∷ 0 ∷ 0 ∷ 3 ∷ 1 ∷ 2 ∷ 2 ∷ []

abbrev pub one : ℕ → Val
one n = VTuple (vcons (VUint32 n) vnil)

abbrev pub two : ℕ → ℕ → Val
two m n = VTuple (vcons (VUint32 m) (vcons (VUint32 n) vnil))

abbrev pub examples : List Example
examples =
    -- serial numbers 7 and 8: the same route
    record { grammar = grammar_a; first = record_a 7 0x42; second = record_a 8 0x42; expected = both (counted_a 0x42) (counted_a 0x42) }
    -- another last byte too: another route
    ∷ record { grammar = grammar_a; first = record_a 7 0x42; second = record_a 8 0x43; expected = both (counted_a 0x42) (counted_a 0x43) }
    -- first fields of different lengths
    ∷ record { grammar = before 5; first = eight 2 (0x41 ∷ 0x42 ∷ four 7 []); second = eight 3 (0x58 ∷ 0x59 ∷ 0x5a ∷ four 7 []); expected = both (one 7) (one 7) }
    -- first fields without bytes: the numbers are behind them
    ∷ record { grammar = before 0; first = four 7 []; second = four 8 []; expected = both (one 7) (one 8) }
    -- a first field that is a tuple is left out whole, and a tuple behind the first field counts whole
    ∷ record { grammar = tuple_first; first = four 1 (four 2 (four 3 [])); second = four 8 (four 9 (four 3 [])); expected = both (one 3) (one 3) }
    ∷ record { grammar = tuple_last; first = four 1 (four 2 (four 3 [])); second = four 1 (four 9 (four 3 [])); expected = both (VTuple (vcons (two 2 3) vnil)) (VTuple (vcons (two 9 3) vnil)) }
    -- one field: nothing counts. No field: equal values
    ∷ record { grammar = 2 ∷ 4 ∷ 0 ∷ 1 ∷ 1 ∷ 0 ∷ 0 ∷ 1 ∷ 1 ∷ []; first = four 7 []; second = four 8 []; expected = both (VTuple vnil) (VTuple vnil) }
    ∷ record { grammar = 1 ∷ 4 ∷ 0 ∷ 0 ∷ 0 ∷ []; first = []; second = []; expected = both (VTuple vnil) (VTuple vnil) }
    -- a tuple below another root counts whole
    ∷ record { grammar = above 3; first = eight 1 (four 1 (four 2 [])); second = eight 1 (four 9 (four 2 [])); expected = both (VArray (vcons (two 1 2) vnil)) (VArray (vcons (two 9 2) vnil)) }
    ∷ record { grammar = above 8; first = eight 0 (four 1 (four 2 [])); second = eight 0 (four 9 (four 2 [])); expected = both (VCase 0 (two 1 2)) (VCase 0 (two 9 2)) }
    -- the rows of the first field are rows of the record: with 4,093 constants there are 4,096, with 4,094 none is left for the number
    ∷ record { grammar = constants_first; first = constants 0xfd 0x0f; second = constants 0 0; expected = both (one 7) (one 7) }
    ∷ record { grammar = constants_first; first = constants 0xfe 0x0f; second = constants 0 0; expected = refused (of_first (reason 8 (byte 8))) }
    -- a record that is cut behind its first field, and one that is cut in it
    ∷ record { grammar = grammar_a; first = four 7 (eight 2 (0x41 ∷ [])); second = four 7 (eight 2 (0x41 ∷ [])); expected = refused (of_first (reason 9 (byte 4))) }
    ∷ record { grammar = grammar_a; first = record_a 7 0x42; second = 8 ∷ []; expected = refused (of_second (reason 9 (byte 0))) }
    ∷ []

abbrev pub ExamplesHold : Type 0
ExamplesHold = map counted_both examples ≡ map (λ e. e.expected) examples
