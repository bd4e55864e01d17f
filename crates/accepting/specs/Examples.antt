-- Examples of least lengths and of verdicts, as two lists.
use Rattle.std.specs.Prelude.{◌≡◌, true, false, List, [], ◌∷◌, ◌++◌, map, ℕ, zero, suc, take, Option, Some, None}
use Rattle.refusal.specs.Outcome.{Outcome, accepted, refused, Reason, reason, word}
use Rattle.value.specs.Least.{least}
use Rattle.tables.specs.Grammar.{node_count}
use Rattle.grammar.specs.Tree.{tree_of}
use Rattle.choosing.specs.Examples.{leaf, grammar_a, record_a, grammar_b, grammar_c, record_c, grammar_d, grammar_w, zeros}
use Rattle.accepting.specs.Accepts.{Verdict, accepts_of}

-- an array of D, the union without cases
abbrev pub array_of_d : List ℕ
array_of_d = 2 ∷ 3 ∷ 0 ∷ 1 ∷ 8 ∷ 0 ∷ 0 ∷ 1 ∷ 1 ∷ []

-- a tuple of a uint32 and D
abbrev pub tuple_with_d : List ℕ
tuple_with_d = 3 ∷ 4 ∷ 0 ∷ 2 ∷ 1 ∷ 0 ∷ 0 ∷ 8 ∷ 0 ∷ 0 ∷ 2 ∷ 1 ∷ 2 ∷ []

-- a union of D, a uint32 and a uint64
abbrev pub union_with_d : List ℕ
union_with_d = 4 ∷ 8 ∷ 0 ∷ 3 ∷ 8 ∷ 0 ∷ 0 ∷ 1 ∷ 0 ∷ 0 ∷ 2 ∷ 0 ∷ 0 ∷ 3 ∷ 1 ∷ 2 ∷ 3 ∷ []

-- a union whose second case is the shortest: a byte array, an int32, an int64
abbrev pub union_of_signed : List ℕ
union_of_signed = 4 ∷ 8 ∷ 0 ∷ 3 ∷ 5 ∷ 0 ∷ 0 ∷ 9 ∷ 0 ∷ 0 ∷ 10 ∷ 0 ∷ 0 ∷ 3 ∷ 1 ∷ 2 ∷ 3 ∷ []

-- a tuple of arrays of uint32 and of uint64, and of a tuple without fields
abbrev pub tuple_of_arrays : List ℕ
tuple_of_arrays = 4 ∷ 4 ∷ 0 ∷ 3 ∷ 6 ∷ 0 ∷ 0 ∷ 7 ∷ 0 ∷ 0 ∷ 4 ∷ 0 ∷ 0 ∷ 3 ∷ 1 ∷ 2 ∷ 3 ∷ []

-- the least lengths of n nodes from node k on
abbrev pub lengths_from : List ℕ → ℕ → ℕ → List (Option ℕ)
lengths_from g k zero = []
lengths_from g k (suc n) = least (tree_of g k) ∷ lengths_from g (suc k) n

-- a grammar, and the least length of each of its nodes
pub record Lengths : Type 0 where
  pub grammar : List ℕ
  pub expected : List (Option ℕ)

abbrev pub lengths : List Lengths
lengths =
    record { grammar = grammar_a; expected = Some 12 ∷ Some 4 ∷ Some 8 ∷ [] }
    ∷ record { grammar = grammar_b; expected = Some 0 ∷ [] }
    ∷ record { grammar = grammar_c; expected = Some 8 ∷ Some 0 ∷ [] }
    ∷ record { grammar = grammar_d; expected = None ∷ [] }
    ∷ record { grammar = array_of_d; expected = Some 8 ∷ None ∷ [] }
    ∷ record { grammar = tuple_with_d; expected = None ∷ Some 4 ∷ None ∷ [] }
    ∷ record { grammar = union_with_d; expected = Some 12 ∷ None ∷ Some 4 ∷ Some 8 ∷ [] }
    ∷ record { grammar = union_of_signed; expected = Some 12 ∷ Some 8 ∷ Some 4 ∷ Some 8 ∷ [] }
    ∷ record { grammar = tuple_of_arrays; expected = Some 16 ∷ Some 8 ∷ Some 8 ∷ Some 0 ∷ [] }
    ∷ []

abbrev pub LengthsHold : Type 0
LengthsHold = map (λ e. lengths_from e.grammar 0 (node_count e.grammar)) lengths ≡ map (λ e. e.expected) lengths

pub record Example : Type 0 where
  pub grammar : List ℕ
  pub bytes : List ℕ
  pub expected : Outcome Reason Verdict

abbrev pub yes : ℕ → Outcome Reason Verdict
yes begun = accepted (record { yes = true; begun = begun })

abbrev pub no : ℕ → Outcome Reason Verdict
no begun = accepted (record { yes = false; begun = begun })

abbrev pub examples : List Example
examples =
    -- A whole, cut to its least length and below it, and with a byte left over
    record { grammar = grammar_a; bytes = record_a; expected = yes 3 }
    ∷ record { grammar = grammar_a; bytes = take 13 record_a; expected = no 3 }
    ∷ record { grammar = grammar_a; bytes = take 12 record_a; expected = no 3 }
    ∷ record { grammar = grammar_a; bytes = take 11 record_a; expected = no 0 }
    ∷ record { grammar = grammar_a; bytes = []; expected = no 0 }
    ∷ record { grammar = grammar_a; bytes = record_a ++ zeros 1; expected = no 3 }
    -- B
    ∷ record { grammar = grammar_b; bytes = []; expected = yes 1 }
    ∷ record { grammar = grammar_b; bytes = zeros 1; expected = no 1 }
    -- C: a count of 3, of 4,095 and of 4,096; 7 bytes
    ∷ record { grammar = grammar_c; bytes = 3 ∷ zeros 7; expected = yes 4 }
    ∷ record { grammar = grammar_c; bytes = record_c; expected = yes 4096 }
    ∷ record { grammar = grammar_c; bytes = 0 ∷ 0x10 ∷ zeros 6; expected = no 1 }
    ∷ record { grammar = grammar_c; bytes = zeros 7; expected = no 0 }
    -- D has no value
    ∷ record { grammar = grammar_d; bytes = zeros 8; expected = no 0 }
    ∷ record { grammar = grammar_d; bytes = []; expected = no 0 }
    ∷ record { grammar = array_of_d; bytes = zeros 8; expected = yes 1 }
    ∷ record { grammar = array_of_d; bytes = 1 ∷ zeros 15; expected = no 2 }
    ∷ record { grammar = tuple_with_d; bytes = zeros 12; expected = no 0 }
    ∷ record { grammar = union_with_d; bytes = zeros 11; expected = no 0 }
    ∷ record { grammar = union_with_d; bytes = zeros 12; expected = no 2 }
    ∷ record { grammar = union_with_d; bytes = 1 ∷ zeros 11; expected = yes 2 }
    -- a tag above the cases
    ∷ record { grammar = union_of_signed; bytes = 3 ∷ zeros 11; expected = no 1 }
    ∷ record { grammar = tuple_of_arrays; bytes = zeros 16; expected = yes 4 }
    -- a value of no bytes and 8,191 rows
    ∷ record { grammar = grammar_w; bytes = []; expected = no 4097 }
    -- 1 to 5, whatever the record: of the fourth grammar no record so short could be accepted
    ∷ record { grammar = []; bytes = []; expected = refused (reason 1 (word 0)) }
    ∷ record { grammar = 1 ∷ []; bytes = []; expected = refused (reason 2 (word 4)) }
    ∷ record { grammar = leaf 11; bytes = []; expected = refused (reason 3 (word 1)) }
    ∷ record { grammar = 1 ∷ 2 ∷ 0 ∷ 1 ∷ 0 ∷ []; bytes = []; expected = refused (reason 4 (word 2)) }
    ∷ record { grammar = 1 ∷ 4 ∷ 0 ∷ 1 ∷ 1 ∷ 0 ∷ []; bytes = []; expected = refused (reason 5 (word 5)) }
    ∷ []

abbrev pub ExamplesHold : Type 0
ExamplesHold = map (λ e. accepts_of e.grammar e.bytes) examples ≡ map (λ e. e.expected) examples
