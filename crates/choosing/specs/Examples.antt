-- Examples of choices, as one list.
use Rattle.std.specs.Prelude.{◌≡◌, List, [], ◌∷◌, ◌++◌, map, ℕ, zero, suc, ◌+◌, length}
use Rattle.refusal.specs.Outcome.{Outcome, accepted, refused, Reason, reason, word, byte}
use Rattle.choosing.specs.Choose.{Choice, choose_of}

pub record Example : Type 0 where
  pub list : List ℕ
  pub bytes : List ℕ
  pub expected : Outcome Reason Choice

abbrev pub grammar : ℕ → ℕ → Outcome Reason Choice
grammar number begun = accepted (record { number = number; begun = begun })

-- the list of so many grammars: each after its word count, one behind the other
abbrev pub counted : List (List ℕ) → List ℕ
counted [] = []
counted (g ∷ gs) = length g ∷ (g ++ counted gs)

abbrev pub list_of : List (List ℕ) → List ℕ
list_of gs = length gs ∷ counted gs

abbrev pub times : ℕ → List ℕ → List (List ℕ) → List (List ℕ)
times zero g gs = gs
times (suc n) g gs = g ∷ times n g gs

-- a node of a kind without children; the bench's examples B, a constant, and D, a union without cases
abbrev pub leaf : ℕ → List ℕ
leaf kind = 1 ∷ kind ∷ 0 ∷ 0 ∷ 0 ∷ []

abbrev pub grammar_b : List ℕ
grammar_b = leaf 0

abbrev pub grammar_d : List ℕ
grammar_d = leaf 8

-- the bench's examples A, a tuple of a uint32 and a byte array, with its record, and C, an array of constants
abbrev pub grammar_a : List ℕ
grammar_a = 3 ∷ 4 ∷ 0 ∷ 2 ∷ 1 ∷ 0 ∷ 0 ∷ 5 ∷ 0 ∷ 0 ∷ 2 ∷ 1 ∷ 2 ∷ []

abbrev pub record_a : List ℕ
record_a = 7 ∷ 0 ∷ 0 ∷ 0 ∷ 2 ∷ 0 ∷ 0 ∷ 0 ∷ 0 ∷ 0 ∷ 0 ∷ 0 ∷ 0x41 ∷ 0x42 ∷ []

abbrev pub grammar_c : List ℕ
grammar_c = 2 ∷ 3 ∷ 0 ∷ 1 ∷ 0 ∷ 0 ∷ 0 ∷ 1 ∷ 1 ∷ []

-- n nodes from node k on, each a tuple of the next node twice, and their child words
abbrev pub pairs : ℕ → ℕ → List ℕ → List ℕ
pairs zero k rest = rest
pairs (suc n) k rest = 4 ∷ (k + k) ∷ 2 ∷ pairs n (suc k) rest

abbrev pub twice : ℕ → ℕ → List ℕ
twice zero k = []
twice (suc n) k = suc k ∷ suc k ∷ twice n (suc k)

-- 12 of them over a constant: a value has 8,191 rows, more than the capacity
abbrev pub grammar_w : List ℕ
grammar_w = 13 ∷ pairs 12 0 (0 ∷ 0 ∷ 0 ∷ 24 ∷ twice 12 0)

-- the count 4,095 in 8 bytes: a record of C whose value has as many rows as the capacity
abbrev pub record_c : List ℕ
record_c = 0xff ∷ 0x0f ∷ 0 ∷ 0 ∷ 0 ∷ 0 ∷ 0 ∷ 0 ∷ []

abbrev pub zeros : ℕ → List ℕ
zeros zero = []
zeros (suc n) = 0 ∷ zeros n

abbrev pub examples : List Example
examples =
    -- a uint64, a uint32, a constant: 8 bytes, 4, none and one
    record { list = list_of (leaf 2 ∷ leaf 1 ∷ leaf 0 ∷ []); bytes = zeros 8; expected = grammar 0 1 }
    ∷ record { list = list_of (leaf 2 ∷ leaf 1 ∷ leaf 0 ∷ []); bytes = zeros 4; expected = grammar 1 2 }
    ∷ record { list = list_of (leaf 2 ∷ leaf 1 ∷ leaf 0 ∷ []); bytes = []; expected = grammar 2 3 }
    ∷ record { list = list_of (leaf 2 ∷ leaf 1 ∷ leaf 0 ∷ []); bytes = zeros 1; expected = refused (reason 22 (byte 0)) }
    -- two that accept: the first
    ∷ record { list = list_of (leaf 1 ∷ leaf 9 ∷ []); bytes = zeros 4; expected = grammar 0 1 }
    -- a uint32, C and A: one value begun by the try that 11 ends, one by the try that 8 ends at a count, three by A
    ∷ record { list = list_of (leaf 1 ∷ grammar_c ∷ grammar_a ∷ []); bytes = record_a; expected = grammar 2 5 }
    -- a pair of uint32 cut behind the first: three begun, the pair, both numbers; a tag above the cases, and a byte array cut behind its count
    ∷ record { list = list_of ((3 ∷ 4 ∷ 0 ∷ 2 ∷ 1 ∷ 0 ∷ 0 ∷ 1 ∷ 0 ∷ 0 ∷ 2 ∷ 1 ∷ 2 ∷ []) ∷ leaf 1 ∷ []); bytes = zeros 4; expected = grammar 1 4 }
    ∷ record { list = list_of (grammar_d ∷ leaf 2 ∷ []); bytes = zeros 8; expected = grammar 1 2 }
    ∷ record { list = list_of (leaf 5 ∷ leaf 2 ∷ []); bytes = 1 ∷ zeros 7; expected = grammar 1 2 }
    -- 16 grammars, of which the last accepts
    ∷ record { list = list_of (times 15 grammar_d (grammar_b ∷ [])); bytes = []; expected = grammar 15 16 }
    -- the most values that a refused try can begin, one more than the capacity, and the most that an accepted one can
    ∷ record { list = list_of (grammar_w ∷ grammar_c ∷ []); bytes = record_c; expected = grammar 1 8193 }
    -- 21: no word, no grammar, 17 grammars, no word count, a word missing, 2^32 − 1 words, a word left over
    ∷ record { list = []; bytes = []; expected = refused (reason 21 (word 0)) }
    ∷ record { list = 0 ∷ []; bytes = []; expected = refused (reason 21 (word 0)) }
    ∷ record { list = list_of (times 17 grammar_b []); bytes = []; expected = refused (reason 21 (word 0)) }
    ∷ record { list = 1 ∷ []; bytes = []; expected = refused (reason 21 (word 0)) }
    ∷ record { list = 1 ∷ 5 ∷ 1 ∷ 0 ∷ 0 ∷ 0 ∷ []; bytes = []; expected = refused (reason 21 (word 0)) }
    ∷ record { list = 1 ∷ 4294967295 ∷ []; bytes = []; expected = refused (reason 21 (word 0)) }
    -- 2^32 − 2 words: added in 32 bits the list would end with its length; and a grammar of no words in a cut list
    ∷ record { list = 2 ∷ 4294967294 ∷ 0 ∷ []; bytes = []; expected = refused (reason 21 (word 0)) }
    ∷ record { list = 2 ∷ 0 ∷ []; bytes = []; expected = refused (reason 21 (word 0)) }
    ∷ record { list = list_of (grammar_b ∷ []) ++ (0 ∷ []); bytes = []; expected = refused (reason 21 (word 0)) }
    -- a grammar of no words: 1 at the word behind its count, here the length of the list
    ∷ record { list = list_of ([] ∷ []); bytes = []; expected = refused (reason 1 (word 2)) }
    -- 256 nodes in one word: 2 at a word far behind the list
    ∷ record { list = list_of ((256 ∷ []) ∷ []); bytes = []; expected = refused (reason 2 (word 771)) }
    -- behind B, which accepts: no words, a kind above 10, a uint64 with a child, example F
    ∷ record { list = list_of (grammar_b ∷ [] ∷ []); bytes = []; expected = refused (reason 1 (word 8)) }
    ∷ record { list = list_of (grammar_b ∷ leaf 11 ∷ []); bytes = []; expected = refused (reason 3 (word 9)) }
    ∷ record { list = list_of (grammar_b ∷ (1 ∷ 2 ∷ 0 ∷ 1 ∷ 0 ∷ []) ∷ []); bytes = []; expected = refused (reason 4 (word 10)) }
    ∷ record { list = list_of (grammar_b ∷ (1 ∷ 4 ∷ 0 ∷ 1 ∷ 1 ∷ 0 ∷ []) ∷ []); bytes = []; expected = refused (reason 5 (word 13)) }
    ∷ []

abbrev pub ExamplesHold : Type 0
ExamplesHold = map (λ e. choose_of e.list e.bytes) examples ≡ map (λ e. e.expected) examples
