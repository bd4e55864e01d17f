-- What `choose_grammar` answers: which grammar of a list is the first that accepts a record whole, or what is refused and why.
use Rattle.std.specs.Prelude.{◌&&◌, List, ℕ, zero, suc, ◌+◌, length, get_or, take, drop, leb, ltb, eqb, Result}
use Rattle.refusal.specs.Outcome.{Outcome, accepted, refused, bind, test, map, Location, word, byte, row, Reason, reason}
use Rattle.refusal.specs.declared.Refusal.{Refusal}
use Rattle.refusal.specs.Meaning.{outcome_of}
use Rattle.value.specs.Tree.{Val}
use Rattle.value.specs.Reading.{Reading, read_whole}
use Rattle.grammar.specs.Check.{check_grammar}
use Rattle.grammar.specs.Tree.{tree_of}
use Rattle.admission.specs.Admission.{check_length}
use Rattle.choosing.specs.declared.Chosen.{Chosen}

-- ---- the list: a count, then each grammar after its word count

-- the count of grammars; 0 in a list of no words
abbrev pub list_count : List ℕ → ℕ
list_count l = get_or l 0 0

-- the word where the word count of grammar j stands; where j is the count of grammars, the word behind the last one
unfoldable pub count_at : List ℕ → ℕ → ℕ
count_at l zero = 1
count_at l (suc j) = count_at l j + 1 + get_or l (count_at l j) 0

-- the words of grammar j, which begin behind its word count
abbrev pub grammar_of : List ℕ → ℕ → List ℕ
grammar_of l j = take (get_or l (count_at l j) 0) (drop (count_at l j + 1) l)

-- 21, unless the count is from 1 to 16 and the last grammar ends with the list: in a cut list it ends past the list's end, and where words
-- are left over, before it
unfoldable pub check_list : List ℕ → Outcome Reason (Unit {0})
check_list l =
    test (ltb 0 (list_count l) && leb (list_count l) 16) (reason 21 (word 0))
    (λ _. test (eqb (count_at l (list_count l)) (length l)) (reason 21 (word 0)) accepted)

-- a place in a grammar whose words begin at word n of the list
abbrev pub placed : ℕ → Location → Location
placed n (word w) = word (n + w)
placed n (byte b) = byte b
placed n (row r) = row r

abbrev pub placed_reason : ℕ → Reason → Reason
placed_reason n (reason m p) = reason m (placed n p)

abbrev pub in_list : {A : Type 0} → ℕ → Outcome Reason A → Outcome Reason A
in_list n (accepted a) = accepted a
in_list n (refused e) = refused (placed_reason n e)

-- 1 to 5 of n grammars from number j on, placed by word of the list
unfoldable pub check_grammars : List ℕ → ℕ → ℕ → Outcome Reason (Unit {0})
check_grammars l j zero = accepted tt
check_grammars l j (suc n) = bind (in_list (count_at l j + 1) (check_grammar (grammar_of l j))) (λ _. check_grammars l (suc j) n)

-- ---- the tries

-- grammar j's try: the whole reading, of capacity 4,096
abbrev pub try_of : List ℕ → List ℕ → ℕ → Reading Val
try_of l d j = read_whole 4096 d (tree_of (grammar_of l j) 0)

-- the number of the grammar, counted from 0, and the values begun over all tries
pub record Choice : Type 0 where
  pub number : ℕ
  pub begun : ℕ

-- what the answer means
abbrev pub chosen_of : Result Chosen Refusal → Outcome Reason Choice
chosen_of r = map (λ c. record { number = c.number; begun = c.begun }) (outcome_of r)

-- behind grammar j's try, where the tries before it have begun so many values: the grammar is chosen where its try is accepted, else what
-- follows takes the values begun so far
abbrev pub tried : ℕ → ℕ → Reading Val → (ℕ → Outcome Reason Choice) → Outcome Reason Choice
tried j before (accepted t) k = accepted (record { number = j; begun = before + t.state.begun })
tried j before (refused e) k = k (before + e.state.begun)

-- the tries of n grammars from number j on, up to the first that is accepted; none: 22
unfoldable pub try_grammars : List ℕ → List ℕ → ℕ → ℕ → ℕ → Outcome Reason Choice
try_grammars l d j before zero = refused (reason 22 (byte 0))
try_grammars l d j before (suc n) = tried j before (try_of l d j) (λ begun. try_grammars l d (suc j) begun n)

-- 21 of the list, 1 to 5 of all its grammars, 6 of the record, then the tries
unfoldable pub choose_of : List ℕ → List ℕ → Outcome Reason Choice
choose_of l d =
    bind (check_list l)
    (λ _. bind (check_grammars l 0 (list_count l))
    (λ _. bind (check_length d)
    (λ _. try_grammars l d 0 0 (list_count l))))
