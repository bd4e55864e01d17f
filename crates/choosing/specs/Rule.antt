-- What the chooser's answer means, in document 02's terms: which grammar is chosen, and how many values are begun.
use Rattle.std.specs.Prelude.{◌≡◌, ◌↔◌, List, ℕ, zero, suc, ◌+◌, ◌*◌, ◌≤◌, ◌<◌, length, get_or}
use Rattle.refusal.specs.Outcome.{accepted}
use Rattle.value.specs.Tree.{Val}
use Rattle.value.specs.Step.{Step}
use Rattle.value.specs.Reading.{State, begun_of}
use Rattle.grammar.specs.Check.{check_grammar}
use Rattle.reading.specs.Calls.{demarshall_of}
use Rattle.choosing.specs.Choose.{list_count, count_at, grammar_of, try_of, Choice, choose_of}

-- "A list count outside 1 to 16, a cut list or words left over is 21": a list with none of these
pub record ListRule (l : List ℕ) : Type 0 where
  pub some : 0 < list_count l
  pub most : list_count l ≤ 16
  -- no cut list: the word count of every grammar is there, and so are its words
  pub whole : (j : ℕ) → j < list_count l → count_at l j + get_or l (count_at l j) 0 < length l
  -- and no words left over behind the last grammar
  pub none : length l ≤ count_at l (list_count l)

-- "All grammars are checked": the list is laid out, and each of its grammars passes
pub record ListPasses (l : List ℕ) : Type 0 where
  pub rule : ListRule l
  pub grammars : (j : ℕ) → j < list_count l → check_grammar (grammar_of l j) ≡ accepted tt

-- grammar j "accepts the record whole, with capacity 4,096"
abbrev pub Accepts : List ℕ → List ℕ → ℕ → Type 0
Accepts l d j = (t : Step State Val) × (demarshall_of (grammar_of l j) d 4096 ≡ accepted t)

-- "the values begun" over tries 0 to n − 1, whichever of them are accepted
unfoldable pub begun_over : List ℕ → List ℕ → ℕ → ℕ
begun_over l d zero = 0
begun_over l d (suc n) = begun_over l d n + begun_of (try_of l d n)

-- c is "the number, counted from 0, of the first that accepts the record whole", and "the values begun over all tries"
pub record IsFirst (l d : List ℕ) (c : Choice) : Type 0 where
  pub passes : ListPasses l
  pub short : length d ≤ 1048576
  pub below : c.number < list_count l
  pub accepts : Accepts l d c.number
  pub first : (j : ℕ) → j < c.number → ¬ (Accepts l d j)
  pub begun : c.begun ≡ begun_over l d (suc c.number)

abbrev pub ChoosesFirst : Type 0
ChoosesFirst = (l d : List ℕ) (c : Choice) → (choose_of l d ≡ accepted c) ↔ IsFirst l d c

-- how many values are begun
pub record BegunBounds (c : Choice) : Type 0 where
  -- every try begins at least one value, its root
  pub least : c.number < c.begun
  -- a refused try begins at most 4,097, the accepted one at most 4,096
  pub most : c.begun < 4097 * suc c.number
  -- "at most 65,552"
  pub figure : c.begun ≤ 65552

abbrev pub BegunWithin : Type 0
BegunWithin = (l d : List ℕ) (c : Choice) → choose_of l d ≡ accepted c → BegunBounds c
