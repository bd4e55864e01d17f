-- What a verdict means, in document 02's terms: when it is yes, and when there was no walk.
use Rattle.std.specs.Prelude.{◌≡◌, true, false, ◌↔◌, List, ℕ, ◌^◌, ◌≤◌, ◌<◌, length, Some, None}
use Rattle.refusal.specs.Outcome.{accepted, refused, Reason}
use Rattle.packed.specs.Packed.{Bytes, Below}
use Rattle.value.specs.Tree.{Val}
use Rattle.value.specs.Step.{Step}
use Rattle.value.specs.Reading.{State, begun_of, read_whole}
use Rattle.value.specs.Least.{least}
use Rattle.grammar.specs.Check.{check_grammar}
use Rattle.grammar.specs.Tree.{tree_of}
use Rattle.reading.specs.Calls.{demarshall_of}
use Rattle.choosing.specs.Choose.{grammar_of, try_of}
use Rattle.accepting.specs.Accepts.{Verdict, unread, accepts_of}

-- "yes comes exactly when the full check at capacity 4,096 accepts", and then its count is that of the rows
abbrev pub YesExactly : List ℕ → List ℕ → Type 0
YesExactly g d = (n : ℕ) → (accepts_of g d ≡ accepted (record { yes = true; begun = n })) ↔ ((t : Step State Val) × (demarshall_of g d 4096 ≡ accepted t) × (t.state.begun ≡ n))

-- and no, where the grammar passes, exactly when it refuses
abbrev pub NoExactly : List ℕ → List ℕ → Type 0
NoExactly g d = ((n : ℕ) × (accepts_of g d ≡ accepted (record { yes = false; begun = n }))) ↔ ((check_grammar g ≡ accepted tt) × ((e : Reason) × (demarshall_of g d 4096 ≡ refused e)))

-- "A record below the root's least length, or a root with none, is answered no without a walk", and "a record too long is a no without a walk"
pub data NoWalk (g d : List ℕ) : Type 0 where
  too_long : 1048576 < length d → NoWalk g d
  no_value : least (tree_of g 0) ≡ None → NoWalk g d
  too_short : (l : ℕ) → least (tree_of g 0) ≡ Some l → length d < l → NoWalk g d

-- "Yes and no carry the number of values begun, counted as the chooser does for a try, 0 exactly when there was no walk"
pub record Counted (g d : List ℕ) (v : Verdict) : Type 0 where
  pub zero : (v.begun ≡ 0) ↔ NoWalk g d
  pub walked : ¬ (NoWalk g d) → v.begun ≡ begun_of (read_whole 4096 d (tree_of g 0))
  -- a refused walk begins at most one value more than there are rows
  pub most : v.begun ≤ 4097

pub record AcceptsRule : Type 0 where
  pub unwalked : (g d : List ℕ) → check_grammar g ≡ accepted tt → NoWalk g d → accepts_of g d ≡ accepted unread
  -- what is accepted is the bytes of a value, so it is not below the least length; for this words must be u32s, and bytes bytes
  pub yes : (g d : List ℕ) → Below (2 ^ 32) g → Bytes d → YesExactly g d
  pub no : (g d : List ℕ) → Below (2 ^ 32) g → Bytes d → NoExactly g d
  pub count : (g d : List ℕ) (v : Verdict) → accepts_of g d ≡ accepted v → Counted g d v
  -- the chooser's try of the same grammar, wherever it stands in a list
  pub as_a_try : (l d : List ℕ) (j : ℕ) (v : Verdict) → accepts_of (grammar_of l j) d ≡ accepted v → ¬ (NoWalk (grammar_of l j) d) → v.begun ≡ begun_of (try_of l d j)
