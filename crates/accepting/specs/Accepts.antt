-- What `accepts` answers: whether a record is accepted whole, and how many values were begun to tell.
use Rattle.std.specs.Prelude.{Bool, true, false, ◌||◌, List, ℕ, length, ltb, Result}
use Rattle.refusal.specs.Outcome.{Outcome, accepted, refused, map, Reason}
use Rattle.refusal.specs.declared.Refusal.{Refusal}
use Rattle.refusal.specs.Meaning.{outcome_of}
use Rattle.value.specs.Tree.{Val}
use Rattle.value.specs.Reading.{Reading, read_whole}
use Rattle.value.specs.Least.{least, below_least}
use Rattle.grammar.specs.Check.{check_grammar}
use Rattle.grammar.specs.Tree.{tree_of}
use Rattle.accepting.specs.declared.Verdict.{Verdict as CodeVerdict}

pub record Verdict : Type 0 where
  pub yes : Bool
  pub begun : ℕ

abbrev pub verdict_named : CodeVerdict → Verdict
verdict_named v = record { yes = v.accepted; begun = v.begun }

-- what the answer means
abbrev pub verdict_of : Result CodeVerdict Refusal → Outcome Reason Verdict
verdict_of r = map verdict_named (outcome_of r)

-- a no without a walk
abbrev pub unread : Verdict
unread = record { yes = false; begun = 0 }

-- the verdict of a walk, with the values begun where it ended
abbrev pub verdict : Reading Val → Verdict
verdict (accepted t) = record { yes = true; begun = t.state.begun }
verdict (refused e) = record { yes = false; begun = e.state.begun }

-- the walk, which waits for the test that it is not needed
abbrev pub unless : Bool → (Unit {0} → Verdict) → Verdict
unless true walk = unread
unless false walk = walk tt

-- whether the length decides: a record above 1,048,576 bytes, a root without a least length, or a record below it
abbrev pub decided : List ℕ → List ℕ → Bool
decided g d = ltb 1048576 (length d) || below_least (least (tree_of g 0)) (length d)

-- 1 to 5 of the grammar; then, where the length does not decide, the whole reading of capacity 4,096
unfoldable pub accepts_of : List ℕ → List ℕ → Outcome Reason Verdict
accepts_of g d = map (λ _. unless (decided g d) (λ _. verdict (read_whole 4096 d (tree_of g 0)))) (check_grammar g)
