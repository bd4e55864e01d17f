-- The least lengths of a grammar's nodes as the code holds them: 256 entries, with a mark for none, filled from the last node to the root.
use Rattle.std.specs.Prelude.{◌≡◌, cond, Option, Some, None, List, ℕ, suc, ◌≤◌, ◌<◌, length, get_or, eqb}
use Rattle.refusal.specs.Outcome.{Outcome, map, Reason}
use Rattle.value.specs.Least.{least}
use Rattle.tables.specs.Grammar.{node_count}
use Rattle.grammar.specs.Check.{check_grammar}
use Rattle.grammar.specs.Rule.{Passes}
use Rattle.grammar.specs.Tree.{tree_of}

-- the least length that an entry holds; 2^32 − 1 is the mark
unfoldable pub length_of : ℕ → Option ℕ
length_of n = cond (eqb n 4294967295) None (Some n)

-- the entries of node k and the nodes behind it are their least lengths, and behind them all is 0
pub record FilledFrom (k : ℕ) (g lengths : List ℕ) : Type 0 where
  pub size : length lengths ≡ 256
  pub entry : (j : ℕ) → k ≤ j → j < node_count g → length_of (get_or lengths j 0) ≡ least (tree_of g j)
  pub rest : (j : ℕ) → node_count g ≤ j → get_or lengths j 0 ≡ 0

-- what a node's entry is made from: the table passes, and the entries of the nodes behind it are there
pub record Ready (k : ℕ) (g lengths : List ℕ) : Type 0 where
  pub passes : Passes g
  pub below : k < node_count g
  pub behind : FilledFrom (suc k) g lengths

-- the least length of a grammar's records: the root's; 1 to 5 of the grammar
abbrev pub least_of : List ℕ → Outcome Reason (Option ℕ)
least_of g = map (λ _. least (tree_of g 0)) (check_grammar g)
