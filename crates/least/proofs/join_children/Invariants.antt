-- The loop's invariant: what the children from child i on give.
use Rattle.std.proofs.Common.{◌≡◌, ◌<◌, ◌^◌}
use Rattle.tables.specs.Grammar.{first_word, count_word}
use Rattle.least.specs.Least.{length_of}
use Rattle.least.proofs.Laws.{joined_from}
use Rattle.least.proofs.join_children.Given as goal

abbrev pub invariant-loop-i : goal.invariant-loop-i
invariant-loop-i g l = (l.joined < 2 ^ 32) × (length_of l.joined ≡ joined_from g.joining (length_of l.no_child) l.grammar (first_word l.grammar l.k) (count_word l.grammar l.k) l.i)
