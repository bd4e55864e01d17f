-- The loop's invariant: the entries of node k and the nodes behind it are there.
use Rattle.least.specs.Least.{FilledFrom}
use Rattle.least.proofs.fill.Given as goal

abbrev pub invariant-loop-k : goal.invariant-loop-k
invariant-loop-k l = FilledFrom l.k l.grammar l.entries
