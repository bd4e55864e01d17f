-- The loop's invariant: where the next word count stands.
use Rattle.std.proofs.Common.{◌≡◌}
use Rattle.choosing.specs.Choose.{count_at}
use Rattle.choosing.proofs.fills_list.Given as goal

abbrev pub invariant-loop : goal.invariant-loop
invariant-loop l = l.at ≡ count_at l.list l.counter
