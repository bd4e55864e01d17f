-- The loop's invariant: where the next word count stands, and what is left from here decides the whole.
use Rattle.std.proofs.Common.{◌≡◌, ◌-◌}
use Rattle.choosing.specs.Choose.{list_count, count_at, check_grammars}
use Rattle.choosing.proofs.check_grammars.Given as goal

abbrev pub invariant-loop-j : goal.invariant-loop-j
invariant-loop-j l = (l.at ≡ count_at l.list l.j) × (check_grammars l.list l.j (l.j-end - l.j) ≡ check_grammars l.list 0 (list_count l.list))
