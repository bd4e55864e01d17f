-- The loop's invariant: where the next word count stands, at most 4,097 values begun by each try, and what is left from here decides the whole.
use Rattle.std.proofs.Common.{◌≡◌, ◌-◌, ◌*◌, ◌≤◌}
use Rattle.choosing.specs.Choose.{list_count, count_at, try_grammars}
use Rattle.choosing.proofs.try_grammars.Given as goal

abbrev pub invariant-loop-j : goal.invariant-loop-j
invariant-loop-j l = (l.at ≡ count_at l.list l.j) × (l.begun ≤ 4097 * l.j) × (try_grammars l.list l.record l.j l.begun (l.j-end - l.j) ≡ try_grammars l.list l.record 0 0 (list_count l.list))
