-- The lines of the rows so far are put, each of at most `most_line` bytes.
use Rattle.std.proofs.Common.{◌≡◌, ◌++◌, ◌*◌, ◌≤◌, length}
use Rattle.text.specs.Text.{lines_of, most_line}
use Rattle.text.proofs.Text.push_lines.Given as goal

abbrev pub invariant-loop-row : goal.invariant-loop-row
invariant-loop-row l = (l.self ≡ l.initial.self ++ lines_of l.rows l.row) × (length (lines_of l.rows l.row) ≤ most_line * l.row)
