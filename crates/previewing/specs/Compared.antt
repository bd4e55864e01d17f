-- What the functions that compare a value's bytes with the output hand on.
use Rattle.std.specs.Prelude.{List, ℕ, ◌+◌, length, drop}
use Rattle.previewing.specs.declared.Compared.{Compared}
use Rattle.previewing.specs.Preview.{differing}

-- the bytes bs compared with those of the output from `at` on
abbrev pub compared_with : List ℕ → ℕ → List ℕ → Compared
compared_with out at bs = record { at = at + length bs; changed = differing (drop at out) bs }
