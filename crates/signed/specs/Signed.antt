-- The signed number of a row.
use Rattle.std.specs.Prelude.{ℕ, List, ℤ}
use Rattle.refusal.specs.Outcome.{Outcome, accepted, refused, bind, test, Reason, reason, row}
use Rattle.value.specs.Kinds.{width, Kind, kind_of, constant, number, array, tuple, elements, union, other}
use Rattle.value.specs.Signed.{is_signed, signed_of}
use Rattle.tables.specs.Row.{Row}
use Rattle.rows.specs.Locate.{look_up}

-- the signed number of a row, whose word 2 is its pattern; a row of another kind is refused
unfoldable pub signed_of_row : Kind → Row → Reason → Outcome Reason ℤ
signed_of_row constant r e = refused e
signed_of_row (number k) r e = test (is_signed k) e (λ _. accepted (signed_of (width k) r.word2))
signed_of_row array r e = refused e
signed_of_row tuple r e = refused e
signed_of_row (elements k) r e = refused e
signed_of_row union r e = refused e
signed_of_row other r e = refused e

-- what `signed_number` answers: 6, 12, 13, 14, then 20 where there is no such row or it is of another kind
unfoldable pub signed_number_of : List ℕ → ℕ → List ℕ → ℕ → Outcome Reason ℤ
signed_number_of t n s i = bind (look_up 20 t n s i) (λ r. signed_of_row (kind_of r.kind) r (reason 20 (row i)))
