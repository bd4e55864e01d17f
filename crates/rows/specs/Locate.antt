-- Where the array of a row lies in the store.
use Rattle.std.specs.Prelude.{◌≡◌, ℕ, ◌+◌, ◌*◌, List, take, drop, ltb}
use Rattle.std.specs.Borrow.{Bor}
use Rattle.refusal.specs.Outcome.{Outcome, accepted, refused, bind, test, Reason, reason, row}
use Rattle.value.specs.Kinds.{element_width, Kind, kind_of, constant, number, array, tuple, elements, union, other}
use Rattle.tables.specs.Row.{Row, row_at}
use Rattle.rows.specs.Walk.{walk}

-- the first byte of a part of the store, and how many
pub record Part : Type 0 where
  pub start : ℕ
  pub size : ℕ

-- row i of n: the walk's refusal, else refusal m at that row where there is none
unfoldable pub look_up : ℕ → List ℕ → ℕ → List ℕ → ℕ → Outcome Reason Row
look_up m t n s i = bind (walk t n s) (λ _. test (ltb i n) (reason m (row i)) (λ _. accepted (row_at t i)))

-- the elements of a row; a row of another kind is refused
unfoldable pub elements_part : Kind → Row → Reason → Outcome Reason Part
elements_part constant r e = refused e
elements_part (number k) r e = refused e
elements_part array r e = refused e
elements_part tuple r e = refused e
elements_part (elements k) r e = accepted (record { start = r.word3; size = element_width k * r.word2 })
elements_part union r e = refused e
elements_part other r e = refused e

-- what the locator answers: 6, 12, 13, 14, then 18 where there is no such row or it is of another kind
unfoldable pub locate_array : List ℕ → ℕ → List ℕ → ℕ → Outcome Reason Part
locate_array t n s i = bind (look_up 18 t n s i) (λ r. elements_part (kind_of r.kind) r (reason 18 (row i)))

-- the part that the locator gives; where it refuses, the empty part at place 0
abbrev pub given : Outcome Reason Part → Part
given (accepted p) = p
given (refused e) = record { start = 0; size = 0 }

-- a reference to a part of the store: its bytes, and where it points, which an empty part has too
pub record PartOf (store : Bor (List ℕ)) (o : Outcome Reason Part) (part : Bor (List ℕ)) : Type 0 where
  pub bytes : part.now ≡ take (given o).size (drop (given o).start store.now)
  pub block : part.ref_ptr.0 ≡ store.ref_ptr.0
  pub offset : part.ref_ptr.1 ≡ store.ref_ptr.1 + (given o).start
