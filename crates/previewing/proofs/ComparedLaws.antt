-- The laws of what is compared: of bytes one behind the other, and of the loop over rows.
use Rattle.std.proofs.Common.{◌≡◌, refl, sym, ℕ, ◌+◌, List, [], ◌++◌, length, drop, length-append, add-zero, add_assoc, drop-drop}
use Rattle.rows.specs.Size.{own_bytes, own_bytes_at, bytes_from}
use Rattle.rows.proofs.Loop.{bytes_next}
use Rattle.previewing.specs.declared.Compared.{Compared}
use Rattle.previewing.specs.Preview.{differing}
use Rattle.previewing.specs.Compared.{compared_with}
use Rattle.previewing.proofs.Differing.{differing-none, differing_join}

-- no bytes
pub compared_nothing : (out : List ℕ) (at : ℕ) → ◌≡◌ {A = Compared} (record { at = at; changed = 0 }) (compared_with out at [])
compared_nothing out at = rw (differing-none, add-zero)

-- bytes compared right behind bytes
pub compared_more : (out : List ℕ) (at : ℕ) (xs ys : List ℕ) {first second : Compared} → first ≡ compared_with out at xs → second ≡ compared_with out first.at ys → ◌≡◌ {A = Compared} (record { at = second.at; changed = first.changed + second.changed }) (compared_with out at (xs ++ ys))
compared_more out at xs ys e f = rw (f, e, differing_join, length-append, drop-drop, add_assoc)

-- the own bytes of i rows, and those of row i
pub rows_next : (t s out : List ℕ) (index i : ℕ) {at changed : ℕ} {r : Compared} → at ≡ index + length (bytes_from t s 0 i) → changed ≡ differing (drop index out) (bytes_from t s 0 i) → r ≡ compared_with out at (own_bytes_at t s i) → (r.at ≡ index + length (bytes_from t s 0 (i + 1))) × (changed + r.changed ≡ differing (drop index out) (bytes_from t s 0 (i + 1)))
rows_next t s out index i a c e =
    let n = sym (bytes_next own_bytes t s i) in
    rw (n, e, a, c, length-append, differing_join, drop-drop) (add_assoc _ _ _, refl)
