-- Readings by computation.
use Rattle.std.proofs.Common.{◌≡◌, refl, [], ◌∷◌}
use Rattle.refusal.specs.Outcome.{refused}
use Rattle.packed.specs.Packed.{unpack_little_endian}
use Rattle.value.specs.Tree.{GConstant, GArray, GTuple, gnil, gcons}
use Rattle.value.specs.Reading.{stop, start, claim, take_number, read_body, read_val}

-- number, place and rows do not tell how many values were begun: with one row lent, an array of one constant and a tuple of one
-- constant are both refused with 8 at byte 0, the array after one value by its count, the tuple after two by its field
pub array-of-one : read_val 1 (1 ∷ 0 ∷ 0 ∷ 0 ∷ 0 ∷ 0 ∷ 0 ∷ 0 ∷ []) (GArray GConstant) (start 0) ≡ refused (stop 8 (record { at = 0; begun = 1 }))
unfolding claim take_number unpack_little_endian read_body
array-of-one = refl

pub tuple-of-one : read_val 1 [] (GTuple (gcons GConstant gnil)) (start 0) ≡ refused (stop 8 (record { at = 0; begun = 2 }))
unfolding claim read_body
tuple-of-one = refl

-- a count of 2^64 − 1 is refused at once
pub count-of-all : read_val 4096 (255 ∷ 255 ∷ 255 ∷ 255 ∷ 255 ∷ 255 ∷ 255 ∷ 255 ∷ []) (GArray GConstant) (start 0) ≡ refused (stop 8 (record { at = 0; begun = 1 }))
unfolding claim take_number unpack_little_endian read_body
count-of-all = refl
