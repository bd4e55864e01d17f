-- What `{}` prints of a refusal and of its place.
use Rattle.std.specs.Prelude.{List, ℕ, ◌++◌, codes, decimal}
use Rattle.refusal.specs.declared.Place.{Place}
use Rattle.refusal.specs.declared.Place.TheVariants.{Word, Byte, Row}
use Rattle.refusal.specs.declared.Refusal.{Refusal}

-- what it counts, and its number
abbrev pub place_text : Place → List ℕ
place_text (Word n) = codes "word " ++ decimal n
place_text (Byte n) = codes "byte " ++ decimal n
place_text (Row n) = codes "row " ++ decimal n

-- the number, then the place: `refused 9 byte 4`
abbrev pub refusal_text : Refusal → List ℕ
refusal_text r = codes "refused " ++ (decimal r.number ++ (codes " " ++ place_text r.place))
