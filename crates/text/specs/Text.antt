-- The text that the program prints, in ASCII: the lines of rows, or of a refusal.
use Rattle.std.specs.Prelude.{List, [], ◌∷◌, ◌++◌, ℕ, zero, suc, ◌+◌, ◌*◌, codes}
use Rattle.refusal.specs.Outcome.{Location, word, byte, row, Reason, reason}
use Rattle.tables.specs.Row.{row_width, Row, row_at}
use Rattle.text.specs.Digits.{digits}

abbrev pub space : ℕ
space = 32

abbrev pub newline : ℕ
newline = 10

-- a number, and the byte behind it
abbrev pub numeral : ℕ → ℕ → List ℕ
numeral n end = digits n ++ (end ∷ [])

-- a row's line: kind, span, word 2, word 3, size
abbrev pub line : Row → List ℕ
line r = numeral r.kind space ++ (numeral r.span space ++ (numeral r.word2 space ++ (numeral r.word3 space ++ numeral r.size newline)))

-- the lines of rows 0 to n − 1
unfoldable pub lines_of : List ℕ → ℕ → List ℕ
lines_of t zero = []
lines_of t (suc n) = lines_of t n ++ line (row_at t n)

-- the row count, then the rows
abbrev pub rows_text : List ℕ → ℕ → List ℕ
rows_text t n = codes "rows " ++ (numeral n newline ++ lines_of t n)

-- a place: what it counts, and its number
abbrev pub place_text : Location → List ℕ
place_text (word n) = codes "word " ++ numeral n newline
place_text (byte n) = codes "byte " ++ numeral n newline
place_text (row n) = codes "row " ++ numeral n newline

-- the line of a refusal: its number, then its place
abbrev pub refusal_text : Reason → List ℕ
refusal_text (reason n place) = codes "refused " ++ (numeral n space ++ place_text place)

-- how long each part is at most: the 20 digits of a 64-bit number and the byte behind them, a line, a place, a refusal
abbrev pub most_numeral : ℕ
most_numeral = 21

abbrev pub most_line : ℕ
most_line = row_width * most_numeral

abbrev pub most_place : ℕ
most_place = 5 + most_numeral

abbrev pub most_refusal : ℕ
most_refusal = 8 + (most_numeral + most_place)

-- `rows `, the row count and the lines of so many rows; no text has more than 1,024
abbrev pub most_rows_text : ℕ → ℕ
most_rows_text n = 5 + (most_numeral + most_line * n)

abbrev pub most_text : ℕ
most_text = most_rows_text 1024
