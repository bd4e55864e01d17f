-- The layout of a value as rows, in preorder.
use Rattle.std.specs.Prelude.{ℕ, ◌+◌, List, [], ◌++◌, length}
use Rattle.value.specs.Kinds.{number_kind, elements_kind}
use Rattle.value.specs.Tree.{Val, Vals, VConstant, VNumber, VArray, VTuple, VNumberArray, VCase, vnil, vcons, seq_v, SizeOfV, row_count}
use Rattle.tables.specs.Row.{Row, row_words}

-- the row of v itself. Word 2 is 0 for a constant, the number, of kinds 9 and 10 its pattern, the element count, or the tag; word 3 is the
-- place of the first element for kinds 5 to 7, else 0; the fifth word is the size of v
unfoldable pub own_row : Val → ℕ → Row
own_row VConstant place = record { kind = 0; span = row_count VConstant; word2 = 0; word3 = 0; size = SizeOfV VConstant }
own_row (VNumber k n) place = record { kind = number_kind k; span = row_count (VNumber k n); word2 = n; word3 = 0; size = SizeOfV (VNumber k n) }
own_row (VArray vs) place = record { kind = 3; span = row_count (VArray vs); word2 = length (seq_v vs); word3 = 0; size = SizeOfV (VArray vs) }
own_row (VTuple vs) place = record { kind = 4; span = row_count (VTuple vs); word2 = length (seq_v vs); word3 = 0; size = SizeOfV (VTuple vs) }
own_row (VNumberArray k ns) place = record { kind = elements_kind k; span = row_count (VNumberArray k ns); word2 = length ns; word3 = place; size = SizeOfV (VNumberArray k ns) }
own_row (VCase c v) place = record { kind = 8; span = row_count (VCase c v); word2 = c; word3 = 0; size = SizeOfV (VCase c v) }

-- the words of the rows of v, whose bytes start at byte p of the store: its own row, then its children's.
-- What follows a count or a tag starts 8 bytes on, an array's elements too
unfoldable mutual
  pub rows_of : Val → ℕ → List ℕ
  rows_of VConstant p = row_words (own_row VConstant (p + 8))
  rows_of (VNumber k n) p = row_words (own_row (VNumber k n) (p + 8))
  rows_of (VArray vs) p = row_words (own_row (VArray vs) (p + 8)) ++ rows_of_all vs (p + 8)
  rows_of (VTuple vs) p = row_words (own_row (VTuple vs) (p + 8)) ++ rows_of_all vs p
  rows_of (VNumberArray k ns) p = row_words (own_row (VNumberArray k ns) (p + 8))
  rows_of (VCase c v) p = row_words (own_row (VCase c v) (p + 8)) ++ rows_of v (p + 8)

  -- one behind the other
  pub rows_of_all : Vals → ℕ → List ℕ
  rows_of_all vnil p = []
  rows_of_all (vcons v vs) p = rows_of v p ++ rows_of_all vs (p + SizeOfV v)
