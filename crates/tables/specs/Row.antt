-- The value row of document 01, with the fifth word of document 02: which word is which.
use Rattle.std.specs.Prelude.{ℕ, ◌+◌, ◌*◌, List, [], ◌∷◌, get_or}
use Rattle.packed.specs.Packed.{put_within}

-- the words of a row
abbrev pub row_width : ℕ
row_width = 5

-- kind, span, word 2, word 3, and the size of the row's value in bytes
pub record Row : Type 0 where
  pub kind : ℕ
  pub span : ℕ
  pub word2 : ℕ
  pub word3 : ℕ
  pub size : ℕ

abbrev pub row_words : Row → List ℕ
row_words r = r.kind ∷ r.span ∷ r.word2 ∷ r.word3 ∷ r.size ∷ []

-- row i of a table; a word that is not there is 0
abbrev pub row_at : List ℕ → ℕ → Row
row_at t i = record {
  kind = get_or t (row_width * i) 0;
  span = get_or t (row_width * i + 1) 0;
  word2 = get_or t (row_width * i + 2) 0;
  word3 = get_or t (row_width * i + 3) 0;
  size = get_or t (row_width * i + 4) 0;
}

-- words laid over a table from row i on: all of them where the table has room for all, else none
abbrev pub laid : List ℕ → ℕ → List ℕ → List ℕ
laid t i ws = put_within t (row_width * i) ws
