-- What the call means, in document 02's terms.
use Rattle.std.specs.Prelude.{◌≡◌, true, List, ℕ, ◌<◌, ℤ}
use Rattle.value.specs.Kinds.{Number, width, number_kind}
use Rattle.value.specs.Signed.{is_signed, TwosComplement}
use Rattle.value.specs.Tree.{Val}
use Rattle.tables.specs.Row.{row_at}
use Rattle.rows.specs.Rule.{TableOf}

-- z is the signed number of row i: the rows, with a store, are a table of a value, row i is one of them and of kind 9 or 10, and z is the
-- number of its word 2 in two's complement, over the kind's width
pub record NumberOf (t : List ℕ) (n : ℕ) (s : List ℕ) (i : ℕ) (z : ℤ) : Type 0 where
  pub value : Val
  pub table : TableOf t n s value
  pub below : i < n
  pub kind : Number
  pub signed : is_signed kind ≡ true
  pub word : (row_at t i).kind ≡ number_kind kind
  pub number : TwosComplement (width kind) (row_at t i).word2 z
