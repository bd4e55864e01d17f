-- When each definition refuses, by the papers' tables: one relation for each definition. A constructor says of a number its place and what
-- it is given for, where nothing before it is given, or takes over the refusals of a step. 1 to 5 are the grammar's `FirstRefusal`; 19 is
-- given by the program only.
use Rattle.std.specs.Prelude.{◌≡◌, ◌↔◌, ◌⊎◌, List, [], ◌++◌, ℕ, ◌+◌, ◌*◌, ◌^◌, ◌≤◌, ◌<◌, length, drop}
use Rattle.std.proofs.Math.Option.{none, some}
use Rattle.refusal.specs.Outcome.{Outcome, accepted, refused, word, byte, row, Reason, reason}
use Rattle.value.specs.Kinds.{Elements, element_width, elements_kind}
use Rattle.value.specs.Tree.{Val, ValInGrammar, ValueOf, row_count}
use Rattle.value.specs.Step.{Step}
use Rattle.value.specs.Reading.{State}
use Rattle.value.specs.Parse.{parse_val}
use Rattle.grammar.specs.Check.{check_grammar}
use Rattle.grammar.specs.Rule.{FirstRefusal}
use Rattle.grammar.specs.Tree.{tree_of}
use Rattle.tables.specs.Row.{row_width, row_at}
use Rattle.rows.specs.Walk.{walk}
use Rattle.reading.specs.Calls.{parse_val_of, demarshall_of}
use Rattle.sizing.specs.InGrammar.{check_in_grammar}
use Rattle.xdr.specs.Xdr.{xdr_of, xdr_size, store_of}
use Rattle.xdr.specs.Import.{Filling, start, import_val}
use Rattle.comparing.specs.SameRoute.{NamedReason, of_grammar, of_first, of_second}
use Rattle.choosing.specs.Choose.{list_count, count_at, grammar_of}
use Rattle.choosing.specs.Rule.{ListRule, ListPasses, Accepts}

-- the errors of an outcome are exactly those with Q
abbrev pub Refuses : {E A : Type 0} → (E → Type 0) → Outcome E A → Type 0
Refuses {E} Q o = (e : E) → (o ≡ refused e) ↔ Q e

-- ---- numbers

-- size bytes have no room at the index of an output of len bytes
pub data NoRoom (len index size : ℕ) : Reason → Type 0 where
  output_short : len < index + size → NoRoom len index size (reason 17 (byte len))

-- size bytes are not there at the index of len bytes
pub data NotThere (len index size : ℕ) : Reason → Type 0 where
  above : len < index → NotThere len index size (reason 7 (byte index))
  missing : index ≤ len → len < index + size → NotThere len index size (reason 9 (byte index))

-- ---- rows

-- n from 1 to 4,096, and the words of n rows there
abbrev pub RowsThere : List ℕ → ℕ → Type 0
RowsThere t n = (0 < n) × ((n ≤ 4096) × (row_width * n ≤ length t))

-- 13 or 14 of a row. What 13 is given for is left to the walk's definition; after both the rows stand for no value (`RowsAgree`)
pub data RowRefused (t : List ℕ) (n : ℕ) (s : List ℕ) : Reason → Type 0 where
  broken : (i : ℕ) → i < n → RowRefused t n s (reason 13 (row i))
  outside : (i : ℕ) → i < n → (k : Elements) → (row_at t i).kind ≡ elements_kind k → length s < (row_at t i).word3 + element_width k * (row_at t i).word2 → RowRefused t n s (reason 14 (row i))

pub data RowsRefused (t : List ℕ) (n : ℕ) (s : List ℕ) : Reason → Type 0 where
  store_above : 1048576 < length s → RowsRefused t n s (reason 6 (byte 0))
  row_table : length s ≤ 1048576 → (RowsThere t n → ⊥) → RowsRefused t n s (reason 12 (row 0))
  -- which row it is, is the walk's definition
  at_row : {e : Reason} → length s ≤ 1048576 → RowsThere t n → RowRefused t n s e → walk t n s ≡ refused e → RowsRefused t n s e

-- a call on row i: refusal m where it is not below n or its kind word is not one that the call takes
pub data LookUpRefused (m : ℕ) (Takes : ℕ → Type 0) (t : List ℕ) (n : ℕ) (s : List ℕ) (i : ℕ) : Reason → Type 0 where
  of_rows : {e : Reason} → RowsRefused t n s e → LookUpRefused m Takes t n s i e
  not_taken : (v : Val) → walk t n s ≡ accepted v → (i < n → Takes (row_at t i).kind → ⊥) → LookUpRefused m Takes t n s i (reason m (row i))

-- kinds 5, 6 and 7
abbrev pub IsArray : ℕ → Type 0
IsArray w = (w ≡ 5) ⊎ ((w ≡ 6) ⊎ (w ≡ 7))

-- kinds 9 and 10
abbrev pub IsSigned : ℕ → Type 0
IsSigned w = (w ≡ 9) ⊎ (w ≡ 10)

-- the locator
abbrev pub LocatorRefused : List ℕ → ℕ → List ℕ → ℕ → Reason → Type 0
LocatorRefused t n s i = LookUpRefused 18 IsArray t n s i

-- the signed number
abbrev pub SignedRefused : List ℕ → ℕ → List ℕ → ℕ → Reason → Type 0
SignedRefused t n s i = LookUpRefused 20 IsSigned t n s i

-- ---- reading

-- 8, 9 or 10 of a value that starts at byte p. Which byte it is, and which of the three, is left to the definition. After 8 whatever GM
-- parses needs more rows than there are; after 9 and 10 it parses nothing
pub data ValueRefused (g d : List ℕ) (index capacity : ℕ) : Reason → Type 0 where
  no_row : (p : ℕ) → index ≤ p → p ≤ length d → ((v : Val) (rest : List ℕ) → parse_val (drop index d) (tree_of g 0) ≡ (some v, rest) → capacity < row_count v) → ValueRefused g d index capacity (reason 8 (byte p))
  bytes_missing : (p : ℕ) → index ≤ p → p ≤ length d → parse_val (drop index d) (tree_of g 0) ≡ (none, []) → ValueRefused g d index capacity (reason 9 (byte p))
  tag_above : (p : ℕ) → index ≤ p → p ≤ length d → parse_val (drop index d) (tree_of g 0) ≡ (none, []) → ValueRefused g d index capacity (reason 10 (byte p))

pub data ReadingRefused (g d : List ℕ) (index capacity : ℕ) : Reason → Type 0 where
  grammar_first : {e : Reason} → FirstRefusal g e → ReadingRefused g d index capacity e
  record_above : check_grammar g ≡ accepted tt → 1048576 < length d → ReadingRefused g d index capacity (reason 6 (byte 0))
  index_above : check_grammar g ≡ accepted tt → length d ≤ 1048576 → length d < index → ReadingRefused g d index capacity (reason 7 (byte index))
  at_value : {e : Reason} → check_grammar g ≡ accepted tt → length d ≤ 1048576 → index ≤ length d → ValueRefused g d index capacity e → parse_val_of g d index capacity ≡ refused e → ReadingRefused g d index capacity e

-- from byte 0, which is no index above the length, to the end
pub data WholeRefused (g d : List ℕ) (capacity : ℕ) : Reason → Type 0 where
  of_reading : {e : Reason} → ReadingRefused g d 0 capacity e → WholeRefused g d capacity e
  record_end : (t : Step State Val) → parse_val_of g d 0 capacity ≡ accepted t → t.state.at < length d → WholeRefused g d capacity (reason 11 (byte t.state.at))

-- ---- writing and export

-- sizeBy is `SizeOfV` for writing and the XDR size for export
pub data WritingRefused (sizeBy : Val → ℕ) (g t : List ℕ) (n : ℕ) (s : List ℕ) (len index : ℕ) : Reason → Type 0 where
  grammar_before : {e : Reason} → FirstRefusal g e → WritingRefused sizeBy g t n s len index e
  rows_before : {e : Reason} → check_grammar g ≡ accepted tt → RowsRefused t n s e → WritingRefused sizeBy g t n s len index e
  -- which of v's rows it is, is the second walk's definition
  not_in_grammar : (v : Val) → check_grammar g ≡ accepted tt → walk t n s ≡ accepted v → (ValInGrammar v (tree_of g 0) → ⊥) → (i : ℕ) → i < row_count v → check_in_grammar v (tree_of g 0) 0 ≡ refused (reason 15 (row i)) → WritingRefused sizeBy g t n s len index (reason 15 (row i))
  size_above : (v : Val) → check_grammar g ≡ accepted tt → walk t n s ≡ accepted v → ValInGrammar v (tree_of g 0) → 1048576 < sizeBy v → WritingRefused sizeBy g t n s len index (reason 16 (row 0))
  no_room : (v : Val) → check_grammar g ≡ accepted tt → walk t n s ≡ accepted v → ValInGrammar v (tree_of g 0) → sizeBy v ≤ 1048576 → len < index + sizeBy v → WritingRefused sizeBy g t n s len index (reason 17 (byte len))

-- ---- import

-- v is a value of the grammar of fewer than 2^32 rows and 2^32 bytes of XDR, and d begins with its XDR bytes
pub record XdrFront (g d : List ℕ) (v : Val) : Type 0 where
  pub value : ValueOf (tree_of g 0) v
  pub rows : row_count v < 2 ^ 32
  pub size : xdr_size v < 2 ^ 32
  pub rest : List ℕ
  pub bytes : d ≡ xdr_of v ++ rest

-- 8, 9, 10, 17 or 23. Which byte it is, and which number, is left to the definition. After 8 every value that d begins with needs more rows
-- than there are, after 17 more bytes than the store has; after 9, 10 and 23 d begins with none
pub data ImportStopped (g d : List ℕ) (capacity len : ℕ) : Reason → Type 0 where
  no_row_left : (p : ℕ) → p ≤ length d → ((v : Val) → XdrFront g d v → capacity < row_count v) → ImportStopped g d capacity len (reason 8 (byte p))
  xdr_missing : (p : ℕ) → p ≤ length d → ((v : Val) → XdrFront g d v → ⊥) → ImportStopped g d capacity len (reason 9 (byte p))
  case_unknown : (p : ℕ) → p ≤ length d → ((v : Val) → XdrFront g d v → ⊥) → ImportStopped g d capacity len (reason 10 (byte p))
  store_short : ((v : Val) → XdrFront g d v → len < length (store_of v)) → ImportStopped g d capacity len (reason 17 (byte len))
  padding_set : (p : ℕ) → p ≤ length d → ((v : Val) → XdrFront g d v → ⊥) → ImportStopped g d capacity len (reason 23 (byte p))

pub data ImportRefused (g d : List ℕ) (capacity len : ℕ) : Reason → Type 0 where
  table_first : {e : Reason} → FirstRefusal g e → ImportRefused g d capacity len e
  -- of the record or of the lent store
  bytes_above : check_grammar g ≡ accepted tt → (1048576 < length d) ⊎ (1048576 < len) → ImportRefused g d capacity len (reason 6 (byte 0))
  in_value : {e : Reason} → check_grammar g ≡ accepted tt → length d ≤ 1048576 → len ≤ 1048576 → ImportStopped g d capacity len e → import_val capacity len d (tree_of g 0) start ≡ refused e → ImportRefused g d capacity len e
  xdr_left : (t : Step Filling Val) → check_grammar g ≡ accepted tt → length d ≤ 1048576 → len ≤ 1048576 → import_val capacity len d (tree_of g 0) start ≡ accepted t → t.state.at < length d → ImportRefused g d capacity len (reason 11 (byte t.state.at))

-- ---- the calls of `rewriting`, `comparing` and `choosing`

-- `rewrite`: 17, then the whole reading
pub data RewritingRefused (g d : List ℕ) (capacity len index : ℕ) : Reason → Type 0 where
  room_first : {e : Reason} → NoRoom len index (length d) e → RewritingRefused g d capacity len index e
  reading_then : {e : Reason} → index + length d ≤ len → WholeRefused g d capacity e → RewritingRefused g d capacity len index e

-- `same_route`: the grammar, which names neither record, then the first record, then the second
pub data RouteRefused (g first second : List ℕ) : NamedReason → Type 0 where
  by_grammar : {e : Reason} → FirstRefusal g e → RouteRefused g first second (of_grammar e)
  by_first : {e : Reason} → check_grammar g ≡ accepted tt → WholeRefused g first 4096 e → RouteRefused g first second (of_first e)
  by_second : {e : Reason} → (t : Step State Val) → check_grammar g ≡ accepted tt → demarshall_of g first 4096 ≡ accepted t → WholeRefused g second 4096 e → RouteRefused g first second (of_second e)

-- `choose_grammar`: 21, then 1 to 5 of the first grammar of the list that does not pass, its word w counted from the start of the list, then
-- 6, and 22 last
pub data ChoosingRefused (l d : List ℕ) : Reason → Type 0 where
  list_broken : (ListRule l → ⊥) → ChoosingRefused l d (reason 21 (word 0))
  bad_grammar : ListRule l → (j : ℕ) → j < list_count l → ((i : ℕ) → i < j → check_grammar (grammar_of l i) ≡ accepted tt) → (n w : ℕ) → FirstRefusal (grammar_of l j) (reason n (word w)) → ChoosingRefused l d (reason n (word (count_at l j + 1 + w)))
  record_long : ListPasses l → 1048576 < length d → ChoosingRefused l d (reason 6 (byte 0))
  none_accepts : ListPasses l → length d ≤ 1048576 → ((j : ℕ) → j < list_count l → ¬ (Accepts l d j)) → ChoosingRefused l d (reason 22 (byte 0))

-- ---- the table

-- numbers 1 to 18 of document 01's table and 20 to 23 of document 02, each with its kind of place; the relations above fix the place itself,
-- and 19 is the program's
pub data Listed : Reason → Type 0 where
  of_word : (n w : ℕ) → 0 < n → n ≤ 5 → Listed (reason n (word w))
  of_byte : (n b : ℕ) → 5 < n → n ≤ 11 → Listed (reason n (byte b))
  of_output : (b : ℕ) → Listed (reason 17 (byte b))
  of_row : (n r : ℕ) → 11 < n → n ≤ 16 → Listed (reason n (row r))
  of_locator : (r : ℕ) → Listed (reason 18 (row r))
  of_signed : (r : ℕ) → Listed (reason 20 (row r))
  of_list : (w : ℕ) → Listed (reason 21 (word w))
  of_choice : (b : ℕ) → Listed (reason 22 (byte b))
  of_padding : (b : ℕ) → Listed (reason 23 (byte b))

-- every refusal with Q is one of these
abbrev pub Lists : (Reason → Type 0) → Type 0
Lists Q = (e : Reason) → Q e → Listed e

-- the refusal, whichever record it names
abbrev pub unnamed : NamedReason → Reason
unnamed (of_grammar e) = e
unnamed (of_first e) = e
unnamed (of_second e) = e
