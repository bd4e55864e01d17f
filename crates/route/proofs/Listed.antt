-- Every refusal of a call is one of the papers' tables (specs/Refusals.antt).
use Rattle.std.proofs.Common.{List, ℕ, arith}
use Rattle.refusal.specs.Outcome.{word, Reason, reason}
use Rattle.grammar.specs.Rule.{FirstRefusal, first1, first2, first3, first4, first5}
use Rattle.value.specs.Tree.{Val}
use Rattle.comparing.specs.SameRoute.{NamedReason}
use Rattle.route.specs.Refusals.{NoRoom, output_short, NotThere, above, missing, RowRefused, broken, outside, RowsRefused, store_above, row_table, at_row, LocatorRefused, SignedRefused, of_rows, not_taken, ValueRefused, no_row, bytes_missing, tag_above, ReadingRefused, grammar_first, record_above, index_above, at_value, WholeRefused, of_reading, record_end, WritingRefused, grammar_before, rows_before, not_in_grammar, size_above, no_room, ImportStopped, no_row_left, xdr_missing, case_unknown, store_short, padding_set, ImportRefused, table_first, bytes_above, in_value, xdr_left, RewritingRefused, room_first, reading_then, RouteRefused, by_grammar, by_first, by_second, ChoosingRefused, list_broken, bad_grammar, record_long, none_accepts, Listed, of_word, of_byte, of_output, of_row, of_locator, of_signed, of_list, of_choice, of_padding, unnamed}

pub grammar_listed : {g : List ℕ} {e : Reason} → FirstRefusal g e → Listed e
grammar_listed (first1 _) = of_word 1 _ (omega arith) (omega arith)
grammar_listed (first2 _ _) = of_word 2 _ (omega arith) (omega arith)
grammar_listed (first3 _ _ _) = of_word 3 _ (omega arith) (omega arith)
grammar_listed (first4 _ _ _ _) = of_word 4 _ (omega arith) (omega arith)
grammar_listed (first5 _ _ _ _ _ _ _ _) = of_word 5 _ (omega arith) (omega arith)

pub room_listed : {len index size : ℕ} {e : Reason} → NoRoom len index size e → Listed e
room_listed (output_short _) = of_output _

pub unpackers_listed : {len index size : ℕ} {e : Reason} → NotThere len index size e → Listed e
unpackers_listed (above _) = of_byte 7 _ (omega arith) (omega arith)
unpackers_listed (missing _ _) = of_byte 9 _ (omega arith) (omega arith)

row_listed : {t : List ℕ} {n : ℕ} {s : List ℕ} {e : Reason} → RowRefused t n s e → Listed e
row_listed (broken _ _) = of_row 13 _ (omega arith) (omega arith)
row_listed (outside _ _ _ _ _) = of_row 14 _ (omega arith) (omega arith)

pub rows_listed : {t : List ℕ} {n : ℕ} {s : List ℕ} {e : Reason} → RowsRefused t n s e → Listed e
rows_listed (store_above _) = of_byte 6 _ (omega arith) (omega arith)
rows_listed (row_table _ _) = of_row 12 _ (omega arith) (omega arith)
rows_listed (at_row _ _ q _) = row_listed q

pub locator_listed : {t : List ℕ} {n : ℕ} {s : List ℕ} {i : ℕ} {e : Reason} → LocatorRefused t n s i e → Listed e
locator_listed (of_rows q) = rows_listed q
locator_listed (not_taken _ _ _) = of_locator _

pub signed_listed : {t : List ℕ} {n : ℕ} {s : List ℕ} {i : ℕ} {e : Reason} → SignedRefused t n s i e → Listed e
signed_listed (of_rows q) = rows_listed q
signed_listed (not_taken _ _ _) = of_signed _

value_listed : {g d : List ℕ} {index capacity : ℕ} {e : Reason} → ValueRefused g d index capacity e → Listed e
value_listed (no_row _ _ _ _) = of_byte 8 _ (omega arith) (omega arith)
value_listed (bytes_missing _ _ _ _) = of_byte 9 _ (omega arith) (omega arith)
value_listed (tag_above _ _ _ _) = of_byte 10 _ (omega arith) (omega arith)

pub reading_listed : {g d : List ℕ} {index capacity : ℕ} {e : Reason} → ReadingRefused g d index capacity e → Listed e
reading_listed (grammar_first q) = grammar_listed q
reading_listed (record_above _ _) = of_byte 6 _ (omega arith) (omega arith)
reading_listed (index_above _ _ _) = of_byte 7 _ (omega arith) (omega arith)
reading_listed (at_value _ _ _ q _) = value_listed q

pub whole_listed : {g d : List ℕ} {capacity : ℕ} {e : Reason} → WholeRefused g d capacity e → Listed e
whole_listed (of_reading q) = reading_listed q
whole_listed (record_end _ _ _) = of_byte 11 _ (omega arith) (omega arith)

pub writing_listed : {sizeBy : Val → ℕ} {g t : List ℕ} {n : ℕ} {s : List ℕ} {len index : ℕ} {e : Reason} → WritingRefused sizeBy g t n s len index e → Listed e
writing_listed (grammar_before q) = grammar_listed q
writing_listed (rows_before _ q) = rows_listed q
writing_listed (not_in_grammar _ _ _ _ _ _ _) = of_row 15 _ (omega arith) (omega arith)
writing_listed (size_above _ _ _ _ _) = of_row 16 _ (omega arith) (omega arith)
writing_listed (no_room _ _ _ _ _ _) = of_output _

stopped_listed : {g d : List ℕ} {capacity len : ℕ} {e : Reason} → ImportStopped g d capacity len e → Listed e
stopped_listed (no_row_left _ _ _) = of_byte 8 _ (omega arith) (omega arith)
stopped_listed (xdr_missing _ _ _) = of_byte 9 _ (omega arith) (omega arith)
stopped_listed (case_unknown _ _ _) = of_byte 10 _ (omega arith) (omega arith)
stopped_listed (store_short _) = of_output _
stopped_listed (padding_set _ _ _) = of_padding _

pub importing_listed : {g d : List ℕ} {capacity len : ℕ} {e : Reason} → ImportRefused g d capacity len e → Listed e
importing_listed (table_first q) = grammar_listed q
importing_listed (bytes_above _ _) = of_byte 6 _ (omega arith) (omega arith)
importing_listed (in_value _ _ _ q _) = stopped_listed q
importing_listed (xdr_left _ _ _ _ _ _) = of_byte 11 _ (omega arith) (omega arith)

pub rewriting_listed : {g d : List ℕ} {capacity len index : ℕ} {e : Reason} → RewritingRefused g d capacity len index e → Listed e
rewriting_listed (room_first q) = room_listed q
rewriting_listed (reading_then _ q) = whole_listed q

pub routes_listed : {g first second : List ℕ} {e : NamedReason} → RouteRefused g first second e → Listed (unnamed e)
routes_listed (by_grammar q) = grammar_listed q
routes_listed (by_first _ q) = whole_listed q
routes_listed (by_second _ _ _ q) = whole_listed q

-- which word it is does not matter
any_word : {n v w : ℕ} → Listed (reason n (word v)) → Listed (reason n (word w))
any_word (of_word n v a b) = of_word n _ a b
any_word (of_list v) = of_list _

pub choosing_listed : {l d : List ℕ} {e : Reason} → ChoosingRefused l d e → Listed e
choosing_listed (list_broken _) = of_list _
choosing_listed (bad_grammar _ _ _ _ _ _ q) = any_word (grammar_listed q)
choosing_listed (record_long _ _) = of_byte 6 _ (omega arith) (omega arith)
choosing_listed (none_accepts _ _ _) = of_choice _
