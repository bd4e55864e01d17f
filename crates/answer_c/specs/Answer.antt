-- The words of a C answer: what an outcome means at the C interface.
use Rattle.std.specs.Prelude.{◌≡◌, Bool, true, false, cond, List, ℕ, ℤ}
use Rattle.refusal.specs.Outcome.{Outcome, accepted, refused, map, contents, Location, word, byte, row, Reason, reason}
use Rattle.packed.specs.Packed.{put}
use Rattle.value.specs.Tree.{Val, SizeOfV}
use Rattle.value.specs.Bytes.{bytes_of}
use Rattle.value.specs.Signed.{pattern_of}
use Rattle.value.specs.Step.{Step}
use Rattle.value.specs.Reading.{State}
use Rattle.rows.specs.Locate.{Part}
use Rattle.rows.specs.Layout.{rows_of}
use Rattle.reading.specs.Meaning.{Counts}
use Rattle.reading.specs.Calls.{counts_of}
use Rattle.previewing.specs.Preview.{Preview}
use Rattle.comparing.specs.SameRoute.{NamedReason, of_grammar, of_first, of_second, Compares}
use Rattle.choosing.specs.Choose.{Choice}
use Rattle.accepting.specs.Accepts.{Verdict}
use Rattle.xdr.specs.Xdr.{xdr_of, xdr_size, store_of, rows_in}
use Rattle.xdr.specs.Import.{Filling}
use Rattle.importing.specs.Meaning.{Counts as ImportCounts}
use Rattle.importing.specs.Calls.{counts_of as import_counts}
use Rattle.answer_c.specs.declared.RouteAnswer.{RouteAnswer}

-- the values of an accepted call; 0 where it gives fewer than two
pub data Values : Type 0 where
  values : ℕ → ℕ → Values

-- a location's kind: 1 word, 2 byte, 3 row
abbrev pub kind_of : Location → ℕ
kind_of (word n) = 1
kind_of (byte n) = 2
kind_of (row n) = 3

abbrev pub number_of : Location → ℕ
number_of (word n) = n
number_of (byte n) = n
number_of (row n) = n

-- a refusal has no values; `second` is the record that it names, 1 or 2, and 0 where it names none
abbrev pub refusal_of : Reason → ℕ → RouteAnswer
refusal_of (reason n l) named = record { number = n; place_kind = kind_of l; place = number_of l; first = 0; second = named }

-- an accepted answer has number 0, kind of place 0 and place 0
abbrev pub answer_of : Outcome Reason Values → RouteAnswer
answer_of (accepted (values a b)) = record { number = 0; place_kind = 0; place = 0; first = a; second = b }
answer_of (refused e) = refusal_of e 0

abbrev pub no_value : {A : Type 0} → A → Values
no_value a = values 0 0

abbrev pub one_value : ℕ → Values
one_value n = values n 0

-- a signed number as its 64-bit pattern, which C casts to int64_t
abbrev pub signed_value : ℤ → Values
signed_value z = one_value (pattern_of 8 z)

-- a part of the store: its first byte, and how many
abbrev pub part_values : Part → Values
part_values p = values p.start p.size

-- of a reading: the row count, and the position behind the value
abbrev pub count_values : Counts → Values
count_values c = values c.rows c.rest_index

-- of a preview: the size, and the number of output bytes whose content would differ
abbrev pub preview_values : Preview → Values
preview_values p = values p.size p.changed

-- of a choice: the number of the grammar, and the values begun
abbrev pub choice_values : Choice → Values
choice_values c = values c.number c.begun

-- of a verdict: 1 for yes and 0 for no, and the values begun
abbrev pub verdict_values : Verdict → Values
verdict_values v = values (cond v.yes 1 0) v.begun

-- of an import: the row count, and the bytes of the store used
abbrev pub import_values : ImportCounts → Values
import_values c = values c.rows c.used

-- of same route: 1 for yes, 0 for no
abbrev pub same_answer_of : Outcome NamedReason Bool → RouteAnswer
same_answer_of (accepted true) = answer_of (accepted (one_value 1))
same_answer_of (accepted false) = answer_of (accepted (one_value 0))
same_answer_of (refused (of_grammar e)) = refusal_of e 0
same_answer_of (refused (of_first e)) = refusal_of e 1
same_answer_of (refused (of_second e)) = refusal_of e 2

-- a call over a lent buffer answers and fills as the outcome o says
pub record Answers (o : Outcome Reason (List ℕ)) (answer : RouteAnswer) (entry exit : List ℕ) : Type 0 where
  pub answers : answer ≡ answer_of (map no_value o)
  pub buffer : exit ≡ contents o entry

-- a reading with rows lent answers as the outcome o says; rows 0 to n − 1 at exit are the layout of the value, whose bytes start at the index
pub record AnswersRows (o : Outcome Reason (Step State Val)) (index : ℕ) (answer : RouteAnswer) (entry exit : List ℕ) : Type 0 where
  pub answers : answer ≡ answer_of (map count_values (map counts_of o))
  pub rows : exit ≡ contents (map (λ t. put entry 0 (rows_of t.value index)) o) entry

-- a writer answers as the outcome o says, with the size; the bytes of the value stand at the index of the output at exit
pub record AnswersBytes (o : Outcome Reason Val) (index : ℕ) (answer : RouteAnswer) (entry exit : List ℕ) : Type 0 where
  pub answers : answer ≡ answer_of (map one_value (map SizeOfV o))
  pub output : exit ≡ contents (map (λ v. put entry index (bytes_of v)) o) entry

-- an export answers as the outcome o says, with the XDR size; the XDR bytes of the value stand at the index of the output at exit
pub record AnswersXdr (o : Outcome Reason Val) (index : ℕ) (answer : RouteAnswer) (entry exit : List ℕ) : Type 0 where
  pub answers : answer ≡ answer_of (map one_value (map xdr_size o))
  pub output : exit ≡ contents (map (λ v. put entry index (xdr_of v)) o) entry

-- an import answers as the outcome o says; at exit the rows of the value stand from row 0 on, and the bytes of its arrays in the store from
-- byte 0 on
pub record AnswersImport (o : Outcome Reason (Step Filling Val)) (answer : RouteAnswer) (rows₀ store₀ rows₁ store₁ : List ℕ) : Type 0 where
  pub answers : answer ≡ answer_of (map import_values (map import_counts o))
  pub rows : rows₁ ≡ contents (map (λ t. put rows₀ 0 (rows_in t.value 0)) o) rows₀
  pub store : store₁ ≡ contents (map (λ t. put store₀ 0 (store_of t.value)) o) store₀

-- same route answers by the outcome that its contract allows
pub record AnswersSame (g first second : List ℕ) (answer : RouteAnswer) : Type 0 where
  pub outcome : Outcome NamedReason Bool
  pub compares : Compares g first second outcome
  pub answers : answer ≡ same_answer_of outcome
