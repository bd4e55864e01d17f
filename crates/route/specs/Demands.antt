-- The three demands of 00-demands.md, with document 02's signed numbers, preview, chooser, named capacities, XDR and yes or no, as statements
-- over the definitions that the contracts of the public calls cite. Above each part stand the words that it says, and what would leave it
-- empty; proofs/Demand1.antt to Demand3.antt prove them.
use Rattle.std.specs.Prelude.{◌≡◌, ◌↔◌, List, [], ◌++◌, ℕ, ◌+◌, ◌*◌, ◌^◌, ◌≤◌, ◌<◌, length, get_or, take, drop, ℤ, Bool, Option, Result}
use Rattle.refusal.specs.declared.Refusal.{Refusal}
use Rattle.std.proofs.Math.Option.{none, some}
use Rattle.refusal.specs.Outcome.{Outcome, accepted, refused, map, Fills, Location, byte, Reason, reason}
use Rattle.refusal.specs.Meaning.{outcome_of}
use Rattle.packed.specs.Packed.{Bytes, Below, unpack_little_endian, unpack_little_endian_seq, pack_little_endian, pack_little_endian_seq, unpack_at, unpack_seq_at, room, put, put_at}
use Rattle.value.specs.Tree.{G, Val, Vals, VConstant, VArray, VTuple, VCase, vnil, vcons, VUint32, VUint64, VByteArray, VUint32Array, VUint64Array, seq_v, ValInGrammar, ValidGrammar, CountsBelow, TypedVal, ValueOf, SizeOfV, row_count}
use Rattle.value.specs.Signed.{signed_of, pattern_of, InRange, TwosComplement, GInt32, GInt64, VInt32, VInt64}
use Rattle.value.specs.Bytes.{bytes_of, bytes_of_all}
use Rattle.value.specs.Step.{Step}
use Rattle.value.specs.Reading.{State}
use Rattle.value.specs.Parse.{parse_val, Demarshallable, DemarshallFunc}
use Rattle.grammar.specs.Check.{check_grammar}
use Rattle.grammar.specs.Rule.{FirstRefusal}
use Rattle.grammar.specs.Tree.{tree_of}
use Rattle.tables.specs.Row.{row_width, row_at}
use Rattle.rows.specs.Layout.{rows_of}
use Rattle.rows.specs.Walk.{walk}
use Rattle.rows.specs.Rule.{StandFor, ValueIn, TableOf}
use Rattle.rows.specs.Size.{compute_size_of}
use Rattle.rows.specs.Locate.{look_up, locate_array}
use Rattle.rows.specs.Meaning.{located}
use Rattle.signed.specs.Signed.{signed_number_of}
use Rattle.signed.specs.Rule.{NumberOf}
use Rattle.reading.specs.Meaning.{Counts, parsed_of}
use Rattle.admission.specs.Admission.{in_force, check_rows, capacity_of}
use Rattle.reading.specs.Calls.{parse_val_of, demarshall_of, counts_of, Parses, SameOr8}
use Rattle.reading.specs.declared.Parsed.{Parsed}
use Rattle.sizing.specs.Writes.{marshall_val_of, Writes}
use Rattle.writing.specs.Marshall.{Marshalls}
use Rattle.xdr.specs.Xdr.{xdr_size}
use Rattle.xdr.specs.Import.{Filling}
use Rattle.exporting.specs.Export.{export_of, Exports}
use Rattle.importing.specs.Meaning.{imported_of}
use Rattle.importing.specs.Calls.{import_of, Imports}
use Rattle.importing.specs.declared.Imported.{Imported}
use Rattle.previewing.specs.Preview.{preview_of, previewed_of}
use Rattle.route.specs.Rewriting.{rewrite_of, Rewrites}
use Rattle.comparing.specs.SameRoute.{NamedReason, same_route_of, read_both, Compares}
use Rattle.choosing.specs.Choose.{chosen_of, choose_of}
use Rattle.least.specs.Least.{least_of}
use Rattle.accepting.specs.Accepts.{verdict_of, accepts_of}
use Rattle.route.specs.Refusals.{Refuses, NoRoom, NotThere, RowsRefused, LookUpRefused, LocatorRefused, SignedRefused, ReadingRefused, WholeRefused, WritingRefused, ImportRefused, RewritingRefused, RouteRefused, ChoosingRefused, Listed, Lists, unnamed}
use Rattle.comparing.specs.declared.Unread.{Unread}

-- ==== Demand 1. "Every call is defined on every input: no grammar, record, row table or index is assumed sound, each call comes to an end"

-- That nothing is assumed and that each call ends is in the text of the calls: no public one has a `requires`, and each is proved to end. Its
-- contract equates answer and buffers with an outcome that is defined on all lists and numbers; and an outcome has at most one answer that
-- means it, so nothing is left to the program
abbrev pub AtMostOneAnswer : {R E A : Type 0} → (R → Outcome E A) → Type 0
AtMostOneAnswer {R} meaning = (q r : R) → meaning q ≡ meaning r → q ≡ r

-- "a refusal names its number and place": `Refuses Q o` says that the errors of o are exactly those with Q, and each Q of specs/Refusals.antt
-- gives the number, the place and what they are given for. A writer that answers every refusal with 17 at byte 0 fails `writing`.
-- Nothing is asked of the inputs, but that the words of a grammar in `importing` are u32s. The answer of a call is a function of the outcome
-- that is named here, so its refusals are these
pub record Demand1 : Type 0 where
  -- of each answer: nothing, a number (u32, u64), a signed number, a least length or none; and where a definition answers with a record of its own
  pub answer : AtMostOneAnswer (outcome_of {A = Unit {0}})
  pub number : AtMostOneAnswer (outcome_of {A = ℕ})
  pub signed_numbers : AtMostOneAnswer (outcome_of {A = ℤ})
  pub least_found : AtMostOneAnswer (outcome_of {A = Option ℕ})
  pub array : AtMostOneAnswer located
  pub counts : AtMostOneAnswer parsed_of
  pub previewed : AtMostOneAnswer previewed_of
  pub route : AtMostOneAnswer same_route_of
  pub chosen : AtMostOneAnswer chosen_of
  pub imported : AtMostOneAnswer imported_of
  pub verdicts : AtMostOneAnswer verdict_of
  -- `check_grammar`
  pub grammar : (g : List ℕ) → Refuses (FirstRefusal g) (check_grammar g)
  -- `room` of `packed`
  pub room : (len index size : ℕ) → Refuses (NoRoom len index size) (room len index size)
  -- the four packers, and `copy_seq_into_array`
  pub packers : (out : List ℕ) (index : ℕ) (bs : List ℕ) → Refuses (NoRoom (length out) index (length bs)) (put_at out index bs)
  -- the unpackers of one number, and of a sequence
  pub unpackers : (w : ℕ) (s : List ℕ) (index : ℕ) → Refuses (NotThere (length s) index w) (unpack_at w s index)
  pub unpackers_seq : (w : ℕ) (s : List ℕ) (index len : ℕ) → Refuses (NotThere (length s) index (w * len)) (unpack_seq_at w s index len)
  -- `check_rows`
  pub rows : (t : List ℕ) (n : ℕ) (s : List ℕ) → Refuses (RowsRefused t n s) (walk t n s)
  -- `find_row`, whose refusal's number is the caller's
  pub row_found : (m : ℕ) (t : List ℕ) (n : ℕ) (s : List ℕ) (i : ℕ) → Refuses (LookUpRefused m (λ _. Unit {0}) t n s i) (look_up m t n s i)
  -- `compute_size_of`
  pub sizes : (t : List ℕ) (n : ℕ) (s : List ℕ) → Refuses (RowsRefused t n s) (compute_size_of t n s)
  -- `locate_array`; `array_bytes` gives the empty part where it refuses
  pub locator : (t : List ℕ) (n : ℕ) (s : List ℕ) (i : ℕ) → Refuses (LocatorRefused t n s i) (locate_array t n s i)
  -- `signed_number`
  pub signed : (t : List ℕ) (n : ℕ) (s : List ℕ) (i : ℕ) → Refuses (SignedRefused t n s i) (signed_number_of t n s i)
  -- `parse_val`, `check_val`, `check_val_with`
  pub reading : (g d : List ℕ) (index capacity : ℕ) → Refuses (ReadingRefused g d index capacity) (parse_val_of g d index capacity)
  -- `demarshall`, `check_whole`, `check_whole_with`, and `try_whole`, which gives the state with the refusal
  pub whole_reading : (g d : List ℕ) (capacity : ℕ) → Refuses (WholeRefused g d capacity) (demarshall_of g d capacity)
  -- `marshall_val`, `marshall`
  pub writing : (g t : List ℕ) (n : ℕ) (s : List ℕ) (len index : ℕ) → Refuses (WritingRefused SizeOfV g t n s len index) (marshall_val_of g t n s len index)
  -- `preview`
  pub preview : (g t : List ℕ) (n : ℕ) (s out : List ℕ) (index : ℕ) → Refuses (WritingRefused SizeOfV g t n s (length out) index) (preview_of g t n s out index)
  -- `export_xdr`
  pub exporting : (g t : List ℕ) (n : ℕ) (s : List ℕ) (len index : ℕ) → Refuses (WritingRefused xdr_size g t n s len index) (export_of g t n s len index)
  -- `import_xdr`
  pub importing : (g d : List ℕ) (capacity len : ℕ) → Below (2 ^ 32) g → Refuses (ImportRefused g d capacity len) (import_of g d capacity len)
  -- `rewrite`
  pub rewriting : (g d : List ℕ) (capacity len index : ℕ) → Refuses (RewritingRefused g d capacity len index) (rewrite_of g d capacity len index)
  -- `same_route`, whose contract allows one answer
  pub routes : (g first second : List ℕ) → Refuses (RouteRefused g first second) (read_both g first second)
  pub one_route : (g first second : List ℕ) (r q : Result Bool Unread) → Compares g first second (same_route_of r) → Compares g first second (same_route_of q) → r ≡ q
  -- `choose_grammar`
  pub choosing : (l d : List ℕ) → Refuses (ChoosingRefused l d) (choose_of l d)
  -- `least_length` and `accepts`: the grammar's, whatever the record
  pub least_lengths : (g : List ℕ) → Refuses (FirstRefusal g) (least_of g)
  pub accepting : (g d : List ℕ) → Refuses (FirstRefusal g) (accepts_of g d)
  -- every refusal given, but for those of `find_row`, whose number is the caller's, is one of the papers' tables, with its kind of place;
  -- which call gives which is said above. So none has number 0, which at the C interface is an accepted call
  pub listed_grammar : (g : List ℕ) → Lists (FirstRefusal g)
  pub listed_room : (len index size : ℕ) → Lists (NoRoom len index size)
  pub listed_unpackers : (len index size : ℕ) → Lists (NotThere len index size)
  pub listed_rows : (t : List ℕ) (n : ℕ) (s : List ℕ) → Lists (RowsRefused t n s)
  pub listed_locator : (t : List ℕ) (n : ℕ) (s : List ℕ) (i : ℕ) → Lists (LocatorRefused t n s i)
  pub listed_signed : (t : List ℕ) (n : ℕ) (s : List ℕ) (i : ℕ) → Lists (SignedRefused t n s i)
  pub listed_reading : (g d : List ℕ) (index capacity : ℕ) → Lists (ReadingRefused g d index capacity)
  pub listed_whole : (g d : List ℕ) (capacity : ℕ) → Lists (WholeRefused g d capacity)
  pub listed_writing : (sizeBy : Val → ℕ) (g t : List ℕ) (n : ℕ) (s : List ℕ) (len index : ℕ) → Lists (WritingRefused sizeBy g t n s len index)
  pub listed_importing : (g d : List ℕ) (capacity len : ℕ) → Lists (ImportRefused g d capacity len)
  pub listed_rewriting : (g d : List ℕ) (capacity len index : ℕ) → Lists (RewritingRefused g d capacity len index)
  pub listed_routes : (g first second : List ℕ) (e : NamedReason) → RouteRefused g first second e → Listed (unnamed e)
  pub listed_choosing : (l d : List ℕ) → Lists (ChoosingRefused l d)
  -- "and a refusal alters no buffer lent to the call": a slice of numbers or bytes, rows, the output, the store of an import. They would be
  -- empty if no call were refused: `reading-C` of proofs/Examples.antt is
  pub fills_nothing : (o : Outcome Reason (List ℕ)) (a : Outcome Reason (Unit {0})) (entry exit : List ℕ) → Fills o a entry exit → (e : Reason) → a ≡ refused e → exit ≡ entry
  pub parses_nothing : (o : Outcome Reason (Step State Val)) (index : ℕ) (r : Result Parsed Refusal) (entry exit : List ℕ) → Parses o index r entry exit → (e : Reason) → parsed_of r ≡ refused e → exit ≡ entry
  pub marshalls_nothing : (o : Outcome Reason Val) (index : ℕ) (w : Result ℕ Refusal) (entry exit : List ℕ) → Marshalls o index w entry exit → (e : Reason) → outcome_of w ≡ refused e → exit ≡ entry
  pub exports_nothing : (o : Outcome Reason Val) (index : ℕ) (w : Result ℕ Refusal) (entry exit : List ℕ) → Exports o index w entry exit → (e : Reason) → outcome_of w ≡ refused e → exit ≡ entry
  pub imports_nothing : (o : Outcome Reason (Step Filling Val)) (r : Result Imported Refusal) (rows store rows₁ store₁ : List ℕ) → Imports o r rows store rows₁ store₁ → (e : Reason) → imported_of r ≡ refused e → (rows₁ ≡ rows) × (store₁ ≡ store)
  pub rewrites_nothing : (g d rows out : List ℕ) (index : ℕ) (w : Result ℕ Refusal) (filled exit : List ℕ) → Rewrites g d rows out index w filled exit → (e : Reason) → outcome_of w ≡ refused e → (filled ≡ rows) × (exit ≡ out)

-- ==== Demands 2 and 3 share this

-- the output at exit is that at entry with exactly bs at the index, every other byte as it was
pub record PutThere (bs out : List ℕ) (index : ℕ) (exit : List ℕ) : Type 0 where
  pub there : take (length bs) (drop index exit) ≡ bs
  pub before : take index exit ≡ take index out
  pub behind : drop (index + length bs) exit ≡ drop (index + length bs) out
  pub same : length exit ≡ length out

-- ==== Demand 2. "Reading, writing and sizes agree with the source's own definitions, within the limits of document 01"

-- what `parse_val` accepts: GM parses v from the index on, none of 1 to 8 is to be given, and the row count, `rest_index`, where GM's rest
-- begins, and the rows at exit are v's
pub record ParsedAs (g d : List ℕ) (index : ℕ) (rows : List ℕ) (k : Counts) (exit : List ℕ) (v : Val) : Type 0 where
  pub passes : check_grammar g ≡ accepted tt
  pub short : length d ≤ 1048576
  pub inside : index ≤ length d
  pub fits : row_count v ≤ capacity_of (length rows)
  pub parsed : parse_val (drop index d) (tree_of g 0) ≡ (some v, drop k.rest_index d)
  pub count : k.rows ≡ row_count v
  pub rest : k.rest_index ≡ index + SizeOfV v
  pub layout : exit ≡ put rows 0 (rows_of v index)

-- "Reading": `parse_val` beside GM's `parse_Val` of the bytes from the index on. The limits are 1 to 8. One that refuses all fails
-- `within`; a made-up value or rest, or a value beyond the limits, fails `value`
pub record ParsesAs (g d : List ℕ) (index : ℕ) (rows : List ℕ) (r : Result Parsed Refusal) (exit : List ℕ) : Type 0 where
  pub value : (k : Counts) → parsed_of r ≡ accepted k → (v : Val) × ParsedAs g d index rows k exit v
  -- refused, and none of 1 to 8: GM parses nothing
  pub nothing : (n : ℕ) (place : Location) → parsed_of r ≡ refused (reason n place) → 8 < n → parse_val (drop index d) (tree_of g 0) ≡ (none, [])
  -- what GM parses within the limits is accepted
  pub within : check_grammar g ≡ accepted tt → length d ≤ 1048576 → index ≤ length d → (v : Val) (rest : List ℕ) → parse_val (drop index d) (tree_of g 0) ≡ (some v, rest) → row_count v ≤ capacity_of (length rows) → parsed_of r ≡ accepted (record { rows = row_count v; rest_index = index + SizeOfV v })

abbrev pub ParseValAgrees : Type 0
ParseValAgrees =
    (g d rows exit : List ℕ) (index : ℕ) (r : Result Parsed Refusal) → Below (2 ^ 32) g → Bytes d
    → Parses (parse_val_of g d index (capacity_of (length rows))) index r rows exit → ParsesAs g d index rows r exit

-- "Reading": `demarshall` beside GM's `Demarshallable`, which is its success where none of 1 to 8 is given. One that refuses all fails (a)
-- of demand 3
pub record DemarshallsAs (g d rows : List ℕ) (r : Result Parsed Refusal) (exit : List ℕ) : Type 0 where
  pub value : (k : Counts) → parsed_of r ≡ accepted k → (m : Demarshallable d (tree_of g 0)) × (exit ≡ put rows 0 (rows_of (DemarshallFunc d (tree_of g 0) m) 0))
  pub nothing : (n : ℕ) (place : Location) → parsed_of r ≡ refused (reason n place) → 8 < n → ¬ (Demarshallable d (tree_of g 0))

abbrev pub DemarshallAgrees : Type 0
DemarshallAgrees =
    (g d rows exit : List ℕ) (r : Result Parsed Refusal) → Below (2 ^ 32) g → Bytes d
    → Parses (demarshall_of g d (capacity_of (length rows))) 0 r rows exit → DemarshallsAs g d rows r exit

-- "Reading": the checks, to which no rows are lent, answer as `parse_val` and `demarshall` do where the rows lent have the check's capacity
pub record ChecksAgree : Type 0 where
  -- `check_val` and `check_whole`: "The check with no rows lent takes capacity 1,024 unless the caller names one", as 4,096 words have
  pub val : (g d rows exit : List ℕ) (index : ℕ) (r q : Result Parsed Refusal) → capacity_of (length rows) ≡ 1024 → parsed_of r ≡ map counts_of (parse_val_of g d index check_rows) → Parses (parse_val_of g d index (capacity_of (length rows))) index q rows exit → r ≡ q
  pub whole : (g d rows exit : List ℕ) (r q : Result Parsed Refusal) → capacity_of (length rows) ≡ 1024 → parsed_of r ≡ map counts_of (demarshall_of g d check_rows) → Parses (demarshall_of g d (capacity_of (length rows))) 0 q rows exit → r ≡ q
  -- `check_val_with` and `check_whole_with`, to which the caller names c
  pub val_with : (g d rows exit : List ℕ) (index c : ℕ) (r q : Result Parsed Refusal) → capacity_of (length rows) ≡ in_force c → parsed_of r ≡ map counts_of (parse_val_of g d index (in_force c)) → Parses (parse_val_of g d index (capacity_of (length rows))) index q rows exit → r ≡ q
  pub whole_with : (g d rows exit : List ℕ) (c : ℕ) (r q : Result Parsed Refusal) → capacity_of (length rows) ≡ in_force c → parsed_of r ≡ map counts_of (demarshall_of g d (in_force c)) → Parses (demarshall_of g d (capacity_of (length rows))) 0 q rows exit → r ≡ q
  -- "which may be 0 to 4,096; a larger one counts as 4,096", and for each there are rows to be lent
  pub named : (c : ℕ) → c ≤ 4096 → in_force c ≡ c
  pub larger : (c : ℕ) → 4096 < c → in_force c ≡ 4096
  pub lent : (c : ℕ) → capacity_of (row_width * in_force c) ≡ in_force c
  -- "a capacity of 0 gives 8 at the index when none of 1 to 7 is given"; the whole reading's index is 0
  pub none : (g d : List ℕ) (index : ℕ) → check_grammar g ≡ accepted tt → length d ≤ 1048576 → index ≤ length d → parse_val_of g d index 0 ≡ refused (reason 8 (byte index))
  pub none_whole : (g d : List ℕ) → check_grammar g ≡ accepted tt → length d ≤ 1048576 → demarshall_of g d 0 ≡ refused (reason 8 (byte 0))
  -- with a capacity c an answer is that with any m from c on, or 8; so a check with 1,024 rows answers as one with 4,096, or 8. A reading that
  -- always gives 8 meets this, and fails `within` of `ParsesAs`
  pub smaller : (g d : List ℕ) (index c m : ℕ) → c ≤ m → SameOr8 (parse_val_of g d index c) (parse_val_of g d index m)
  pub smaller_whole : (g d : List ℕ) (c m : ℕ) → c ≤ m → SameOr8 (demarshall_of g d c) (demarshall_of g d m)

-- rows stand for a value, by document 01's layout with document 02's fifth word, exactly where the walk accepts them, and then for the one that it gives. A walk that refuses
-- all fails from right to left
abbrev pub RowsAgree : Type 0
RowsAgree = (t s : List ℕ) (n : ℕ) (v : Val) → Below (2 ^ 64) t → Bytes s → (walk t n s ≡ accepted v) ↔ TableOf t n s v

-- "sizes": `compute_size_of` answers GM's `SizeOfV` of the value that the rows stand for, and is refused where they stand for none.
-- One that refuses all fails from right to left, a made-up size from left to right: case A's rows stand for a value (`writes_A`)
abbrev pub SizesAgree : Type 0
SizesAgree =
    (t s : List ℕ) (n : ℕ) (r : Result ℕ Refusal) → Below (2 ^ 64) t → Bytes s → outcome_of r ≡ compute_size_of t n s
    → (size : ℕ) → (outcome_of r ≡ accepted size) ↔ ((v : Val) × TableOf t n s v × (size ≡ SizeOfV v))

-- "Rows get a fifth word, the value's size in bytes" (document 02): of rows that the walk accepts each stands for the value or one in it, and
-- its fifth word is that one's `SizeOfV`; row 0 stands for the whole. A walk that leaves the word alone, or looks at row 0's only, fails
abbrev pub RowsSaySizes : Type 0
RowsSaySizes =
    (t s : List ℕ) (n : ℕ) (v : Val) → Below (2 ^ 64) t → Bytes s → walk t n s ≡ accepted v
    → ((row_at t 0).size ≡ SizeOfV v) × ((j : ℕ) → j < n → (u : Val) × ValueIn v u × StandFor t s j u × ((row_at t j).size ≡ SizeOfV u))

-- "A new call gives the signed number of a row" (document 02): `signed_number` answers z exactly where z is the number of row i. One that
-- refuses all fails from right to left, a made-up number from left to right: the rows of the bench's examples (`bench`) have such numbers
abbrev pub SignedAgrees : Type 0
SignedAgrees =
    (t s : List ℕ) (n i : ℕ) (r : Result ℤ Refusal) → Below (2 ^ 64) t → Bytes s → outcome_of r ≡ signed_number_of t n s i
    → (z : ℤ) → (outcome_of r ≡ accepted z) ↔ NumberOf t n s i z

-- "in two's complement ... with one fact over the width" (document 02), at w bytes: each pattern is that of its number, which is in range, no
-- two have the same number, and each number in range has one. No call is in it
pub record SignedRule (w : ℕ) : Type 0 where
  pub number : (p : ℕ) → p < 256 ^ w → TwosComplement w p (signed_of w p)
  pub one_to_one : (p q : ℕ) → p < 256 ^ w → q < 256 ^ w → signed_of w p ≡ signed_of w q → p ≡ q
  pub pattern : (z : ℤ) → InRange w z → (pattern_of w z < 256 ^ w) × (signed_of w (pattern_of w z) ≡ z)

-- document 01's byte rule, kind by kind, with document 02's kinds 9 and 10, whose bytes are those of the number's pattern: numbers, counts and
-- tags as PI's sum packs them, elements and fields one behind the other
pub record ByteRule : Type 0 where
  pub constant : bytes_of VConstant ≡ []
  pub uint32 : (n : ℕ) → bytes_of (VUint32 n) ≡ pack_little_endian 4 n
  pub uint64 : (n : ℕ) → bytes_of (VUint64 n) ≡ pack_little_endian 8 n
  pub int32 : (z : ℤ) → bytes_of (VInt32 z) ≡ pack_little_endian 4 (pattern_of 4 z)
  pub int64 : (z : ℤ) → bytes_of (VInt64 z) ≡ pack_little_endian 8 (pattern_of 8 z)
  pub array : (vs : Vals) → bytes_of (VArray vs) ≡ pack_little_endian 8 (length (seq_v vs)) ++ bytes_of_all vs
  pub tuple : (vs : Vals) → bytes_of (VTuple vs) ≡ bytes_of_all vs
  pub byte_array : (b : List ℕ) → Below 256 b → bytes_of (VByteArray b) ≡ pack_little_endian 8 (length b) ++ b
  pub uint32_array : (ns : List ℕ) → bytes_of (VUint32Array ns) ≡ pack_little_endian 8 (length ns) ++ pack_little_endian_seq 4 ns
  pub uint64_array : (ns : List ℕ) → bytes_of (VUint64Array ns) ≡ pack_little_endian 8 (length ns) ++ pack_little_endian_seq 8 ns
  pub case : (c : ℕ) (v : Val) → bytes_of (VCase c v) ≡ pack_little_endian 8 c ++ bytes_of v
  pub no_parts : bytes_of_all vnil ≡ []
  pub parts : (v : Val) (vs : Vals) → bytes_of_all (vcons v vs) ≡ bytes_of v ++ bytes_of_all vs

-- "so the rule has to stand without the code": the byte rule and GM's `parse_Val`, `SizeOfV` determine each other, with no call in it.
-- Another spelling that is one-to-one fails `rule`
pub record RuleStands : Type 0 where
  pub rule : ByteRule
  pub parses : (g : G) (v : Val) → ValueOf g v → (rest : List ℕ) → parse_val (bytes_of v ++ rest) g ≡ (some v, rest)
  pub parsed : (g : G) → ValidGrammar g → (d : List ℕ) → Bytes d → (v : Val) (rest : List ℕ) → parse_val d g ≡ (some v, rest) → (d ≡ bytes_of v ++ rest) × ValueOf g v
  pub size : (v : Val) → length (bytes_of v) ≡ SizeOfV v
  -- every number in range is a value of its kind, 9 or 10
  pub int32 : (z : ℤ) → InRange 4 z → ValueOf GInt32 (VInt32 z)
  pub int64 : (z : ℤ) → InRange 8 z → ValueOf GInt64 (VInt64 z)

-- "writing" and "the bytes written are those of its byte rule": `marshall_val` is accepted exactly where the rows stand for a value
-- (`RowsAgree`) and none of 1 to 6 and 12 to 17 is to be given, and puts that value's bytes. `marshall` is the same at index 0. A writer that
-- gives 17 at once fails from right to left: case A's rows are to be written (`writes_A`). One that leaves the output alone, or packs only the
-- first element, fails `there`
abbrev pub WritesTheRule : Type 0
WritesTheRule =
    (g t s out exit : List ℕ) (n index : ℕ) (w : Result ℕ Refusal)
    → Marshalls (marshall_val_of g t n s (length out) index) index w out exit
    → (((size : ℕ) × (outcome_of w ≡ accepted size)) ↔ ((v : Val) × Writes g t n s (length out) index v))
    × ((v : Val) → Writes g t n s (length out) index v → (outcome_of w ≡ accepted (SizeOfV v)) × PutThere (bytes_of v) out index exit)

-- "number packing included": the calls on numbers of w bytes, of which there are those of 4 and of 8, beside PI's sum. Each is accepted exactly
-- where the bytes are there or have room, as w bytes have at index 0 of w. One that refuses all fails from right to left; one that writes
-- other bytes, or makes up a number, fails what follows
pub record NumbersAgree (w : ℕ) : Type 0 where
  -- a packer writes the only bytes with that sum
  pub packs : (n index : ℕ) (out exit : List ℕ) (a : Outcome Reason (Unit {0})) → Fills (put_at out index (pack_little_endian w n)) a out exit → n < 256 ^ w
      → ((a ≡ accepted tt) ↔ (index + w ≤ length out))
      × (a ≡ accepted tt → (bs : List ℕ) × PutThere bs out index exit × Bytes bs × (length bs ≡ w) × (unpack_little_endian w bs ≡ n)
      × ((cs : List ℕ) → Bytes cs → length cs ≡ w → unpack_little_endian w cs ≡ n → cs ≡ bs))
  pub packs_seq : (index : ℕ) (ns out exit : List ℕ) (a : Outcome Reason (Unit {0})) → Fills (put_at out index (pack_little_endian_seq w ns)) a out exit → Below (256 ^ w) ns
      → ((a ≡ accepted tt) ↔ (index + w * length ns ≤ length out))
      × (a ≡ accepted tt → (bs : List ℕ) × PutThere bs out index exit × Bytes bs × (length bs ≡ w * length ns) × (unpack_little_endian_seq w bs (length ns) ≡ ns)
      × ((cs : List ℕ) → Bytes cs → length cs ≡ w * length ns → unpack_little_endian_seq w cs (length ns) ≡ ns → cs ≡ bs))
  pub unpacks : (s : List ℕ) (index n : ℕ) → (unpack_at w s index ≡ accepted n) ↔ ((index + w ≤ length s) × (n ≡ unpack_little_endian w (take w (drop index s))))
  pub unpacks_seq : (s : List ℕ) (index : ℕ) (entry exit : List ℕ) (a : Outcome Reason (Unit {0})) → Fills (unpack_seq_at w s index (length entry)) a entry exit
      → ((a ≡ accepted tt) ↔ (index + w * length entry ≤ length s))
      × (a ≡ accepted tt → (length exit ≡ length entry) × ((i : ℕ) → i < length entry → get_or exit i 0 ≡ unpack_little_endian w (take w (drop (index + w * i) s))))

-- PI's `unpack_LittleEndian_Uint32` and `unpack_LittleEndian_Uint64`, as written there. Nothing is asked of s
pub record SumsAgree : Type 0 where
  pub uint32 : (s : List ℕ) → unpack_little_endian 4 s ≡ get_or s 0 0 + get_or s 1 0 * 0x1_00 + get_or s 2 0 * 0x1_00_00 + get_or s 3 0 * 0x1_00_00_00
  pub uint64 : (s : List ℕ) → unpack_little_endian 8 s ≡ get_or s 0 0 + get_or s 1 0 * 0x1_00 + get_or s 2 0 * 0x1_00_00 + get_or s 3 0 * 0x1_00_00_00 + get_or s 4 0 * 0x1_00_00_00_00 + get_or s 5 0 * 0x1_00_00_00_00_00 + get_or s 6 0 * 0x1_00_00_00_00_00_00 + get_or s 7 0 * 0x1_00_00_00_00_00_00_00

pub record Demand2 : Type 0 where
  pub parse_val_agrees : ParseValAgrees
  pub demarshall_agrees : DemarshallAgrees
  pub checks_agree : ChecksAgree
  pub rows_agree : RowsAgree
  pub sizes_agree : SizesAgree
  pub rows_say_sizes : RowsSaySizes
  pub signed_agrees : SignedAgrees
  pub signed_rule : (w : ℕ) → 0 < w → SignedRule w
  pub rule_stands : RuleStands
  pub writes_the_rule : WritesTheRule
  pub numbers_agree : (w : ℕ) → NumbersAgree w
  pub sums_agree : SumsAgree

-- ==== Demand 3. "A record has one meaning."

-- "Whatever grammar passes its check": a slice of u32 words that `check_grammar` accepts
pub record Grammar (g : List ℕ) : Type 0 where
  pub words : Below (2 ^ 32) g
  pub passes : check_grammar g ≡ accepted tt

-- "some value of that grammar": a `V` that meets `ValInGrammar` with the tree of node 0, each element count below 2^64, in Dafny's types
pub record ValueOfGrammar (g : List ℕ) (v : Val) : Type 0 where
  pub in_grammar : ValInGrammar v (tree_of g 0)
  pub counts : CountsBelow v
  pub typed : TypedVal v

-- d "is the bytes of" the value v of the grammar
pub record RecordOf (g d : List ℕ) (v : Val) : Type 0 where
  pub value : ValueOfGrammar g v
  pub bytes : d ≡ bytes_of v

-- "whatever bytes come as the record, up to 1,048,576 of them, and whatever rows are lent": `demarshall` was called with them, and its
-- contract allows the answer r and these rows at exit. Of the rows at entry nothing is asked. The call is proved to meet its contract, so
-- there are an r and an exit on every input; case A's are `reading-A` of proofs/Examples.antt
pub record WholeReading (g d rows : List ℕ) (r : Result Parsed Refusal) (exit : List ℕ) : Type 0 where
  pub grammar : Grammar g
  pub bytes : Bytes d
  pub short : length d ≤ 1048576
  pub call : Parses (demarshall_of g d (capacity_of (length rows))) 0 r rows exit

-- (a) "the whole reading accepts the record exactly when it is the bytes of some value of that grammar that fits the rows lent".
-- A reader that refuses all, or gives 8 at once, fails from right to left: case A's record is the bytes of a value (`record_A`) that fits the
-- rows lent in `reading-A`, where it is accepted
abbrev pub AcceptsExactly : Type 0
AcceptsExactly =
    (g d rows exit : List ℕ) (r : Result Parsed Refusal) → WholeReading g d rows r exit
    → ((k : Counts) × (parsed_of r ≡ accepted k)) ↔ ((v : Val) × RecordOf g d v × (row_count v ≤ capacity_of (length rows)))

-- n rows at exit are what the whole reading of d hands out, and v is their value
pub record HandedOut (g d rows : List ℕ) (n : ℕ) (exit : List ℕ) (v : Val) : Type 0 where
  pub of_record : RecordOf g d v
  pub count : n ≡ row_count v
  pub layout : take (row_width * n) exit ≡ rows_of v 0
  pub walked : walk exit n d ≡ accepted v
  pub kept : drop (row_width * n) exit ≡ drop (row_width * n) rows
  pub words : length exit ≡ length rows
  -- of however many rows
  pub only : (u : Val) → RecordOf g d u → u ≡ v

-- (b) "and then it hands out that value, the only one with these bytes".
-- A reader that hands out one constant value fails `of_record`: values of a grammar differ in their bytes (e)
abbrev pub HandsOut : Type 0
HandsOut =
    (g d rows exit : List ℕ) (r : Result Parsed Refusal) → WholeReading g d rows r exit
    → (k : Counts) → parsed_of r ≡ accepted k → (v : Val) × HandedOut g d rows k.rows exit v × (k.rest_index ≡ length d)

-- (c) "the record of a value that needs more rows is refused by number 8".
-- Whatever rows are lent there is such a record and a reading of it: an array of 4,096 constants, of 8 bytes (`record_C`, `rows-C`,
-- `reading-C`)
abbrev pub NeedsMoreRows : Type 0
NeedsMoreRows =
    (g d rows exit : List ℕ) (r : Result Parsed Refusal) → WholeReading g d rows r exit
    → (v : Val) → RecordOf g d v → capacity_of (length rows) < row_count v → (place : ℕ) × (parsed_of r ≡ refused (reason 8 (byte place))) × (exit ≡ rows)

-- and the converse: of a record that is refused, by 8 or another number, no value that fits has the bytes. `reading-C` is refused
abbrev pub NoneFits : Type 0
NoneFits =
    (g d rows exit : List ℕ) (r : Result Parsed Refusal) → WholeReading g d rows r exit
    → (e : Reason) → parsed_of r ≡ refused e → (v : Val) → RecordOf g d v → capacity_of (length rows) < row_count v

-- (d) "Writing what was handed out, at whatever place of an output long enough, is accepted and puts exactly the record there again":
-- `marshall_val` is given the slice as the reading left it, whatever stands behind row n − 1, n, the record as store and the same grammar.
-- Of the output's length nothing else is asked. A writer that gives 17 at once or leaves the output alone fails. `rewrite` of `rewriting` does
-- both, and its contract says this of code
abbrev pub WritesBack : Type 0
WritesBack =
    (g d rows exit : List ℕ) (r : Result Parsed Refusal) → WholeReading g d rows r exit
    → (k : Counts) → parsed_of r ≡ accepted k
    → (out : List ℕ) (index : ℕ) → index + length d ≤ length out
    → (w : Result ℕ Refusal) (after : List ℕ) → Marshalls (marshall_val_of g exit k.rows d (length out) index) index w out after → (outcome_of w ≡ accepted (length d)) × PutThere d out index after

-- and `marshall`, which takes no index
abbrev pub WritesBackWhole : Type 0
WritesBackWhole =
    (g d rows exit : List ℕ) (r : Result Parsed Refusal) → WholeReading g d rows r exit
    → (k : Counts) → parsed_of r ≡ accepted k
    → (out : List ℕ) → length d ≤ length out
    → (w : Result ℕ Refusal) (after : List ℕ) → Marshalls (marshall_val_of g exit k.rows d (length out) 0) 0 w out after → (outcome_of w ≡ accepted (length d)) × PutThere d out 0 after

-- the first bytes, from none to all
pub record FrontPart (part whole : List ℕ) : Type 0 where
  pub count : ℕ
  pub most : count ≤ length whole
  pub first : part ≡ take count whole

-- (e) "of any two different values of one such grammar, each of at most 4,096 rows and 1,048,576 bytes, neither has bytes that equal the
-- other's or are a front part of them". It holds without these limits, so they are not asked. No reader is in it.
-- The grammar of one uint32 has two different values (`two-values`); the bytes are the byte rule's, so another one-to-one spelling is another statement
abbrev pub NoFrontPart : Type 0
NoFrontPart =
    (g : List ℕ) → Grammar g → (u v : Val) → ValueOfGrammar g u → ValueOfGrammar g v → ¬ (u ≡ v)
    → ¬ (FrontPart (bytes_of u) (bytes_of v)) × ¬ (FrontPart (bytes_of v) (bytes_of u))

pub record Demand3 : Type 0 where
  pub accepts_exactly : AcceptsExactly
  pub hands_out : HandsOut
  pub needs_more_rows : NeedsMoreRows
  pub none_fits : NoneFits
  pub writes_back : WritesBack
  pub writes_back_whole : WritesBackWhole
  pub no_front_part : NoFrontPart
