-- What a whole reading comes to: the value that it hands out, and that the rows walk back to it.
use Rattle.std.proofs.Common.{◌≡◌, sym, ap, ◌∙◌, List, ◌++◌, ℕ, ◌*◌, ◌≤◌, ◌<◌, zero-add, arith, length, take, drop, take_all, take_at, drop_at, Result}
use Rattle.refusal.specs.declared.Refusal.{Refusal}
use Rattle.refusal.specs.Outcome.{Outcome, accepted, refused, map, contents, Reason, reason, byte}
use Rattle.refusal.proofs.Outcome.{map-accepted}
use Rattle.packed.specs.Packed.{put}
use Rattle.packed.proofs.Put.{length-put}
use Rattle.value.specs.Tree.{Val, Vals, VConstant, VNumber, VArray, VTuple, VNumberArray, VCase, vnil, vcons, ValidVal, ValidVals, CountsBelow, CountsBelowAll, ValueOf, SizeOfV, row_count}
use Rattle.value.specs.Bytes.{bytes_of}
use Rattle.value.specs.Step.{Step}
use Rattle.value.specs.Reading.{State, stop, start, read_whole, read_to}
use Rattle.value.proofs.Laws.{valid-counts, length_bytes_of}
use Rattle.value.proofs.Reading.{whole-fits, whole-short, whole-accepted}
use Rattle.grammar.specs.Tree.{tree_of}
use Rattle.grammar.proofs.Tree.{tree_valid}
use Rattle.tables.specs.Row.{row_width}
use Rattle.rows.specs.Layout.{rows_of}
use Rattle.rows.specs.Rule.{TableOf}
use Rattle.rows.proofs.LayoutLaws.{length_rows_of, layout-table}
use Rattle.reading.specs.Meaning.{Counts, parsed_of}
use Rattle.admission.specs.Admission.{capacity_of}
use Rattle.reading.specs.Calls.{without_state, demarshall_of, counts_of, Parses}
use Rattle.reading.specs.declared.Parsed.{Parsed}
use Rattle.reading.proofs.Calls.{without_state-accepted, checked}
use Rattle.route.specs.Demands.{Grammar, ValueOfGrammar, RecordOf, WholeReading}

-- ---- values

mutual
  unfolding ValidVal CountsBelow

  counts-valid : (v : Val) → ValidVal v → CountsBelow v
  counts-valid VConstant h = tt
  counts-valid (VNumber k n) h = tt
  counts-valid (VArray vs) h = (h.0, counts_all vs h.1)
  counts-valid (VTuple vs) h = counts_all vs h.1
  counts-valid (VNumberArray k ns) h = h
  counts-valid (VCase c v) h = counts-valid v h

  counts_all : (vs : Vals) → ValidVals vs → CountsBelowAll vs
  counts_all vnil h = tt
  counts_all (vcons v vs) h = (counts-valid v h.0, counts_all vs h.1)

-- the demand's values of a grammar are the theory's
pub value_of : {g : List ℕ} {v : Val} → Grammar g → ValueOfGrammar g v → ValueOf (tree_of g 0) v
value_of {g} w o = record { in_grammar = o.in_grammar; valid = valid-counts (tree_valid g w.words 0) o.in_grammar o.counts; typed = o.typed }

pub of-value : {g : List ℕ} {v : Val} → ValueOf (tree_of g 0) v → ValueOfGrammar g v
of-value {g} {v} o = record { in_grammar = o.in_grammar; counts = counts-valid v o.valid; typed = o.typed }

-- ---- the rows of a call

module _ {o : Outcome Reason (Step State Val)} {index : ℕ} {r : Result Parsed Refusal} {rows exit : List ℕ} (h : Parses o index r rows exit) where
  pub rows-laid : (t : Step State Val) → o ≡ accepted t → exit ≡ put rows 0 (rows_of t.value index)
  rows-laid t q = h.rows ∙ ap (λ (o : Outcome Reason (Step State Val)). contents (map (λ t. put rows 0 (rows_of t.value index)) o) rows) q

  pub rows-kept : {e : Reason} → o ≡ refused e → exit ≡ rows
  rows-kept q = h.rows ∙ ap (λ (o : Outcome Reason (Step State Val)). contents (map (λ t. put rows 0 (rows_of t.value index)) o) rows) q

-- ---- the whole reading

-- what is known of an accepted reading
pub record ReadOut (g d rows : List ℕ) (k : Counts) (exit : List ℕ) (v : Val) : Type 0 where
  pub of_record : RecordOf g d v
  pub valid : ValueOf (tree_of g 0) v
  pub fits : row_count v ≤ capacity_of (length rows)
  pub count : k.rows ≡ row_count v
  pub end : k.rest_index ≡ length d
  pub rows_laid : exit ≡ put rows 0 (rows_of v 0)

module _ {g d rows exit : List ℕ} {r : Result Parsed Refusal} (h : WholeReading g d rows r exit) where
  capacity : ℕ
  capacity = capacity_of (length rows)

  pub read_out : (k : Counts) → parsed_of r ≡ accepted k → (v : Val) × ReadOut g d rows k exit v
  unfolding capacity
  read_out k e =
      let y = map-accepted counts_of (demarshall_of g d capacity) (sym h.call.answers ∙ e) in
      let t = y.0 in
      let x = whole-accepted capacity d (tree_of g 0) (tree_valid g h.grammar.words 0) h.bytes t (without_state-accepted _ t (sym (checked g d capacity h.grammar.passes h.short) ∙ y.1)) in
      let n : k ≡ counts_of (read_to t.value (start 0)) = y.2 ∙ ap counts_of x.3 in (
        t.value,
        record {
          of_record = record { value = of-value x.0; bytes = x.1 };
          valid = x.0;
          fits = x.2;
          count = ap (λ (c : Counts). c.rows) n ∙ omega arith;
          end = ap (λ (c : Counts). c.rest_index) n ∙ omega (arith, ap length x.1, length_bytes_of t.value);
          rows_laid = rows-laid h.call t y.1;
        },
      )

  module _ (v : Val) (o : RecordOf g d v) where
    of_theory : ValueOf (tree_of g 0) v
    of_theory = value_of h.grammar o.value

    pub read_fits : row_count v ≤ capacity_of (length rows) → (k : Counts) × (parsed_of r ≡ accepted k)
    unfolding capacity
    read_fits l =
        let e : read_whole capacity d (tree_of g 0) ≡ accepted (read_to v (start 0)) = rw o.bytes (whole-fits capacity (tree_of g 0) v of_theory l) in
        (_, h.call.answers ∙ ap (map counts_of) (checked g d capacity h.grammar.passes h.short ∙ ap without_state e))

    pub read_short : capacity_of (length rows) < row_count v → (place : ℕ) × (parsed_of r ≡ refused (reason 8 (byte place))) × (exit ≡ rows)
    unfolding capacity
    read_short l =
        let s = whole-short capacity (tree_of g 0) v of_theory l in
        let q : read_whole capacity d (tree_of g 0) ≡ refused (stop 8 s.0) = ap (λ (b : List ℕ). read_whole capacity b (tree_of g 0)) o.bytes ∙ s.1 in
        let e : demarshall_of g d capacity ≡ refused (reason 8 (byte s.0.at)) = checked g d capacity h.grammar.passes h.short ∙ ap without_state q in
        (s.0.at, h.call.answers ∙ ap (map counts_of) e, rows-kept h.call e)

-- ---- the rows at exit

-- words put in front of others
pub put_front : (out front : List ℕ) → put out 0 front ≡ front ++ drop (length front) out
unfolding put
put_front out front = rw (zero-add (length front))

-- of an accepted reading
module _ {g d rows exit : List ℕ} {k : Counts} {v : Val} (short : length d ≤ 1048576) (x : ReadOut g d rows k exit v) where
  front : exit ≡ rows_of v 0 ++ drop (length (rows_of v 0)) rows
  front = x.rows_laid ∙ put_front rows (rows_of v 0)

  rows-length : length (rows_of v 0) ≡ row_width * k.rows
  rows-length = length_rows_of v 0 ∙ ap (λ (n : ℕ). row_width * n) (sym x.count)

  pub exit_layout : take (row_width * k.rows) exit ≡ rows_of v 0
  exit_layout = ap (take (row_width * k.rows)) front ∙ take_at (rows_of v 0) (drop (length (rows_of v 0)) rows) (row_width * k.rows) rows-length

  pub exit_kept : drop (row_width * k.rows) exit ≡ drop (row_width * k.rows) rows
  exit_kept = ap (drop (row_width * k.rows)) front ∙ drop_at (rows_of v 0) (drop (length (rows_of v 0)) rows) (row_width * k.rows) rows-length ∙ ap (λ (n : ℕ). drop n rows) rows-length

  pub exit_length : length exit ≡ length rows
  exit_length = ap length x.rows_laid ∙ length-put rows 0 (rows_of v 0) (omega (arith, length_rows_of v 0, x.fits))

  pub exit_table : TableOf exit k.rows d v
  exit_table =
      let n : SizeOfV v ≡ length d = sym (length_bytes_of v) ∙ ap length (sym x.of_record.bytes) in
      let b : take (SizeOfV v) (drop 0 d) ≡ bytes_of v = take_all (SizeOfV v) d (omega arith) ∙ x.of_record.bytes in
      let e : TableOf (rows_of v 0 ++ drop (length (rows_of v 0)) rows) (row_count v) d v = layout-table v 0 (drop (length (rows_of v 0)) rows) d (omega (arith, x.fits)) short x.valid.valid x.valid.typed b in
      rw (front, x.count) e
