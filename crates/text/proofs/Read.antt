-- From an input to its text: the reading of its record, and the rows of the table that the reading fills.
use Rattle.std.proofs.Common.{◌≡◌, refl, ap, ap₂, List, ◌++◌, ℕ, zero, suc, ◌+◌, ◌*◌, ◌≤◌, ◌<◌, arith, length, get_or, take, drop, subst, Result, Ok, Err}
use Rattle.std.proofs.lemmas.List.{get_or_append_left}
use Rattle.refusal.specs.Outcome.{Outcome, accepted, refused, Fills, Reason}
use Rattle.refusal.specs.declared.Refusal.{Refusal}
use Rattle.refusal.specs.Meaning.{reason_of}
use Rattle.refusal.proofs.Outcome.{bind_inverse}
use Rattle.packed.specs.Packed.{put, unpack_seq_at}
use Rattle.packed.proofs.Calls.{present-all}
use Rattle.value.specs.Tree.{Val, row_count}
use Rattle.value.specs.Step.{Step}
use Rattle.value.specs.Reading.{State, start}
use Rattle.value.proofs.Agreement.{agrees, agrees_accepted}
use Rattle.grammar.specs.Tree.{tree_of}
use Rattle.tables.specs.Row.{row_width, row_at}
use Rattle.rows.specs.Layout.{rows_of}
use Rattle.rows.proofs.LayoutLaws.{length_rows_of}
use Rattle.reading.specs.declared.Parsed.{Parsed}
use Rattle.admission.specs.Admission.{capacity_of}
use Rattle.reading.specs.Meaning.{Counts}
use Rattle.reading.specs.Calls.{demarshall_of, counts_of, Parses}
use Rattle.reading.proofs.Calls.{parse-accepted, whole-accepted}
use Rattle.input.specs.declared.Layout.{Layout}
use Rattle.input.specs.Input.{layout_of, words_at, grammar_of, record_of}
use Rattle.text.specs.Text.{line, lines_of, rows_text, refusal_text}
use Rattle.text.specs.Show.{most_rows, read_input, shown}

-- words that are there are unpacked
pub words_read : (input words : List ℕ) {answer : Outcome Reason (Unit {0})} {exit : List ℕ} → 4 + 4 * length words ≤ length input → Fills (unpack_seq_at 4 input 4 (length words)) answer words exit → (answer ≡ accepted tt) × (exit ≡ words_at input (length words))
words_read input words h f =
    let p = present-all (length input) 4 (4 * length words) h in
    (rw (← p) at f.answers, rw (← p) at f.buffer)

-- a reading by the words of the grammar, with the words of so many rows
pub record_read : (d rows : List ℕ) {g words exit : List ℕ} {r : Result Parsed Refusal} → words ≡ g → length rows ≡ row_width * most_rows → Parses (demarshall_of words d (capacity_of (length rows))) 0 r rows exit → Parses (demarshall_of g d most_rows) 0 r rows exit
record_read d rows {g} {words} {exit} {r} e l p =
    subst (λ (w : List ℕ). Parses (demarshall_of w d most_rows) 0 r rows exit) e
    (subst (λ (k : ℕ). Parses (demarshall_of words d (capacity_of k)) 0 r rows exit) l p)

-- an input that is not laid out, and one that is
module _ (input : List ℕ) where
  pub input_refused : {rows : List ℕ} {f : Refusal} → refused (reason_of f) ≡ layout_of input → Parses (read_input input) 0 (Err f) rows rows
  unfolding read_input
  input_refused {rows} {f} h = rw (← h) (record { answers = refl; rows = refl })

  pub input_read : (p : Layout) {words size : ℕ} {r : Result Parsed Refusal} {rows exit : List ℕ} → accepted p ≡ layout_of input → words ≡ p.words → size ≡ p.size → Parses (demarshall_of (words_at input words) (take size (drop p.start input)) most_rows) 0 r rows exit → Parses (read_input input) 0 r rows exit
  unfolding read_input
  input_read p {words} {size} {r} {rows} {exit} h w e q = rw (← h, ← w, ← e) q

-- a value that was read has as many rows as it is answered, and they fit
record Counted (t : Step State Val) : Type 0 where
  count : t.state.begun ≡ row_count t.value
  few : row_count t.value ≤ most_rows

demarshall_counted : (g d : List ℕ) (t : Step State Val) → demarshall_of g d most_rows ≡ accepted t → Counted t
demarshall_counted g d t h =
    let r = (parse-accepted g d 0 most_rows t (whole-accepted g d most_rows t h)).1 in
    let a = agrees_accepted (agrees most_rows d (tree_of g 0) (start 0) (omega arith)) t r in
    record { count = omega (arith, a.1); few = omega (arith, a.2) }

input_counted : (input : List ℕ) (t : Step State Val) → read_input input ≡ accepted t → Counted t
unfolding read_input
input_counted input t h = let b = bind_inverse (layout_of input) _ h in demarshall_counted (grammar_of input b.0) (record_of input b.0) t b.2

-- rows with the same words have the same lines
lines_same : (t u : List ℕ) (n : ℕ) → ((j : ℕ) → j < row_width * n → get_or t j 0 ≡ get_or u j 0) → lines_of t n ≡ lines_of u n
unfolding lines_of
lines_same t u zero h = refl
lines_same t u (suc n) h =
    let r : row_at t n ≡ row_at u n = rw (h (row_width * n) (omega arith), h (row_width * n + 1) (omega arith), h (row_width * n + 2) (omega arith), h (row_width * n + 3) (omega arith), h (row_width * n + 4) (omega arith)) in
    ap₂ (λ (x y : List ℕ). x ++ y) (lines_same t u n (λ j l. h j (omega arith))) (ap line r)

rows_put : (out ws : List ℕ) (n : ℕ) → row_width * n ≤ length ws → rows_text (put out 0 ws) n ≡ rows_text ws n
unfolding put
rows_put out ws n h = rw (lines_same (ws ++ drop (0 + length ws) out) ws n (λ j l. get_or_append_left ws (drop (0 + length ws) out) 0 j (omega arith)))

module _ (input : List ℕ) {rows exit : List ℕ} where
  -- a reading that was accepted, with the table that it filled, is printed as its outcome
  pub rows_shown : {p : Parsed} → Parses (read_input input) 0 (Ok p) rows exit → (p.rows ≤ most_rows) × (rows_text exit p.rows ≡ shown (read_input input))
  unfolding shown
  rows_shown {p} h = go (read_input input) (input_counted input) h
    where
      go : (o : Outcome Reason (Step State Val)) → ((t : Step State Val) → o ≡ accepted t → Counted t) → Parses o 0 (Ok p) rows exit → (p.rows ≤ most_rows) × (rows_text exit p.rows ≡ shown o)
      go (accepted t) f r =
          let k = f t refl in
          let a = r.answers in
          let q : ◌≡◌ {A = Counts} (record { rows = p.rows; rest_index = p.rest_index }) (counts_of t) = cc in
          let e : p.rows ≡ t.state.begun = ap (λ (x : Counts). x.rows) q in (
            omega (arith, k.count, k.few),
            rw (e, r.rows) (rows_put rows (rows_of t.value 0) t.state.begun (omega (arith, length_rows_of t.value 0, k.count))),
          )
      go (refused e) f r = let a = r.answers in let z : ◌≡◌ {A = ℕ} 0 1 = cc in absurd (omega arith)

  -- and one that was refused
  pub refusal_shown : {f : Refusal} → Parses (read_input input) 0 (Err f) rows exit → refusal_text (reason_of f) ≡ shown (read_input input)
  unfolding shown
  refusal_shown {f} h = go (read_input input) h
    where
      go : (o : Outcome Reason (Step State Val)) → Parses o 0 (Err f) rows exit → refusal_text (reason_of f) ≡ shown o
      go (accepted t) r = let a = r.answers in let z : ◌≡◌ {A = ℕ} 0 1 = cc in absurd (omega arith)
      go (refused e) r = let a = r.answers in let q : reason_of f ≡ e = cc in ap refusal_text q
