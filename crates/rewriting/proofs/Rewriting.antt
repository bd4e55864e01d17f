-- `rewrite` does what demand 3 says of reading and writing.
use Rattle.std.proofs.Common.{◌≡◌, refl, sym, ap, ◌∙◌, List, ◌++◌, ℕ, ◌+◌, ◌*◌, ◌^◌, ◌≤◌, one-mul, arith, length, drop, take-append-drop, drop-drop, Result, Err}
use Rattle.refusal.specs.Outcome.{Outcome, accepted, refused, bind, map, contents, Reason}
use Rattle.refusal.proofs.Outcome.{map-accepted, map-refused}
use Rattle.refusal.specs.Meaning.{reason_of, outcome_of}
use Rattle.refusal.specs.declared.Refusal.{Refusal}
use Rattle.packed.specs.Packed.{Bytes, Below, room, put}
use Rattle.packed.proofs.Calls.{room_fits}
use Rattle.value.specs.Tree.{Val}
use Rattle.value.specs.Step.{Step}
use Rattle.value.specs.Reading.{State}
use Rattle.grammar.specs.Check.{check_grammar}
use Rattle.grammar.proofs.Rule.{accepted_exactly}
use Rattle.rows.specs.Layout.{rows_of}
use Rattle.reading.specs.Meaning.{Counts, parsed_of}
use Rattle.admission.specs.Admission.{capacity_of}
use Rattle.reading.specs.Calls.{demarshall_of, counts_of, Parses}
use Rattle.reading.specs.declared.Parsed.{Parsed}
use Rattle.admission.proofs.Admission.{admitted}
use Rattle.reading.proofs.Calls.{parse-accepted, whole-accepted}
use Rattle.sizing.specs.Writes.{marshall_val_of}
use Rattle.writing.specs.Marshall.{Marshalls}
use Rattle.route.specs.Demands.{PutThere}
use Rattle.route.specs.Rewriting.{rewrite_of, Rewrites}
use Rattle.route.proofs.Reading.{rows-laid, rows-kept}
use Rattle.route.proofs.Demand3.{demand3}

-- what was put is all that was
put_is : (bs out : List ℕ) (index : ℕ) (exit : List ℕ) → PutThere bs out index exit → exit ≡ put out index bs
unfolding put
put_is bs out index exit p =
    let b : drop index exit ≡ bs ++ drop (index + length bs) out = sym (take-append-drop (length bs) (drop index exit)) ∙ rw (p.there, drop-drop (length bs) index exit, p.behind) in
    sym (take-append-drop index exit) ∙ rw (p.before, b)

-- an accepted reading passed the grammar's check, and the record is short enough
read_passed : (g d : List ℕ) (capacity : ℕ) (t : Step State Val) → demarshall_of g d capacity ≡ accepted t → (check_grammar g ≡ accepted tt) × (length d ≤ 1048576)
read_passed g d capacity t h =
    let p = admitted g d 0 (parse-accepted g d 0 capacity t (whole-accepted g d capacity t h)).0 in
    ((accepted_exactly g).1 p.0, p.1)

module _ (g d rows out : List ℕ) (index : ℕ) where
  -- room, as the code asks for it, before the reading
  after_room : {x : Outcome Reason (Unit {0})} → x ≡ room (length out) index (1 * length d) → rewrite_of g d (capacity_of (length rows)) (length out) index ≡ bind x (λ _. demarshall_of g d (capacity_of (length rows)))
  unfolding rewrite_of
  after_room h = ap (λ (o : Outcome Reason (Unit {0})). bind o (λ _. demarshall_of g d (capacity_of (length rows)))) (ap (room (length out) index) (sym (one-mul (length d))) ∙ sym h)

  -- by the outcome
  rewrites : {r : Result ℕ Refusal} {filled exit : List ℕ} (o : Outcome Reason (Step State Val)) → rewrite_of g d (capacity_of (length rows)) (length out) index ≡ o → outcome_of r ≡ map (λ _. length d) o → filled ≡ contents (map (λ t. put rows 0 (rows_of t.value 0)) o) rows → exit ≡ contents (map (λ _. put out index d) o) out → Rewrites g d rows out index r filled exit
  rewrites o e a l p = record {
    answers = a ∙ ap (map (λ _. length d)) (sym e);
    layout = l ∙ ap (λ (x : Outcome Reason (Step State Val)). contents (map (λ t. put rows 0 (rows_of t.value 0)) x) rows) (sym e);
    output = p ∙ ap (λ (x : Outcome Reason (Step State Val)). contents (map (λ _. put out index d) x) out) (sym e);
  }

  pub no_room_lem : {f : Refusal} → refused (reason_of f) ≡ room (length out) index (1 * length d) → Rewrites g d rows out index (Err f) rows out
  no_room_lem {f} h = rewrites (refused (reason_of f)) (after_room h) refl refl refl

  module _ {p : Result Parsed Refusal} {filled : List ℕ} (h : accepted tt ≡ room (length out) index (1 * length d)) (q : Parses (demarshall_of g d (capacity_of (length rows))) 0 p rows filled) where
    pub not-read : {f : Refusal} → parsed_of p ≡ refused (reason_of f) → Rewrites g d rows out index (Err f) filled out
    not-read {f} e =
        let o = map-refused counts_of (demarshall_of g d (capacity_of (length rows))) (sym q.answers ∙ e) in
        rewrites (refused (reason_of f)) (after_room h ∙ o) refl (rows-kept q o) refl

    pub rewritten : Below (2 ^ 32) g → Bytes d → (k : Counts) → parsed_of p ≡ accepted k → {r : Result ℕ Refusal} {exit : List ℕ} → Marshalls (marshall_val_of g filled k.rows d (length out) index) index r out exit → Rewrites g d rows out index r filled exit
    rewritten w b k e {r} {exit} m =
        let y = map-accepted counts_of (demarshall_of g d (capacity_of (length rows))) (sym q.answers ∙ e) in
        let a = read_passed g d (capacity_of (length rows)) y.0 y.1 in
        let x = demand3.writes_back g d rows filled p (record { grammar = record { words = w; passes = a.0 }; bytes = b; short = a.1; call = q }) k e out index (omega (arith, room_fits (length out) index (1 * length d) h)) r exit m in
        rewrites (accepted y.0) (after_room h ∙ y.1) x.0 (rows-laid q y.0 y.1) (put_is d out index exit x.1)
