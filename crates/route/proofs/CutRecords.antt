-- Request 04, proved: from the law of readings (`whole-cut`) to the calls.
use Rattle.std.proofs.Common.{◌≡◌, refl, sym, ap, ◌∙◌, List, ℕ, ◌≤◌, ◌<◌, arith, length, take, length-take-le, Result}
use Rattle.refusal.specs.declared.Refusal.{Refusal}
use Rattle.refusal.specs.Outcome.{Outcome, accepted, refused, map, Reason}
use Rattle.refusal.proofs.Outcome.{bind_inverse, map-accepted}
use Rattle.packed.specs.Packed.{unpack_little_endian, unpack_little_endian_seq}
use Rattle.value.specs.Kinds.{kinds, kind_of}
use Rattle.value.specs.Tree.{Val}
use Rattle.value.specs.Step.{Step}
use Rattle.value.specs.Reading.{State, start, claim, take_number, take_numbers, read_body, read_at, read_whole}
use Rattle.value.proofs.Cut.{whole-cut}
use Rattle.grammar.specs.Check.{check_layout, check_node, check_children, check_nodes, check_grammar}
use Rattle.grammar.specs.Tree.{node_tree, child_trees, tree_to, tree_of}
use Rattle.grammar.proofs.Rule.{accepted_exactly}
use Rattle.admission.specs.Admission.{capacity_of}
use Rattle.admission.proofs.Admission.{admitted}
use Rattle.reading.specs.Meaning.{parsed_of}
use Rattle.reading.specs.Calls.{without_state, parse_val_of, demarshall_of, counts_of, Parses}
use Rattle.reading.specs.declared.Parsed.{Parsed}
use Rattle.reading.proofs.Calls.{without_state-accepted, parse-accepted, whole-accepted, checked}
use Rattle.answer_c.specs.Answer.{answer_of, count_values}
use Rattle.answer_c.specs.declared.RouteAnswer.{RouteAnswer}
use Rattle.route.specs.Bench.{grammar_a, record_a, grammar_d}
use Rattle.route.specs.Accepted.{IsAccepted, is_accepted}
use Rattle.route.specs.CutRecords.{ProperFrontPart, RefusedWith9, CutReading, CutRecords, NotClaimed}
use Rattle.route.proofs.Reading.{rows-kept}
use Rattle.route.proofs.Examples.{reading-A}
use Rattle.route.proofs.Accepted.{number-zero}

-- a call that accepted passed 1 to 6, and so does one with the same grammar and a front part, since that is not longer than the record
reading : CutReading
reading g d part capacity t h p =
    let k : ℕ = p.front.count in
    let a = admitted g d 0 (parse-accepted g d 0 capacity t (whole-accepted g d capacity t h)).0 in
    let passes : check_grammar g ≡ accepted tt = (accepted_exactly g).1 a.0 in
    let w : read_whole capacity d (tree_of g 0) ≡ accepted t = without_state-accepted _ t (sym (checked g d capacity passes a.1) ∙ h) in
    let c = whole-cut capacity d (tree_of g 0) t w k (omega (arith, p.less)) in
    let l : length (take k d) ≤ 1048576 = omega (arith, length-take-le k d p.front.most, p.less, a.1) in
    (c.0.at, ap (λ (b : List ℕ). demarshall_of g b capacity) p.front.first ∙ checked g (take k d) capacity passes l ∙ ap without_state c.1)

-- an answer that is the outcome's
answered : {o : Outcome Reason (Step State Val)} (q : Result Parsed Refusal) → parsed_of q ≡ map counts_of o → RefusedWith9 o → RefusedWith9 (parsed_of q)
answered q h c = (c.0, h ∙ ap (map counts_of) c.1)

is-accepted : {E A : Type 0} {o : Outcome E A} → IsAccepted o → (a : A) × (o ≡ accepted a)
is-accepted (is_accepted a) = (a, refl)

pub cut_records : CutRecords
cut_records = record {
  reading = reading;
  check = λ g d part capacity r q h k e p i.
      let y = map-accepted counts_of (demarshall_of g d capacity) (sym h ∙ e) in
      answered q i (reading g d part capacity y.0 y.1 p);
  whole = λ g d part rows exit rows' exit' r q h k e p n i.
      let y = map-accepted counts_of (demarshall_of g d (capacity_of (length rows))) (sym h.answers ∙ e) in
      let c : RefusedWith9 (demarshall_of g part (capacity_of (length rows'))) = rw n (reading g d part (capacity_of (length rows)) y.0 y.1 p) in
      (answered q i.answers c, rows-kept i c.1);
  answerC = λ g d part capacity r q h z p i.
      let a = is-accepted ((number-zero.whole_reading g d capacity).0 (ap (λ (x : RouteAnswer). x.number) (sym h) ∙ z)) in
      let y = map-accepted counts_of (demarshall_of g d capacity) a.1 in
      let c = reading g d part capacity y.0 y.1 p in
      ap (λ (x : RouteAnswer). x.number) i ∙ ap (λ (o : Outcome Reason (Step State Val)). (answer_of (map count_values (map counts_of o))).number) c.1;
}

-- the first k bytes
pub proper_front : (d : List ℕ) (k : ℕ) → k < length d → ProperFrontPart (take k d) d
proper_front d k l = record { front = record { count = k; most = omega arith; first = refl }; less = omega arith }

-- case A: each of its proper front parts, with whatever rows, of the capacity that `reading-A` lends
pub cut-A : (k : ℕ) → k < 14 → (rows exit : List ℕ) (q : Result Parsed Refusal) → capacity_of (length rows) ≡ 3 → Parses (demarshall_of grammar_a (take k record_a) (capacity_of (length rows))) 0 q rows exit → RefusedWith9 (parsed_of q) × (exit ≡ rows)
cut-A k l rows exit q n h = cut_records.whole grammar_a record_a (take k record_a) _ _ rows exit _ q reading-A.call _ refl (proper_front record_a k l) n h

-- the empty union has no case, so no tag is accepted
no_record : (d : List ℕ) (capacity : ℕ) (t : Step State Val) → ¬ (demarshall_of grammar_d d capacity ≡ accepted t)
unfolding tree_of tree_to node_tree child_trees kind_of kinds read_body
no_record d capacity t h =
    let s = bind_inverse (claim capacity (start 0)) _ (parse-accepted grammar_d d 0 capacity t (whole-accepted grammar_d d capacity t h)).1 in
    let c = bind_inverse (take_number d 8 s.0) _ s.2 in
    let e : refused _ ≡ accepted t = c.2 in
    let z : ◌≡◌ {A = ℕ} 0 1 = cc in omega arith

pub not-claimed : NotClaimed
unfolding parse_val_of demarshall_of check_grammar check_layout check_nodes check_node check_children tree_of tree_to node_tree child_trees kind_of kinds read_at read_whole claim take_number take_numbers read_body unpack_little_endian unpack_little_endian_seq
not-claimed = record {
  only_cut = (refl, no_record);
  from_index = (_, _, refl, refl);
  fewer_rows = (_, refl, refl);
}
