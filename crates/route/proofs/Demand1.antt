-- Demand 1, proved: an outcome has at most one answer, when each definition refuses, and that a refusal leaves every buffer as it was.
use Rattle.std.proofs.Common.{sym, ap, ◌∙◌, List, ℕ, ◌*◌, length}
use Rattle.refusal.specs.Outcome.{Outcome, map, contents, Reason}
use Rattle.refusal.proofs.Outcome.{map-refused}
use Rattle.refusal.proofs.Meaning.{outcome_injective}
use Rattle.packed.specs.Packed.{put}
use Rattle.value.specs.Tree.{Val, SizeOfV}
use Rattle.value.specs.Bytes.{bytes_of}
use Rattle.value.specs.Step.{Step}
use Rattle.value.specs.Reading.{State}
use Rattle.grammar.proofs.Rule.{refused_exactly}
use Rattle.rows.specs.Layout.{rows_of}
use Rattle.rows.proofs.Meaning.{located_injective}
use Rattle.admission.specs.Admission.{capacity_of}
use Rattle.reading.specs.Calls.{counts_of}
use Rattle.reading.proofs.Meaning.{parsed_of_injective}
use Rattle.previewing.specs.Preview.{preview_of}
use Rattle.previewing.proofs.Meaning.{previewed_of_injective}
use Rattle.xdr.specs.Xdr.{xdr_of, xdr_size, store_of, rows_in}
use Rattle.xdr.specs.Import.{Filling}
use Rattle.exporting.proofs.Narrow.{tree_few}
use Rattle.importing.specs.Calls.{counts_of as import_counts}
use Rattle.importing.proofs.Meaning.{imported_of_injective}
use Rattle.route.specs.Demands.{Demand1}
use Rattle.route.specs.Rewriting.{rewrite_of}
use Rattle.comparing.specs.SameRoute.{same_route_of}
use Rattle.comparing.proofs.Meaning.{same_route_injective}
use Rattle.comparing.proofs.Comparing.{compares-one}
use Rattle.choosing.proofs.Meaning.{chosen_of_injective}
use Rattle.accepting.specs.Accepts.{accepts_of}
use Rattle.accepting.proofs.Meaning.{verdict_of_injective}
use Rattle.route.proofs.Listed.{grammar_listed, room_listed, unpackers_listed, rows_listed, locator_listed, signed_listed, reading_listed, whole_listed, writing_listed, importing_listed, rewriting_listed, routes_listed, choosing_listed}
use Rattle.route.proofs.Reading.{rows-kept}
use Rattle.route.proofs.Refusals.{map-refuses, room-refuses, present-refuses, walk-refuses, find_refuses, locate_refuses, signed-refuses, parse-refuses, demarshall_refuses, marshall_refuses, export_refuses, import_refuses, rewrite_refuses, both-refuses, choose-refuses}

pub demand1 : Demand1
unfolding preview_of accepts_of
demand1 = record {
  answer = outcome_injective;
  number = outcome_injective;
  signed_numbers = outcome_injective;
  least_found = outcome_injective;
  array = located_injective;
  counts = parsed_of_injective;
  previewed = previewed_of_injective;
  route = same_route_injective;
  chosen = chosen_of_injective;
  imported = imported_of_injective;
  verdicts = verdict_of_injective;
  grammar = refused_exactly;
  room = room-refuses;
  packers = λ out index bs. map-refuses _ (room-refuses (length out) index (length bs));
  unpackers = λ w s index. map-refuses _ (map-refuses _ (present-refuses (length s) index w));
  unpackers_seq = λ w s index len. map-refuses _ (map-refuses _ (present-refuses (length s) index (w * len)));
  rows = walk-refuses;
  row_found = find_refuses;
  sizes = λ t n s. map-refuses SizeOfV (walk-refuses t n s);
  locator = locate_refuses;
  signed = signed-refuses;
  reading = parse-refuses;
  whole_reading = demarshall_refuses;
  writing = marshall_refuses;
  preview = λ g t n s out index. map-refuses _ (marshall_refuses g t n s (length out) index);
  exporting = export_refuses;
  importing = λ g d capacity len w. import_refuses g d capacity len (tree_few g w 0);
  rewriting = rewrite_refuses;
  routes = both-refuses;
  one_route = λ g first second r q a b. same_route_injective r q (compares-one g first second (same_route_of r) (same_route_of q) a b);
  choosing = choose-refuses;
  least_lengths = λ g. map-refuses _ (refused_exactly g);
  accepting = λ g d. map-refuses _ (refused_exactly g);
  listed_grammar = λ g e q. grammar_listed q;
  listed_room = λ len index size e q. room_listed q;
  listed_unpackers = λ len index size e q. unpackers_listed q;
  listed_rows = λ t n s e q. rows_listed q;
  listed_locator = λ t n s i e q. locator_listed q;
  listed_signed = λ t n s i e q. signed_listed q;
  listed_reading = λ g d index capacity e q. reading_listed q;
  listed_whole = λ g d capacity e q. whole_listed q;
  listed_writing = λ sizeBy g t n s len index e q. writing_listed q;
  listed_importing = λ g d capacity len e q. importing_listed q;
  listed_rewriting = λ g d capacity len index e q. rewriting_listed q;
  listed_routes = λ g first second e q. routes_listed q;
  listed_choosing = λ l d e q. choosing_listed q;
  fills_nothing = λ o a entry exit h e q. h.buffer ∙ ap (λ (x : Outcome Reason (List ℕ)). contents x entry) (map-refused (λ _. tt) o (sym h.answers ∙ q));
  parses_nothing = λ o index r entry exit h e q. rows-kept h (map-refused counts_of o (sym h.answers ∙ q));
  marshalls_nothing = λ o index w entry exit h e q. h.output ∙ ap (λ (x : Outcome Reason Val). contents (map (λ v. put entry index (bytes_of v)) x) entry) (map-refused SizeOfV o (sym h.answers ∙ q));
  exports_nothing = λ o index w entry exit h e q. h.output ∙ ap (λ (x : Outcome Reason Val). contents (map (λ v. put entry index (xdr_of v)) x) entry) (map-refused xdr_size o (sym h.answers ∙ q));
  imports_nothing = λ o r rows store rows₁ store₁ h e q.
      let f = map-refused import_counts o (sym h.answers ∙ q) in (
        h.rows ∙ ap (λ (x : Outcome Reason (Step Filling Val)). contents (map (λ t. put rows 0 (rows_in t.value 0)) x) rows) f,
        h.store ∙ ap (λ (x : Outcome Reason (Step Filling Val)). contents (map (λ t. put store 0 (store_of t.value)) x) store) f,
      );
  rewrites_nothing = λ g d rows out index w filled exit h e q.
      let o = map-refused (λ _. length d) (rewrite_of g d (capacity_of (length rows)) (length out) index) (sym h.answers ∙ q) in (
        h.layout ∙ ap (λ (x : Outcome Reason (Step State Val)). contents (map (λ t. put rows 0 (rows_of t.value 0)) x) rows) o,
        h.output ∙ ap (λ (x : Outcome Reason (Step State Val)). contents (map (λ _. put out index d) x) out) o,
      );
}
