-- A C answer made of the answer of a call that fills a buffer, rows, an output, or rows and a store.
use Rattle.std.proofs.Common.{◌≡◌, ap, ◌∙◌, List, ℕ, Result}
use Rattle.refusal.specs.Outcome.{Outcome, map, Fills, Reason}
use Rattle.refusal.proofs.Outcome.{map-map}
use Rattle.value.specs.Tree.{Val}
use Rattle.value.specs.Step.{Step}
use Rattle.value.specs.Reading.{State}
use Rattle.refusal.specs.declared.Refusal.{Refusal}
use Rattle.refusal.specs.Meaning.{outcome_of}
use Rattle.reading.specs.Meaning.{Counts, parsed_of}
use Rattle.reading.specs.Calls.{Parses}
use Rattle.reading.specs.declared.Parsed.{Parsed}
use Rattle.writing.specs.Marshall.{Marshalls}
use Rattle.xdr.specs.Import.{Filling}
use Rattle.exporting.specs.Export.{Exports}
use Rattle.importing.specs.Meaning.{Counts as ImportCounts, imported_of}
use Rattle.importing.specs.Calls.{Imports}
use Rattle.importing.specs.declared.Imported.{Imported}
use Rattle.answer_c.specs.declared.RouteAnswer.{RouteAnswer}
use Rattle.answer_c.specs.Answer.{answer_of, no_value, one_value, count_values, import_values, Answers, AnswersRows, AnswersBytes, AnswersXdr, AnswersImport}

pub answers_fills : {o : Outcome Reason (List ℕ)} {a : Outcome Reason (Unit {0})} {r : RouteAnswer} {entry exit : List ℕ} → r ≡ answer_of (map no_value a) → Fills o a entry exit → Answers o r entry exit
answers_fills {o} e f = record {
  answers = e ∙ ap (λ (x : Outcome Reason (Unit {0})). answer_of (map no_value x)) f.answers ∙ ap answer_of (map-map no_value (λ _. tt) o);
  buffer = f.buffer;
}

pub answers-parses : {o : Outcome Reason (Step State Val)} {index : ℕ} {p : Result Parsed Refusal} {r : RouteAnswer} {entry exit : List ℕ} → r ≡ answer_of (map count_values (parsed_of p)) → Parses o index p entry exit → AnswersRows o index r entry exit
answers-parses e f = record {
  answers = e ∙ ap (λ (x : Outcome Reason Counts). answer_of (map count_values x)) f.answers;
  rows = f.rows;
}

pub answers_marshalls : {o : Outcome Reason Val} {index : ℕ} {p : Result ℕ Refusal} {r : RouteAnswer} {entry exit : List ℕ} → r ≡ answer_of (map one_value (outcome_of p)) → Marshalls o index p entry exit → AnswersBytes o index r entry exit
answers_marshalls e f = record {
  answers = e ∙ ap (λ (x : Outcome Reason ℕ). answer_of (map one_value x)) f.answers;
  output = f.output;
}

pub answers_exports : {o : Outcome Reason Val} {index : ℕ} {p : Result ℕ Refusal} {r : RouteAnswer} {entry exit : List ℕ} → r ≡ answer_of (map one_value (outcome_of p)) → Exports o index p entry exit → AnswersXdr o index r entry exit
answers_exports e f = record {
  answers = e ∙ ap (λ (x : Outcome Reason ℕ). answer_of (map one_value x)) f.answers;
  output = f.output;
}

pub answers_imports : {o : Outcome Reason (Step Filling Val)} {p : Result Imported Refusal} {r : RouteAnswer} {rows₀ store₀ rows₁ store₁ : List ℕ} → r ≡ answer_of (map import_values (imported_of p)) → Imports o p rows₀ store₀ rows₁ store₁ → AnswersImport o r rows₀ store₀ rows₁ store₁
answers_imports e f = record {
  answers = e ∙ ap (λ (x : Outcome Reason ImportCounts). answer_of (map import_values x)) f.answers;
  rows = f.rows;
  store = f.store;
}

pub ruleset answering = (answers_fills, answers-parses, answers_marshalls, answers_exports, answers_imports)
