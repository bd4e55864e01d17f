use Rattle.std.proofs.Common.{◌≡◌, List, ℕ, Result, Bor}
use Rattle.std.proofs.lemmas.Result.{err_from_is_err_and}
use Rattle.refusal.specs.declared.Refusal.{Refusal}
use Rattle.refusal.specs.Outcome.{Outcome, Reason, accepted, map}
use Rattle.refusal.specs.Meaning.{outcome_of}
use Rattle.refusal.proofs.Meaning.{matched, done, stopped}
use Rattle.grammar.specs.Check.{check_grammar}
use Rattle.comparing.specs.SameRoute.{counted_bytes}
use Rattle.comparing.specs.declared.Unread.{Unread}
use Rattle.comparing.proofs.Meaning.{renamed_err, renamed_ok}
use Rattle.comparing.proofs.Comparing.{grammar_refused, first_refused, second_refused, compared}
use Rattle.comparing.proofs.same_route.Goals as goal
use Rattle.comparing.proofs.same_route.Goals.{In_ok-map_err, In_ok-a}

abbrev bytes_of_result : Result (Bor (List ℕ)) Refusal → Outcome Reason (List ℕ)
bytes_of_result r = map (λ s. s.now) (outcome_of r)

-- what the calls were accepted with
checked : (c : In_ok-map_err) → accepted tt ≡ check_grammar c.args.grammar.now
checked c = done (renamed_ok Unread.Grammar c.check_grammar.result tt c.in_ok-map_err.ensures.cases) c.check_grammar.ensures

counted : (c : In_ok-a) → accepted c.in_ok-a.a.now ≡ counted_bytes c.args.grammar.now c.args.first.now
counted c = matched bytes_of_result (renamed_ok Unread.First c.counted_bytes.result c.in_ok-a.a c.in_ok-a.ensures.cases) c.counted_bytes.ensures

pub returns-in_err-map_err : goal.returns-in_err-map_err
returns-in_err-map_err c =
    let a = c.args in
    let p = err_from_is_err_and c.from_residual.result c.from_residual.ensures.1 in
    let e = renamed_err Unread.Grammar c.check_grammar.result c.in_err-map_err.field-0.0 c.in_err-map_err.ensures.cases in
    rw (p.1, p.2, e.2) (grammar_refused a.grammar.now a.first.now a.second.now (stopped e.1 c.check_grammar.ensures))

pub returns-in_err-a : goal.returns-in_err-a
returns-in_err-a c =
    let a = c.args in
    let p = err_from_is_err_and c.from_residual-in_err-a.result c.from_residual-in_err-a.ensures.1 in
    let e = renamed_err Unread.First c.counted_bytes.result c.in_err-a.field-0.0 c.in_err-a.ensures.cases in
    rw (p.1, p.2, e.2) (first_refused a.grammar.now a.first.now a.second.now (checked (goal.at.returns-in_err-a c).In_ok-map_err) (matched bytes_of_result e.1 c.counted_bytes.ensures))

pub returns-in_err-b : goal.returns-in_err-b
returns-in_err-b c =
    let a = c.args in
    let p = err_from_is_err_and c.from_residual-in_err-b.result c.from_residual-in_err-b.ensures.1 in
    let e = renamed_err Unread.Second c.counted_bytes-2.result c.in_err-b.field-0.0 c.in_err-b.ensures.cases in
    rw (p.1, p.2, e.2) (second_refused a.grammar.now a.first.now a.second.now (checked (goal.at.returns-in_err-b c).In_ok-map_err) (counted (goal.at.returns-in_err-b c).In_ok-a) (matched bytes_of_result e.1 c.counted_bytes-2.ensures))

pub returns : goal.returns
returns c =
    let a = c.args in
    let e = renamed_ok Unread.Second c.counted_bytes-2.result c.in_ok-b.b c.in_ok-b.ensures.cases in
    compared a.grammar.now a.first.now a.second.now (checked (goal.at.returns c).In_ok-map_err) (counted (goal.at.returns c).In_ok-a) (matched bytes_of_result e c.counted_bytes-2.ensures)
    (λ j l. (c.type_inv.grammar j).fits) (λ j. (c.type_inv.first j).fits) (λ j. (c.type_inv.second j).fits) c.same_bytes.ensures
