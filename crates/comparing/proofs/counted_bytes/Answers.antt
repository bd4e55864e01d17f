use Rattle.std.proofs.Common.{◌≤◌, length, arith}
use Rattle.std.proofs.lemmas.Result.{err_from_is_err_and}
use Rattle.readers.proofs.Laws.{part_from}
use Rattle.comparing.proofs.Comparing.{field_refused, field_counted, field_within}
use Rattle.comparing.proofs.counted_bytes.Goals as goal
use Rattle.comparing.proofs.counted_bytes.Goals.{In_ok-end}

pub returns-in_err-end : goal.returns-in_err-end
returns-in_err-end c =
    let p = err_from_is_err_and c.from_residual.result c.from_residual.ensures.1 in
    rw (p.1, p.2) (field_refused c.args.grammar.now c.args.bytes.now c.in_err-end.ensures.0)

-- the first field ends within the record
inside : (c : In_ok-end) → c.in_ok-end.end.at ≤ length c.args.bytes.now
inside c = field_within c.args.grammar.now c.args.bytes.now c.in_ok-end.ensures.0 (λ j l. (c.type_inv.grammar j).fits) (λ j. (c.type_inv.bytes j).fits)

pub slice_bounds-result-count : goal.slice_bounds-result-count
slice_bounds-result-count c = inside c

pub slice_bounds-result-start : goal.slice_bounds-result-start
slice_bounds-result-start c = omega (arith, inside c)

pub returns : goal.returns
returns c = rw part_from (field_counted c.args.grammar.now c.args.bytes.now c.in_ok-end.ensures.0)
