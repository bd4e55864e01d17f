use Rattle.std.proofs.Common.{ℕ, ◌+◌, ap, ◌∙◌, arith}
use Rattle.refusal.specs.Outcome.{refused}
use Rattle.refusal.specs.Meaning.{reason_of}
use Rattle.grammar.specs.Check.{check_grammar}
use Rattle.choosing.specs.Choose.{placed_reason}
use Rattle.choosing.proofs.Laws.{part_is, grammar-refused}
use Rattle.choosing.proofs.check_grammars.Goals as goal

pub returns-in-Err : goal.returns-in-Err
returns-in-Err c =
    let l = c.args.list.now in
    let v = c.loop-j in
    let p = part_is l c.requires (omega arith) v.invariant.0 c.grammar_at-grammar.ensures in
    ap refused (c.place_in_list.ensures ∙ ap (λ (m : ℕ). placed_reason (m + 1) (reason_of c.in-Err.r)) v.invariant.0)
    ∙ grammar-refused l v.j c.word-j-end.result c.loop-j-test.true (c.in-Err.ensures ∙ ap check_grammar p)
    ∙ v.invariant.1
