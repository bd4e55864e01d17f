use Rattle.std.proofs.Common.{◌∙◌, arith}
use Rattle.choosing.proofs.Laws.{next_behind, Trying, trying, accepted-most, refused-most, try_refused}
use Rattle.choosing.proofs.try_grammars.Goals as goal
use Rattle.choosing.proofs.try_grammars.Goals.{After-try_whole}

-- the try of grammar j
tried : (c : After-try_whole) → let a = c.args in Trying a.list.now a.«record».now c.grammar_at-grammar.result.now c.loop-j.j c.word-j-end.result
tried c = trying c.requires.0 c.requires.1 c.word-j-end.ensures.0 c.loop-j-test.true c.loop-j.invariant.0 c.grammar_at-grammar.ensures

pub overflow_add-result : goal.overflow_add-result
overflow_add-result c = omega (arith, accepted-most (tried (goal.at.overflow_add-result c).After-try_whole) c.in-Ok.ensures.0)

pub overflow_add-begun : goal.overflow_add-begun
overflow_add-begun c = omega (arith, refused-most (tried (goal.at.overflow_add-begun c).After-try_whole) c.in-Err.ensures.0)

pub loop-j-preserved : goal.loop-j-preserved
loop-j-preserved c =
    let v = c.loop-j in
    let t = tried (goal.at.loop-j-preserved c).After-try_whole in (
      next_behind c.args.list.now c.requires.0.rule (omega arith) v.invariant.0 c.grammar_at-grammar.ensures,
      omega (arith, refused-most t c.in-Err.ensures.0),
      try_refused t c.in-Err.ensures.0 v.begun ∙ v.invariant.2,
    )
