use mathlib.Core.Path.{◌∙◌}
use Rattle.importing.proofs.Laws.{node-named}
use Rattle.importing.proofs.node_at.Goals as goal

pub returns : goal.returns
returns c =
    c.word.ensures.0 ∙ node-named c.args.grammar.now c.args.place c.if-place-eq0.false
