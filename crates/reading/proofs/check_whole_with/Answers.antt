use mathlib.Core.Path.{ap, ◌∙◌}
use mathlib.Core.Bool.{true}
use Rattle.refusal.specs.Outcome.{map}
use Rattle.admission.specs.Admission.{in_force}
use Rattle.readers.specs.Root.{read_root}
use Rattle.reading.specs.Calls.{counts_of}
use Rattle.reading.proofs.Calls.{step_counts, root-whole}
use Rattle.reading.proofs.check_whole_with.Goals as goal

pub returns : goal.returns
returns c =
    let a = c.args in
    let g = a.grammar.now in
    let d = a.«record».now in
    let n = in_force a.capacity in
    c.answer.ensures ∙ step_counts c.try_whole.result (read_root g d 0 n true) c.try_whole.ensures.0 ∙ ap (map counts_of) (root-whole g d n)
