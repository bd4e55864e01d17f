use mathlib.Core.Bool.{true}
use Rattle.reading.specs.Calls.{demarshall_of}
use Rattle.reading.proofs.Calls.{root-whole, parses-read}
use Rattle.reading.proofs.demarshall.Goals as goal

pub returns : goal.returns
returns c =
    let a = c.args in
    parses-read a.grammar.now a.«record».now 0 true (demarshall_of a.grammar.now a.«record».now) (root-whole a.grammar.now a.«record».now) c.answer.result c.answer.ensures c.capacity_of-capacity.ensures.0 c.read.ensures
