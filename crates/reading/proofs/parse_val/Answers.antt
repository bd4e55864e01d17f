use mathlib.Core.Bool.{false}
use Rattle.reading.specs.Calls.{parse_val_of}
use Rattle.reading.proofs.Calls.{root-parse, parses-read}
use Rattle.reading.proofs.parse_val.Goals as goal

pub returns : goal.returns
returns c =
    let a = c.args in
    parses-read a.grammar.now a.«record».now a.index false (parse_val_of a.grammar.now a.«record».now a.index) (root-parse a.grammar.now a.«record».now a.index) c.answer.result c.answer.ensures c.capacity_of-capacity.ensures.0 c.read.ensures
