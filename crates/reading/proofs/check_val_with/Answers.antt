use mathlib.Core.Bool.{false}
use Rattle.reading.specs.Calls.{parse_val_of}
use Rattle.reading.proofs.Calls.{root-parse, counts-read}
use Rattle.reading.proofs.check_val_with.Goals as goal

pub returns : goal.returns
returns c =
    let a = c.args in
    counts-read a.grammar.now a.«record».now a.index false (parse_val_of a.grammar.now a.«record».now a.index) (root-parse a.grammar.now a.«record».now a.index) c.answer.result c.answer.ensures a.capacity c.read.ensures
