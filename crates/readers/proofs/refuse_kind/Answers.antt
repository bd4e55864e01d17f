use Rattle.readers.proofs.refuse_kind.Goals as goal

pub returns : goal.returns
returns c = rw (c.stop.ensures, c.at_word.ensures)
