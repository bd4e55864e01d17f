use Rattle.reading.proofs.check_whole.Goals as goal

pub returns : goal.returns
returns c = c.check_whole_with.ensures
