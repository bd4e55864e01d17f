use Rattle.reading.proofs.check_val.Goals as goal

pub returns : goal.returns
returns c = c.check_val_with.ensures
