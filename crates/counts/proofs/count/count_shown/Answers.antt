use Rattle.counts.proofs.count.count_shown.Goals as goal

pub returns : goal.returns
returns c = (rw (← c.shown.ensures) c.count_directory.ensures.0, rw (← c.shown.ensures) c.count_directory.ensures.1)
