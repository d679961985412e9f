use Rattle.counts.proofs.count.raise.Goals as goal

pub returns : goal.returns
returns c = cc
