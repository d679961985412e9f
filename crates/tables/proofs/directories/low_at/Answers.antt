use Rattle.tables.proofs.directories.low_at.Goals as goal

pub returns : goal.returns
returns c = cc
