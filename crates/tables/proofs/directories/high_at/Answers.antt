use Rattle.tables.proofs.directories.high_at.Goals as goal

pub returns : goal.returns
returns c = cc
