use Rattle.tables.proofs.open_files.mode.Goals as goal

pub returns : goal.returns
returns c = cc
