use Rattle.tables.proofs.open_files.is_held.Goals as goal

pub returns : goal.returns
returns c = cc
