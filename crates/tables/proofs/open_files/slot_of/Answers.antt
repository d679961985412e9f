use Rattle.tables.proofs.open_files.slot_of.Goals as goal

pub returns : goal.returns
returns c = cc
