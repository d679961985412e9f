use Rattle.tables.proofs.files.is_directory.Goals as goal

pub returns : goal.returns
returns c = cc
