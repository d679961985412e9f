use Rattle.tables.proofs.files.is_free.Goals as goal

pub returns : goal.returns
returns c = cc
