use Rattle.tables.proofs.files.is_link.Goals as goal

pub returns : goal.returns
returns c = cc
