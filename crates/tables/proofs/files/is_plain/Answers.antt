use Rattle.tables.proofs.files.is_plain.Goals as goal

pub returns : goal.returns
returns c = cc
