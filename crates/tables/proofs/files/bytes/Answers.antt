use Rattle.tables.proofs.files.bytes.Goals as goal

pub returns : goal.returns
returns c = cc
