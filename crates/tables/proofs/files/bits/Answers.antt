use Rattle.tables.proofs.files.bits.Goals as goal

pub returns : goal.returns
returns c = cc
