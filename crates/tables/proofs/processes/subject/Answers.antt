use Rattle.tables.proofs.processes.subject.Goals as goal

pub returns : goal.returns
returns c = cc
