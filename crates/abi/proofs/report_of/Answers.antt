use Rattle.abi.proofs.report_of.Goals as goal

pub returns : goal.returns
returns c = rw c.number.ensures
