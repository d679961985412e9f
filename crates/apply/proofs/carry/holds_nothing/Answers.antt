use Rattle.apply.proofs.carry.holds_nothing.Goals as goal

pub returns : goal.returns
returns c = cc
