-- One test is enough: the run that goes by it is the rules' run (`once`).
use Rattle.replay.proofs.OnceLaws.{once}
use Rattle.replay.proofs.run.replay.Goals as goal

pub returns : goal.returns
returns c = rw (← once _ _ _ _ _ _ _ c.sound-fit.ensures) c.run_by.ensures
