use Rattle.apply.proofs.carry.exit.Goals as goal

pub returns : goal.returns
returns c = rw (← c.release_all.ensures) (c.free_process.ensures _ _ _)
