use Rattle.apply.proofs.carry.fork.Goals as goal

pub returns : goal.returns
returns c = λ F C. rw (← c.share_all.ensures F C) (c.make_process.ensures F C _)
