use Rattle.counts.specs.Counts.{desc_counted}
use Rattle.counts.proofs.count.count_descriptor.Goals as goal

pub returns : goal.returns
unfolding desc_counted
returns c = rw (← c.descriptor.ensures) c.count_one.ensures
