use Rattle.rules.specs.Effects.{released}
use Rattle.rules.proofs.Seen.{releasing-seen}
use Rattle.apply.proofs.carry.release_held.Goals as goal

pub returns : goal.returns
unfolding released
returns c = rw (c.release-r.ensures, releasing-seen) at c.close_descriptor.ensures
