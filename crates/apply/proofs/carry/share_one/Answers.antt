use Rattle.rules.specs.Effects.{shared}
use Rattle.apply.proofs.carry.share_one.Goals as goal

pub returns : goal.returns
unfolding shared
returns c = λ F C. rw c.share-s.ensures at (c.share_descriptor.ensures F C)
