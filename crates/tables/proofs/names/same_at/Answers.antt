use Rattle.rules.specs.Paths.{same_at}
use Rattle.tables.proofs.names.same_at.Goals as goal

pub returns : goal.returns
unfolding same_at
returns c = cc
