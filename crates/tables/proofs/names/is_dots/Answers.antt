use Rattle.rules.specs.Paths.{is_dots}
use Rattle.rules.proofs.Choices.{steps}
use Rattle.tables.proofs.names.is_dots.Goals as goal

pub returns-then-same_name : goal.returns-then-same_name
unfolding is_dots
returns-then-same_name c = search steps

pub returns : goal.returns
unfolding is_dots
returns c = search steps
