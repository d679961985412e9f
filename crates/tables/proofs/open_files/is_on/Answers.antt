use Rattle.rules.specs.Store.{is_on}
use Rattle.rules.proofs.Choices.{steps}
use Rattle.tables.proofs.open_files.is_on.Goals as goal

pub returns-then-not-other : goal.returns-then-not-other
unfolding is_on
returns-then-not-other c = search steps

pub returns-then-not-is_held : goal.returns-then-not-is_held
unfolding is_on
returns-then-not-is_held c = search steps

pub returns : goal.returns
unfolding is_on
returns c = search steps
