use Rattle.rules.specs.Store.{hidden}
use Rattle.rules.proofs.Choices.{steps}
use Rattle.tables.proofs.files.own_bytes.Goals as goal

pub returns-then-is_plain : goal.returns-then-is_plain
unfolding hidden
returns-then-is_plain c = search steps

pub returns : goal.returns
unfolding hidden
returns c = search steps
