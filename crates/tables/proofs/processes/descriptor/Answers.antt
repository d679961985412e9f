use Rattle.rules.specs.Store.{desc_of}
use Rattle.rules.proofs.Choices.{steps}
use Rattle.tables.proofs.processes.descriptor.Goals as goal

pub returns-then-known : goal.returns-then-known
unfolding desc_of
returns-then-known c = search steps

pub returns : goal.returns
unfolding desc_of
returns c = search steps
