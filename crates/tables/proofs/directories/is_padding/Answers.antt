use Rattle.rules.specs.Directories.{is_padding}
use Rattle.tables.proofs.directories.is_padding.Goals as goal

pub returns : goal.returns
unfolding is_padding
returns c = cc
