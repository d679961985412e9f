use Rattle.rules.specs.Store.{shown_of}
use Rattle.tables.proofs.files.shown.Goals as goal

pub returns : goal.returns
unfolding shown_of
returns c = cc
