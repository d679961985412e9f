use Rattle.console.specs.Settings.{empty_tables}
use Rattle.console.proofs.settings.empty.Goals as goal

pub returns : goal.returns
unfolding empty_tables
returns c = rw c.fill.ensures
