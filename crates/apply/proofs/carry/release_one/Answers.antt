use mathlib.Core.Path.{sym, ◌∙◌}
use Rattle.apply.proofs.Exits.{empty-released}
use Rattle.apply.proofs.carry.release_one.Goals as goal

pub returns-else-not-holds_nothing : goal.returns-else-not-holds_nothing
returns-else-not-holds_nothing c = empty-released _ _ _ (sym c.holds_nothing.ensures ∙ c.if-not-holds_nothing.false)
