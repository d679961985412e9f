use Rattle.rules.specs.Store.{apply_all}
use Rattle.rules.specs.Effects.{unnamed_changes}
use Rattle.file_effects.proofs.names.lose_name.Goals as goal

pub returns-in-Kept : goal.returns-in-Kept
unfolding apply_all unnamed_changes
returns-in-Kept c = λ E P. rw (c.in-Kept.is, c.put.ensures)

pub returns-in-Freed : goal.returns-in-Freed
unfolding apply_all unnamed_changes
returns-in-Freed c = λ E P. rw c.in-Freed.is (c.clear_slot.ensures _ _)
