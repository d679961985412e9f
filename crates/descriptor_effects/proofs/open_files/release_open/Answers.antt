-- An arm for each kind of release, each one write and so one rewriting; the last writes twice, and `after-change` puts its second write behind the first.
use native.Mathlib.Nat.{add-zero}
use Rattle.rules.specs.Store.{apply_all}
use Rattle.rules.specs.Effects.{release_changes}
use Rattle.rows.proofs.Changes.{after-change}
use Rattle.descriptor_effects.proofs.open_files.release_open.Goals as goal

pub returns-in-Nothing : goal.returns-in-Nothing
unfolding apply_all release_changes
returns-in-Nothing c = λ P. rw c.in-Nothing.is

pub returns-in-Kept : goal.returns-in-Kept
unfolding apply_all release_changes
returns-in-Kept c = λ P. rw (c.in-Kept.is, c.put.ensures)

pub returns-in-Gone : goal.returns-in-Gone
unfolding apply_all release_changes
returns-in-Gone c = λ P. rw (c.in-Gone.is, c.fill.ensures, add-zero)

pub returns-in-Freed : goal.returns-in-Freed
unfolding release_changes
returns-in-Freed c = λ P. rw c.in-Freed.is (after-change _ _ _ (c.clear_slot.ensures _ _) (rw (c.fill-in-Freed.ensures, add-zero)))
