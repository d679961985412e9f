use mathlib.Core.Path.{ap, sym}
use Rattle.rules.specs.declared.ids.Slot.{Slot}
use Rattle.counts.specs.Counts.{entry_counted, entry_claimed}
use Rattle.counts.proofs.count.count_entry.Goals as goal

pub returns : goal.returns
unfolding entry_counted entry_claimed
returns c = rw (sym (ap (λ (s : Slot). s.0) c.dirent_slot-s.ensures)) (c.count_one.ensures, c.claim.ensures)
