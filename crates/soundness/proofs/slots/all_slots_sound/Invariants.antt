use mathlib.Core.Path.{◌≡◌}
use Rattle.rules.specs.Layout.{SLOTS}
use Rattle.rules.specs.Scan.{all}
use Rattle.tables.specs.Tables.{open_in, stored_tree}
use Rattle.soundness.specs.Counted.{slot_sound_by}
use Rattle.soundness.proofs.slots.all_slots_sound.Given as goal

abbrev pub invariant-loop-s : goal.invariant-loop-s
invariant-loop-s l = all (slot_sound_by (stored_tree l.t) (open_in l.t) l.links l.parents) l.s SLOTS ≡ all (slot_sound_by (stored_tree l.t) (open_in l.t) l.links l.parents) 0 SLOTS
