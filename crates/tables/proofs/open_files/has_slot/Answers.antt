use Rattle.tables.proofs.open_files.has_slot.Goals as goal

pub returns : goal.returns
returns c = rw c.slot_of.ensures
