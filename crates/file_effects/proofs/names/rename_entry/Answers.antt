use Rattle.file_effects.proofs.names.rename_entry.Goals as goal

pub returns : goal.returns
returns c = λ E P. rw c.last_name.ensures at (c.add_name.ensures E P)
