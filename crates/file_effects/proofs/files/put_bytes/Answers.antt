use Rattle.file_effects.proofs.files.put_bytes.Goals as goal

pub returns : goal.returns
returns c = rw (c.copy.ensures, c.fill.ensures)
