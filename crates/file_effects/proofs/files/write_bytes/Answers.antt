-- Four writes, to three tables: what each ensures, from the last to the first, is one change of the list, so the list applied needs no law.
use Rattle.rules.specs.Store.{apply_all}
use Rattle.rules.specs.Effects.{store_changes}
use Rattle.file_effects.proofs.files.write_bytes.Goals as goal

pub returns : goal.returns
unfolding apply_all store_changes
returns c = λ P. rw (c.put-3.ensures, c.put-2.ensures, c.put.ensures, c.put_bytes.ensures)
