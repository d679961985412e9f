use Rattle.rules.specs.Store.{apply_all}
use Rattle.file_effects.proofs.files.change_bits.Goals as goal

pub returns : goal.returns
unfolding apply_all
returns c = λ C E P. rw c.put.ensures
