use native.Mathlib.Nat.{add-zero}
use Rattle.rules.specs.Store.{apply_all}
use Rattle.descriptor_effects.proofs.processes.free_process.Goals as goal

pub returns : goal.returns
unfolding apply_all
returns c = λ F C E. rw (c.fill.ensures, add-zero)
