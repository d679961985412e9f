use Rattle.rules.specs.Store.{apply_all}
use Rattle.rules.specs.Effects.{fork_changes}
use Rattle.descriptor_effects.proofs.processes.make_process.Goals as goal

pub returns : goal.returns
unfolding apply_all fork_changes
returns c = λ F C E. rw (c.put-4.ensures, c.put-3.ensures, c.put-2.ensures, c.put.ensures)
