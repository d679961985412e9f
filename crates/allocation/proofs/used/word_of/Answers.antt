use Rattle.allocation.proofs.Descriptors.{at-start, fits, next, at-end}
use Rattle.allocation.proofs.used.word_of.Goals as goal

pub loop-i-init : goal.loop-i-init
loop-i-init c = search at-start

pub overflow_sub-w : goal.overflow_sub-w
overflow_sub-w c = search fits

pub loop-i-preserved : goal.loop-i-preserved
loop-i-preserved c = search next

pub returns : goal.returns
returns c = search at-end
