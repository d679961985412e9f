use mathlib.Core.Path.{refl}
use borrow.Author.Rules.{rules}
use Rattle.counts.specs.Counts.{proc_counted}
use Rattle.counts.proofs.Folds.{fold_start, fold-down, fold-ends}
use Rattle.counts.proofs.count.count_process.Goals as goal

pub loop-i-init : goal.loop-i-init
unfolding proc_counted
loop-i-init c = (refl, search rules, fold_start _ _ _)

pub loop-i-preserved : goal.loop-i-preserved
unfolding proc_counted
loop-i-preserved c = (search rules, search rules, search fold-down)

pub returns : goal.returns
unfolding proc_counted
returns c = search fold-ends
