use mathlib.Core.Path.{refl}
use borrow.Author.Rules.{rules}
use Rattle.counts.proofs.Folds.{fold_start, fold-down, fold-ends}
use Rattle.counts.proofs.count.count_held.Goals as goal

pub loop-p-init : goal.loop-p-init
loop-p-init c = (refl, search rules, fold_start _ _ _)

pub loop-p-preserved : goal.loop-p-preserved
loop-p-preserved c = (search rules, search rules, search fold-down)

pub returns : goal.returns
returns c = search fold-ends
