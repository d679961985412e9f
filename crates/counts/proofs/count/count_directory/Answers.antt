use mathlib.Core.Path.{refl}
use borrow.Author.Rules.{rules}
use Rattle.counts.proofs.Folds.{fold_start, fold-down, fold-ends}
use Rattle.counts.proofs.count.count_directory.Goals as goal

pub loop-i-init : goal.loop-i-init
loop-i-init c = (refl, refl, search rules, fold_start _ _ _, fold_start _ _ _)

pub loop-i-preserved : goal.loop-i-preserved
loop-i-preserved c = (search rules, search rules, search rules, search fold-down, search fold-down)

pub returns : goal.returns
returns c = (search fold-ends, search fold-ends)
