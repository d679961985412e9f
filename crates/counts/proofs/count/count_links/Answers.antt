use mathlib.Core.Path.{refl}
use borrow.Author.Rules.{rules}
use Rattle.counts.proofs.Folds.{fold_start, fold-down, fold-ends}
use Rattle.counts.proofs.count.count_links.Goals as goal

pub loop-d-init : goal.loop-d-init
loop-d-init c = (refl, refl, search rules, fold_start _ _ _, fold_start _ _ _)

pub loop-d-preserved : goal.loop-d-preserved
loop-d-preserved c = (search rules, search rules, search rules, search fold-down, search fold-down)

pub returns : goal.returns
returns c = (search fold-ends, search fold-ends)
