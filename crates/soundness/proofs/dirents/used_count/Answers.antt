use mathlib.Core.Path.{refl, sym, ap, ◌∙◌}
use mathlib.Core.Bool.{not}
use native.Mathlib.Omega.{arith}
use borrow.Author.Rules.{rules}
use Rattle.rules.specs.Sound.{is_used}
use Rattle.rules.proofs.Scans.{count_yes, count_no, count-done}
use Rattle.soundness.proofs.dirents.used_count.Goals as goal
use Rattle.soundness.proofs.dirents.used_count.Goals.{then-not-is_empty, else-not-is_empty}

pub loop-i-init : goal.loop-i-init
loop-i-init c = (search rules, omega arith)

pub loop-i-preserved : goal.loop-i-preserved
unfolding is_used
loop-i-preserved c = elim c.if-not-is_empty.branch [
  | then-not-is_empty w ↦ (omega arith, cc (count_yes _ _ _ _ c.loop-i.invariant.1 c.loop-i-test.true (ap not (sym c.is_empty.ensures ∙ w.if-not-is_empty.true)) refl))
  | else-not-is_empty w ↦ (omega arith, cc (count_no _ _ _ _ c.loop-i.invariant.1 c.loop-i-test.true (ap not (sym c.is_empty.ensures ∙ w.if-not-is_empty.false)) refl))
]

pub returns : goal.returns
returns c = search count-done
