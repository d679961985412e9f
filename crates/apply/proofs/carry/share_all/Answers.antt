use borrow.Author.Rules.{rules}
use mathlib.Core.Path.{refl}
use Rattle.rules.specs.Effects.{shared_all}
use Rattle.rules.proofs.Scans.{repeat-step, repeat-done}
use Rattle.apply.proofs.carry.share_all.Goals as goal

pub loop-i-init : goal.loop-i-init
loop-i-init c = (refl, refl, λ F C. refl)

pub loop-i-preserved : goal.loop-i-preserved
loop-i-preserved c = (search rules, search rules, λ F C. rw (c.share_one.ensures F C) (repeat-step _ _ _ _ (c.loop-i.invariant.2 F C) c.loop-i-test.true))

pub returns : goal.returns
unfolding shared_all
returns c = λ F C. repeat-done _ _ _ _ (c.loop-i.invariant.2 F C) c.loop-i-test.false
