use borrow.Author.Rules.{rules}
use Rattle.rules.specs.Effects.{released_all}
use Rattle.rules.proofs.Scans.{repeat-step, repeat-done}
use Rattle.apply.proofs.carry.release_all.Goals as goal

pub loop-i-preserved : goal.loop-i-preserved
loop-i-preserved c = (search rules, search rules, search rules, search rules, rw c.release_one.ensures (repeat-step _ _ _ _ c.loop-i.invariant.4 c.loop-i-test.true))

pub returns : goal.returns
unfolding released_all
returns c = repeat-done _ _ _ _ c.loop-i.invariant.4 c.loop-i-test.false
