use mathlib.Core.Path.{refl}
use Rattle.rules.proofs.Lists.{padded-start, padded-step, padded-done}
use borrow.Author.Rules.{rules}
use Rattle.rows.proofs.rows.put_name.Goals as goal

pub loop-k-init : goal.loop-k-init
loop-k-init c = (refl, padded-start _ _ _ _)

pub loop-k-preserved : goal.loop-k-preserved
loop-k-preserved c = (search rules, rw (c.put.ensures, c.get_or.ensures) (padded-step _ _ _ _ _ c.loop-k.invariant.1 c.loop-k-test.true))

pub returns : goal.returns
returns c = padded-done _ _ _ _ _ c.loop-k.invariant.1 c.loop-k-test.false
