use Rattle.soundness.proofs.Climbs.{climb-top, climb-on, climb-end}
use Rattle.soundness.proofs.tree.climbs.Goals as goal

pub returns-then-at-eq0 : goal.returns-then-at-eq0
returns-then-at-eq0 c = search climb-top

pub loop-step-preserved : goal.loop-step-preserved
loop-step-preserved c = search climb-on

pub returns : goal.returns
returns c = search climb-end
