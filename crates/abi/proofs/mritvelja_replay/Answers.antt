use mathlib.Core.Path.{ap}
use Rattle.replay.specs.Runs.{Left}
use Rattle.abi.specs.Crossing.{crossed_by}
use Rattle.abi.proofs.mritvelja_replay.Goals as goal

pub returns : goal.returns
returns c = rw c.report_of.ensures (ap (λ (l : Left). crossed_by l) c.replay.ensures)
