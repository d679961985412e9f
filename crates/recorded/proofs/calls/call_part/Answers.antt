-- The call gets the first part of each table: that a part is as long as was asked comes from the four `min`, and `called` puts the changed parts back.
use Rattle.recorded.proofs.CallLaws.{called}
use Rattle.recorded.proofs.calls.call_part.Goals as goal

pub returns : goal.returns
returns c = called _ _ _ _ _ _ _ _ c.min-f.ensures c.min-n.ensures c.min-e.ensures c.min-p.ensures c.upto.ensures c.call.ensures
