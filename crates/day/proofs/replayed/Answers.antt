use Rattle.day.proofs.OnConsole.{on-console}
use Rattle.day.proofs.replayed.Goals as goal

pub returns : goal.returns
returns c = let h = on-console _ _ _ _ _ _ c.files-files.ensures c.contents-contents.ensures c.processes-processes.ensures c.policy-policy.ensures c.replay.ensures in record { result = h.0; output = h.1 }
