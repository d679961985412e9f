use Rattle.console.proofs.CallLaws.{tables_after}
use Rattle.console.proofs.calls.serve.Goals as goal

pub returns : goal.returns
returns c = let h = tables_after c.args.s.now _ c.bytes.ensures c.call-a.ensures in record { tables = h.0; buffer = h.1 }
