use Rattle.script_input.proofs.BlockLaws.{byte-operation}
use Rattle.script_input.proofs.requests.is_read.Goals as goal

pub returns : goal.returns
returns c = rw (c.uses.ensures, c.operation_of.ensures, c.as_byte.ensures, byte-operation)
