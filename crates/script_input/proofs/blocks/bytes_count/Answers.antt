use Rattle.script_text.proofs.HexLaws.{length-bytes}
use Rattle.script_input.proofs.blocks.bytes_count.Goals as goal

pub returns : goal.returns
returns c = length-bytes _
