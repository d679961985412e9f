use mathlib.Core.Path.{◌∙◌}
use native.Mathlib.Omega.{arith}
use Rattle.script_text.proofs.HexLaws.{count, read_done, read_more}
use Rattle.script_text.proofs.hex.read_bytes.Goals as goal

pub loop-i-preserved : goal.loop-i-preserved
loop-i-preserved c = read_more c.args.text.now c.loop-i.room c.loop-i.i c.loop-i.invariant (omega arith) c.hex_pair.ensures

pub returns-clause-bytes : goal.returns-clause-bytes
returns-clause-bytes c = read_done c.args.text.now c.loop-i.room c.loop-i.i c.loop-i.invariant (omega arith)

pub returns-clause-count : goal.returns-clause-count
returns-clause-count c = c.min-n.ensures ∙ count _ _
