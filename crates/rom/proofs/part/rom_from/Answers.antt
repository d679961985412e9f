use Rattle.rom.proofs.Prompts.{from-start, from-step, from-done}
use Rattle.rom.proofs.part.rom_from.Goals as goal

pub loop-init : goal.loop-init
loop-init c = from-start _ _

pub loop-preserved : goal.loop-preserved
loop-preserved c = from-step _ _ _ c.loop.invariant c.loop-test.true c.next_prompt-part.ensures

pub returns : goal.returns
returns c = from-done _ _ _ c.loop.invariant c.loop-test.false
