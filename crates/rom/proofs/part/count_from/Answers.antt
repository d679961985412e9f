use Rattle.rom.proofs.Prompts.{count-start, count-ended, count-step, count-done}
use Rattle.rom.proofs.part.count_from.Goals as goal

pub loop-k-init : goal.loop-k-init
loop-k-init c = count-start _ _

pub returns-then-is_empty : goal.returns-then-is_empty
returns-then-is_empty c = count-ended _ _ _ c.loop-k.invariant c.loop-k-test.true c.is_empty.ensures c.if-is_empty.true

pub loop-k-preserved : goal.loop-k-preserved
loop-k-preserved c = count-step _ _ _ c.loop-k.invariant c.loop-k-test.true c.is_empty.ensures c.if-is_empty.false c.next_prompt-part.ensures

pub returns : goal.returns
returns c = count-done _ _ _ c.loop-k.invariant c.loop-k-test.false c.loop-k.auto.k-end
