use Rattle.rom.proofs.Prompts.{sound-start, sound-ended, sound-broken, sound-step, sound-done}
use Rattle.rom.proofs.part.prompts_sound.Goals as goal

pub loop-init : goal.loop-init
loop-init c = sound-start _ _

pub returns-then-is_empty : goal.returns-then-is_empty
returns-then-is_empty c = sound-ended _ _ _ c.loop.invariant c.loop-test.true c.is_empty.ensures c.if-is_empty.true

pub returns-then-not-prompt_sound : goal.returns-then-not-prompt_sound
returns-then-not-prompt_sound c = sound-broken _ _ _ c.loop.invariant c.loop-test.true c.is_empty.ensures c.if-is_empty.false c.prompt_sound.ensures c.if-not-prompt_sound.true

pub loop-preserved : goal.loop-preserved
loop-preserved c = sound-step _ _ _ c.loop.invariant c.loop-test.true c.is_empty.ensures c.if-is_empty.false c.prompt_sound.ensures c.if-not-prompt_sound.false c.next_prompt-part.ensures

pub returns : goal.returns
returns c = sound-done _ _ _ c.loop.invariant c.loop-test.false c.is_empty-2.ensures
