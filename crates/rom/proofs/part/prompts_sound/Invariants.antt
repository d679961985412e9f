use Rattle.std.proofs.Common.{◌≡◌, ◌-◌}
use Rattle.rules.specs.Rom.{prompts_sound}
use Rattle.rom.proofs.part.prompts_sound.Given as goal

abbrev pub invariant-loop : goal.invariant-loop
invariant-loop l = prompts_sound (l.n - l.counter) l.part ≡ prompts_sound l.n l.initial.part
