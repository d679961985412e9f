use Rattle.std.proofs.Common.{◌≡◌, ◌-◌}
use Rattle.rules.specs.Rom.{rom_from}
use Rattle.rom.proofs.part.rom_from.Given as goal

abbrev pub invariant-loop : goal.invariant-loop
invariant-loop l = rom_from (l.k - l.counter) l.part ≡ rom_from l.k l.initial.part
