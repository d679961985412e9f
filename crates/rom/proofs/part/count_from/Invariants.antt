use Rattle.std.proofs.Common.{◌≡◌, ◌+◌, ◌-◌}
use Rattle.rules.specs.Rom.{prompt_count}
use Rattle.rom.proofs.part.count_from.Given as goal

abbrev pub invariant-loop-k : goal.invariant-loop-k
invariant-loop-k l = l.k + prompt_count (l.n - l.k) l.part ≡ prompt_count l.n l.initial.part
