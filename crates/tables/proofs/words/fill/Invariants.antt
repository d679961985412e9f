use Rattle.std.proofs.Common.{◌≡◌, ◌-◌, length, replicate}
use Rattle.std.proofs.lemmas.List.Edits.{sets}
use Rattle.tables.proofs.words.fill.Given as goal

abbrev pub invariant-loop-i : goal.invariant-loop-i
invariant-loop-i g l = (length l.xs ≡ length l.initial.xs) × (sets l.xs l.i (replicate (l.end - l.i) l.v) ≡ sets l.initial.xs l.from (replicate (l.end - l.from) l.v))
