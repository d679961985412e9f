use Rattle.std.proofs.Common.{◌≡◌, ◌+◌, length, take, drop}
use Rattle.std.proofs.lemmas.List.Edits.{sets}
use Rattle.tables.proofs.words.copy.Given as goal

abbrev pub invariant-loop-i : goal.invariant-loop-i
invariant-loop-i g l = (length l.xs ≡ length l.initial.xs) × (sets l.xs (l.from + l.i) (drop l.i (take l.n l.ys)) ≡ sets l.initial.xs l.from (take l.n l.ys))
