-- The invariant: the words from `at` on, after k names, give what the whole path gives.
use Prim.Native.Nat.{◌-◌}
use mathlib.Core.Path.{◌≡◌}
use lib.ListN.{drop}
use Rattle.resolution.specs.Parse.{words_read}
use Rattle.resolution.proofs.paths.read_words.Given as goal

abbrev pub invariant-loop-k : goal.invariant-loop-k
invariant-loop-k l = words_read (9 - l.k) (drop l.at l.path) l.k ≡ words_read 9 l.path 0
