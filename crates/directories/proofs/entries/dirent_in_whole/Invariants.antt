use mathlib.Core.Path.{◌≡◌}
use Rattle.rules.specs.Scan.{first}
use Rattle.directories.specs.ByWords.{has_words}
use Rattle.directories.proofs.entries.dirent_in_whole.Given as goal

abbrev pub invariant-loop-i : goal.invariant-loop-i
invariant-loop-i l = first (has_words l.dir l.low l.high) l.i 16 ≡ first (has_words l.dir l.low l.high) 0 16
