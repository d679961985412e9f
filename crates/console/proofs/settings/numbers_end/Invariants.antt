-- The invariant: the rest is the line past k words, and the first that is no number is not among those.
use mathlib.Core.Path.{◌≡◌}
use lib.ListN.{length}
use Rattle.rules.specs.Scan.{first}
use Rattle.console.specs.Words.{past_words}
use Rattle.console.specs.Settings.{no_number_at, numbers_end}
use Rattle.console.proofs.settings.numbers_end.Given as goal

abbrev pub invariant-loop-k : goal.invariant-loop-k
invariant-loop-k l = record { rest : l.rest ≡ past_words l.k l.line; first : first (no_number_at l.line) l.k (length l.line) ≡ numbers_end l.line }
