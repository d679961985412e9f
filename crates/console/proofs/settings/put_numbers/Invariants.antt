-- The invariant: the rest is the line past 4 + i words; with the numbers from i on stored, the table is as it is to be.
use Prim.Native.Nat.{◌+◌}
use mathlib.Core.Path.{◌≡◌}
use mathlib.Core.List.{[]}
use lib.ListN.{length}
use lib.Seq.{sets}
use Rattle.rules.specs.Scan.{fold}
use Rattle.console.specs.Words.{past_words}
use Rattle.console.specs.Settings.{with_number, numbers_of}
use Rattle.console.proofs.settings.put_numbers.Given as goal

abbrev pub invariant-loop-i : goal.invariant-loop-i
invariant-loop-i l = record {
  size : length l.words ≡ length l.initial.words;
  rest : l.rest ≡ past_words (4 + l.i) l.line;
  stored : sets l.words (l.at + l.i) (fold (with_number l.line) (4 + l.i) (length l.line) []) ≡ sets l.initial.words l.at (numbers_of l.line);
}
