use Prim.Native.Nat.{◌+◌, ◌*◌}
use mathlib.Core.Path.{◌≡◌}
use lib.ListN.{length, drop}
use lib.Seq.{sets}
use Rattle.recorded.specs.Records.{words_of, words_set}
use Rattle.recorded.proofs.records.put_words.Given as goal

abbrev pub invariant-loop-i : goal.invariant-loop-i
invariant-loop-i l = (length l.words ≡ length l.initial.words) × (sets l.words (l.at + l.i) (words_of (drop (4 * l.i) l.rest)) ≡ words_set l.body l.initial.words)
