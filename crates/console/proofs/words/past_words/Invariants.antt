-- The invariant: as many words as there are turns left are still to be taken from the rest.
use Rattle.std.proofs.Common.{◌≡◌, ◌-◌}
use Rattle.console.specs.Words.{past_words}
use Rattle.console.proofs.words.past_words.Given as goal

abbrev pub invariant-loop : goal.invariant-loop
invariant-loop l = past_words (l.k - l.counter) l.rest ≡ past_words l.k l.line
