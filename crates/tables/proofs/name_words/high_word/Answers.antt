use Rattle.tables.specs.NameWords.{high_word}
use Rattle.tables.proofs.name_words.high_word.Goals as goal

pub returns : goal.returns
unfolding high_word
returns c = cc
