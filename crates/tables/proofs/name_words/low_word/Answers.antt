use Rattle.tables.specs.NameWords.{low_word}
use Rattle.tables.proofs.name_words.low_word.Goals as goal

pub returns : goal.returns
unfolding low_word
returns c = cc
