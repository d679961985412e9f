use mathlib.Core.Path.{◌∙◌, sym, ap}
use Rattle.console.specs.Words.{first_word}
use Rattle.console.proofs.WordLaws.{word_past}
use Rattle.console.proofs.words.word.Goals as goal

pub returns : goal.returns
returns c = c.first_word.ensures ∙ ap first_word c.past_words.ensures ∙ sym (word_past c.args.k c.args.line.now)
