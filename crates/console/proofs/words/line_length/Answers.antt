use Rattle.std.proofs.Common.{rules, tests, ◌∙◌}
use Rattle.std.proofs.lemmas.Iterator.{YieldsList-from_slice}
use Rattle.std.proofs.lemmas.Iterator.Search.{YieldsList-from_take_while}
use Rattle.std.proofs.lemmas.Iterator.Consumers.{count_from_yields_List}
use mathlib.Core.Path.{ap}
use Rattle.rules.specs.Paths.{span}
use Rattle.script_rules.specs.Text.{not_newline}
use Rattle.script_text.proofs.Spans.{length-span}
use Rattle.console.proofs.words.line_length.Goals as goal

pub returns : goal.returns
unfolding not_newline
returns c =
    count_from_yields_List _ _ c.count.ensures.ran
    (YieldsList-from_take_while _ not_newline (YieldsList-from_slice c.after.result.now cc) c.take_while.ensures.closure c.take_while.ensures.done (λ x b q k. search (rules, tests)))
    ∙ length-span not_newline c.after.result.now
    ∙ ap (span not_newline) c.after.ensures
