use Rattle.std.proofs.Common.{rules, tests, eqb, ◌≡◌}
use Rattle.std.specs.List as list
use Rattle.std.proofs.lemmas.Iterator.Consumers.{fold_from_yields_List, YieldsList-at}
use Rattle.std.proofs.lemmas.Iterator.Search.{YieldsList-from_take_while}
use Rattle.std.proofs.lemmas.Iterator.Splits.{YieldsList-from_slice_split}
use Rattle.script_rules.specs.Text.{NEWLINE}
use Rattle.console.specs.Words.{has_bytes, head_of}
use Rattle.console.specs.Settings.{line_set, fresh_tables}
use Rattle.console.proofs.settings.fresh.Goals as goal

pub returns : goal.returns
unfolding fresh_tables head_of
returns c =
    let e : c.fold.result ≡ list.fold (λ s l. line_set l s) c.empty.result (head_of c.args.script.now) = fold_from_yields_List _ (λ s l. line_set l s) _ _ c.fold.ensures.ran
    (YieldsList-from_take_while _ has_bytes
    (YieldsList-at c.take_while.ensures.source (YieldsList-from_slice_split _ (λ b. eqb b NEWLINE) c.args.script.now c.split.ensures.rest c.split.ensures.done c.split.ensures.closure (λ x b q k. search (rules, tests))))
    c.take_while.ensures.closure c.take_while.ensures.done (λ x b q k. search (rules, tests)))
    (λ a x b q k. search rules) in
    rw (e, c.empty.ensures)
