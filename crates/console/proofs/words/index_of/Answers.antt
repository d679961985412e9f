use Rattle.std.proofs.Common.{rules, tests, eqb}
use Rattle.std.specs.Str.{bytes_eq}
use Rattle.std.proofs.lemmas.Iterator.Search.{position_from_yields_List}
use Rattle.std.proofs.lemmas.Iterator.Splits.{YieldsList-from_slice_split}
use Rattle.console.specs.Words.{SPACE, index_of}
use Rattle.console.proofs.words.index_of.Goals as goal

pub returns-clause-is : goal.returns-clause-is
unfolding index_of
returns-clause-is c =
    position_from_yields_List (λ w. bytes_eq w c.args.name.now) _ _ _ c.position.ensures.ran
    (YieldsList-from_slice_split _ (λ b. eqb b SPACE) c.args.list.now c.split.ensures.rest c.split.ensures.done c.split.ensures.closure (λ x b q k. search (rules, tests)))
    (λ x b q k. search (rules, tests))
