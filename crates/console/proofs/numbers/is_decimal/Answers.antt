use mathlib.Core.Bool.{true, not}
use Rattle.std.proofs.Common.{rules, tests, ◌≡◌, eqb, length}
use Rattle.std.specs.List.{list_all}
use Rattle.std.proofs.lemmas.Iterator.{YieldsList-from_slice}
use Rattle.std.proofs.lemmas.Iterator.Search.{all_from_yields_List}
use Rattle.rules.proofs.Choices.{every-passes, every-last}
use Rattle.script_rules.specs.Text.{is_digit}
use Rattle.console.specs.Numbers.{is_decimal}
use Rattle.console.proofs.numbers.is_decimal.Goals as goal

pub returns-then-not-is_empty : goal.returns-then-not-is_empty
unfolding is_decimal
returns-then-not-is_empty c =
    let e : c.all.result ≡ list_all is_digit c.args.text.now = all_from_yields_List is_digit _ _ c.all.result c.all.ensures.ran (YieldsList-from_slice c.args.text.now cc) (λ x b q k. search (rules, tests)) in
    let n : not (eqb (length c.args.text.now) 0) ≡ true = search (rules, tests) in
    every-passes _ _ _ n (every-last _ _ e)
