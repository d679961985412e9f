use Rattle.std.proofs.Common.{rules, tests, refl}
use Rattle.rules.proofs.Scans.{first-yes, first-no, first_done}
use Rattle.console.specs.Settings.{no_number_at}
use Rattle.console.proofs.WordLaws.{past-more}
use Rattle.console.proofs.SettingLaws.{number_past}
use Rattle.console.proofs.settings.numbers_end.Goals as goal

pub loop-k-init : goal.loop-k-init
loop-k-init c = record { rest = c.past_words-rest.ensures; first = refl }

pub returns-then-is_none : goal.returns-then-is_none
unfolding no_number_at
returns-then-is_none c =
    let e = number_past c.args.line.now c.loop-k.k c.loop-k.invariant.rest c.first_word.ensures c.number.ensures in
    first-yes _ _ _ c.loop-k.invariant.first c.loop-k-test.true c.if-is_none.true (rw (← e) (search (rules, tests)))

pub loop-k-preserved : goal.loop-k-preserved
unfolding no_number_at
loop-k-preserved c =
    let e = number_past c.args.line.now c.loop-k.k c.loop-k.invariant.rest c.first_word.ensures c.number.ensures in
    record {
      rest = past-more _ _ c.loop-k.invariant.rest c.after_word-rest.ensures;
      first = first-no _ _ _ c.loop-k.invariant.first c.loop-k-test.true c.if-is_none.false (rw (← e) (search (rules, tests)));
    }

pub returns : goal.returns
returns c = first_done _ _ _ c.loop-k.invariant.first c.loop-k-test.false
