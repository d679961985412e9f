use Prim.Native.Nat.{◌+◌}
use mathlib.Core.Path.{◌≡◌, refl}
use native.Mathlib.Omega.{arith}
use borrow.Author.Rules.{rules}
use Rattle.console.specs.Settings.{numbers_of}
use Rattle.console.proofs.WordLaws.{past-more}
use Rattle.console.proofs.SettingLaws.{number_past, ended, none, more}
use Rattle.console.proofs.settings.put_numbers.Goals as goal

pub loop-i-init : goal.loop-i-init
unfolding numbers_of
loop-i-init c = let e : c.args.at + 0 ≡ c.args.at = omega arith in record { size = refl; rest = c.past_words-rest.ensures; stored = rw e refl }

pub returns-in_default : goal.returns-in_default
unfolding numbers_of
returns-in_default c =
    let q = number_past c.args.line.now (4 + c.loop-i.i) c.loop-i.invariant.rest c.first_word.ensures c.number.ensures in
    none _ _ _ _ c.loop-i.invariant.stored (omega arith) q c.in_default.is

pub loop-i-preserved : goal.loop-i-preserved
unfolding numbers_of
loop-i-preserved c =
    let q = number_past c.args.line.now (4 + c.loop-i.i) c.loop-i.invariant.rest c.first_word.ensures c.number.ensures in
    let k : 4 + (c.loop-i.i + 1) ≡ 4 + c.loop-i.i + 1 = omega arith in
    record {
      size = search rules;
      rest = rw k (past-more _ _ c.loop-i.invariant.rest c.after_word-rest.ensures);
      stored = more _ _ _ _ c.loop-i.invariant.stored (omega arith) q c.in-Some.is;
    }

pub returns : goal.returns
unfolding numbers_of
returns c = ended _ _ _ _ c.loop-i.invariant.stored (omega arith)
