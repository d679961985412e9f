use Rattle.std.proofs.Common.{rules, tests, ap, ◌∙◌, eqb, bit_or}
use Rattle.std.proofs.lemmas.Iterator.{YieldsList-from_slice}
use Rattle.std.proofs.lemmas.Iterator.Consumers.{fold_from_yields_List}
use Rattle.soundness.proofs.Flags.{joined_zero}
use Rattle.soundness.proofs.bytes.all_zero.Goals as goal

pub returns : goal.returns
returns c =
    ap (λ r. eqb r 0) (fold_from_yields_List _ bit_or 0 _ c.fold.ensures.ran (YieldsList-from_slice c.args.bytes.now cc) (λ a x b q k. search (rules, tests)))
    ∙ joined_zero c.args.bytes.now
