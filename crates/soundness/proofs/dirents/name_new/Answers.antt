use Rattle.std.proofs.Common.{rules, tests, refl, ◌∙◌}
use Rattle.rules.proofs.Chains.{all_in_range}
use Rattle.soundness.proofs.NewNames.{others_by}
use Rattle.soundness.proofs.dirents.name_new.Goals as goal

pub returns : goal.returns
returns c =
    all_in_range _ _ _ c.all.ensures.ran refl (λ x t q k. search (rules, tests))
    ∙ others_by c.args.dir.now (λ k. (c.type_inv.dir k).fits) c.args.i.0 _ _ c.low_at-low.ensures c.high_at-high.ensures
