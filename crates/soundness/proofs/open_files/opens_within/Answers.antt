use Rattle.std.proofs.Common.{rules, tests, refl}
use Rattle.soundness.specs.Counted.{open_below}
use Rattle.soundness.proofs.Bridge.{end_fits, within_by}
use Rattle.rules.proofs.Chains.{all_in_range}
use Rattle.soundness.proofs.open_files.opens_within.Goals as goal

pub overflow_add-end : goal.overflow_add-end
overflow_add-end c = search end_fits

pub returns : goal.returns
unfolding open_below
returns c = within_by _ _ _ _ c.prompt_count.ensures (all_in_range _ _ _ c.all.ensures.ran refl (λ x t q k. search (rules, tests)))
