use Rattle.std.proofs.Common.{rules, tests, refl}
use Rattle.rules.specs.Sound.{desc_free}
use Rattle.rules.proofs.Chains.{all_in_range}
use Rattle.soundness.proofs.processes.all_desc_free.Goals as goal

pub returns : goal.returns
unfolding desc_free
returns c = all_in_range _ _ _ c.all.ensures.ran refl (λ x t q k. search (rules, tests))
