use Rattle.std.proofs.Common.{rules, tests, refl}
use Rattle.rules.proofs.Chains.{all_in_range}
use Rattle.soundness.proofs.dirents.name_bytes_sound.Goals as goal

pub returns : goal.returns
returns c = all_in_range _ _ _ c.all.ensures.ran refl (λ x t q k. search (rules, tests))
