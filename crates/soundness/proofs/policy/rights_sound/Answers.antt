use Rattle.std.proofs.Common.{rules, tests, refl}
use Rattle.soundness.proofs.Flags.{flags_in_range}
use Rattle.soundness.proofs.policy.rights_sound.Goals as goal

pub returns : goal.returns
returns c = flags_in_range _ _ _ c.fold.ensures.ran refl (λ a x b q k. search (rules, tests))
