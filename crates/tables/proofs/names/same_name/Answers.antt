use Rattle.std.proofs.Common.{rules, tests, refl}
use Rattle.rules.proofs.Chains.{all_in_range}
use Rattle.rules.specs.Paths.{same_name}
use Rattle.tables.proofs.names.same_name.Goals as goal

pub returns : goal.returns
unfolding same_name
returns c = all_in_range _ _ _ c.all.ensures.ran refl (λ x t q k. search (rules, tests))
