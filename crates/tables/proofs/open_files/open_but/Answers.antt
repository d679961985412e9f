use Rattle.std.proofs.Common.{rules, tests, refl}
use Rattle.rules.proofs.Chains.{any_in_range}
use Rattle.rules.specs.Store.{open_but}
use Rattle.tables.proofs.open_files.open_but.Goals as goal

pub returns : goal.returns
unfolding open_but
returns c = any_in_range _ _ _ c.any.ensures.ran refl (λ x t q k. search (rules, tests))
