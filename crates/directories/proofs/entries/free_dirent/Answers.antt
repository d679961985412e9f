use Rattle.std.proofs.Common.{rules, tests, refl, ap, ◌∙◌}
use Rattle.rules.specs.Store.{entry}
use Rattle.rules.proofs.Chains.{first_in_range}
use Rattle.directories.proofs.entries.free_dirent.Goals as goal

pub returns : goal.returns
returns c = ap entry (c.unwrap_or.ensures ∙ first_in_range _ 0 16 (λ x t q k. search (rules, tests)) _ _ c.find.ensures.ran refl)
