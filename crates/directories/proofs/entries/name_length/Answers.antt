use Rattle.std.proofs.Common.{rules, tests, refl, ◌∙◌}
use Rattle.rules.proofs.Chains.{first_in_range}
use Rattle.directories.proofs.entries.name_length.Goals as goal

pub returns : goal.returns
returns c = c.unwrap_or.ensures ∙ first_in_range _ 0 14 (λ x t q k. search (rules, tests)) _ _ c.find.ensures.ran refl
