use Rattle.std.proofs.Common.{rules, tests, refl}
use Rattle.script_rules.specs.Blocks.{has_key}
use Rattle.rules.proofs.Chains.{all_in_range}
use Rattle.script_text.proofs.lines.begins_with.Goals as goal

pub returns : goal.returns
unfolding has_key
returns c = all_in_range _ _ _ c.all.ensures.ran refl (λ x t q k. search (rules, tests))
