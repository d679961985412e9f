use Rattle.std.proofs.Common.{rules, tests}
use Rattle.rules.specs.Paths.{not_slash}
use Rattle.resolution.proofs.paths.name_end.Goals as goal

pub returns : goal.returns
returns c = c.span_end.ensures not_slash (λ x r l k. search (rules, tests))
