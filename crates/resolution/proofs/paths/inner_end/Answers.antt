use Rattle.std.proofs.Common.{rules, tests}
use Rattle.resolution.specs.Parse.{inner}
use Rattle.resolution.proofs.paths.inner_end.Goals as goal

pub returns : goal.returns
returns c = c.span_end.ensures inner (λ x r l k. search (rules, tests))
