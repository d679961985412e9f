use Rattle.std.proofs.Common.{rules, tests}
use Rattle.rules.specs.Paths.{is_slash}
use Rattle.resolution.proofs.paths.slashes_end.Goals as goal

pub returns : goal.returns
returns c = c.span_end.ensures is_slash (λ x r l k. search (rules, tests))
