use Rattle.std.proofs.Common.{rules, tests}
use Rattle.rules.proofs.Chains.{count_in_range}
use Rattle.directories.proofs.entries.rank_of.Goals as goal

pub returns : goal.returns
returns c = count_in_range _ 0 17 (λ x t q k. search (rules, tests)) c.count.ensures.ran c.filter.ensures.source c.filter.ensures.closure
