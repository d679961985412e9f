use Rattle.rules.proofs.Lists.{rest_of, none-past}
use Rattle.tables.proofs.parts.after.Goals as goal

pub returns-then-n-xs : goal.returns-then-n-xs
returns-then-n-xs c = search rest_of

pub returns : goal.returns
returns c = search none-past
