use Rattle.rules.proofs.Lists.{upto-of, whole_of}
use Rattle.tables.proofs.parts.upto.Goals as goal

pub returns-then-n-xs : goal.returns-then-n-xs
returns-then-n-xs c = search upto-of

pub returns : goal.returns
returns c = search whole_of
