use mathlib.Core.Path.{sym}
use Rattle.rules.proofs.Lists.{upto-of, take_all}
use Rattle.console.proofs.calls.first.Goals as goal

pub returns-then-n-buffer : goal.returns-then-n-buffer
returns-then-n-buffer c = search upto-of

pub returns : goal.returns
returns c = sym (take_all _ _ c.if-n-buffer.false)
