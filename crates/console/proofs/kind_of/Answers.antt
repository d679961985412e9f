use Rattle.std.proofs.Common.{rules, ◌≡◌}
use Rattle.std.specs.Prelude.{Some, None}
use Rattle.console.specs.Words.{word_of, index_of}
use Rattle.console.specs.Lines.{KINDS, kind_of}
use Rattle.console.proofs.kind_of.Goals as goal

pub returns-in_err-k : goal.returns-in_err-k
unfolding kind_of
returns-in_err-k c = let e : index_of KINDS (word_of c.args.line.now 0) ≡ None = cc (c.in_err-k.was) in rw e c.from_residual.ensures

pub returns : goal.returns
unfolding kind_of
returns c = let e : index_of KINDS (word_of c.args.line.now 0) ≡ Some c.in_ok-k.k = cc (c.in_ok-k.was) in rw e (search rules)
