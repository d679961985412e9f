use Rattle.std.proofs.Common.{rules, ◌≡◌}
use Rattle.std.specs.Prelude.{Some, None}
use Rattle.console.specs.Words.{word_of, index_of}
use Rattle.console.specs.Settings.{TABLES, table_of}
use Rattle.console.proofs.settings.table_of.Goals as goal

pub returns-in_err-k : goal.returns-in_err-k
unfolding table_of
returns-in_err-k c = let e : index_of TABLES (word_of c.args.line.now 1) ≡ None = cc (c.in_err-k.was) in rw e c.from_residual.ensures

pub returns : goal.returns
unfolding table_of
returns c = let e : index_of TABLES (word_of c.args.line.now 1) ≡ Some c.in_ok-k.k = cc (c.in_ok-k.was) in rw e (search rules)
