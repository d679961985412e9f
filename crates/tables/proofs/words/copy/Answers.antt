use Rattle.std.proofs.Common.{sym, ◌∙◌, ◌+◌, arith}
use Rattle.tables.proofs.Clipped.{copied, copy-done}
use Rattle.tables.proofs.words.copy.Goals as goal

pub returns : goal.returns
returns g c =
    sym (copy-done c.loop-i.xs c.args.ys.now (c.min-from.result + c.loop-i.i) c.loop-i.i c.min-n.result (omega (arith, c.loop-i-test.false)))
    ∙ c.loop-i.invariant.1
    ∙ copied c.args.xs.now c.args.ys.now c.args.at _ c.min-n.result c.min-from.ensures c.min-n.ensures
