use Rattle.std.proofs.Common.{◌≡◌, ◌+◌, ◌-◌, refl, sym, ◌∙◌, arith}
use Rattle.std.proofs.lemmas.List.{length-set}
use Rattle.tables.proofs.Clipped.{fill-step, filled}
use Rattle.tables.proofs.words.fill.Goals as goal

pub loop-i-init : goal.loop-i-init
loop-i-init g c = (refl, refl)

pub loop-i-preserved : goal.loop-i-preserved
loop-i-preserved g c =
    let left : c.min-from.result + c.min.result - (c.loop-i.i + 1) ≡ c.min-from.result + c.min.result - c.loop-i.i - 1 = omega arith in
    (length-set _ _ _ ∙ c.loop-i.invariant.0, rw left (sym (fill-step c.loop-i.xs c.loop-i.i (c.min-from.result + c.min.result - c.loop-i.i) c.args.v (omega (arith, c.loop-i-test.true))) ∙ c.loop-i.invariant.1))

pub returns : goal.returns
returns g c =
    let left : c.min-from.result + c.min.result - c.loop-i.i ≡ 0 = omega (arith, c.loop-i-test.false) in
    let most : c.min-from.result + c.min.result - c.min-from.result ≡ c.min.result = omega arith in
    rw (left, most) at c.loop-i.invariant.1 ∙ filled c.args.xs.now c.args.at c.args.n _ c.min.result c.args.v c.min-from.ensures c.min.ensures
