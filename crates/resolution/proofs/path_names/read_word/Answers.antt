use Prim.Native.Nat.{◌+◌}
use mathlib.Core.Path.{◌≡◌}
use native.Mathlib.Omega.{arith}
use borrow.Author.Rules.{rules}
use Rattle.resolution.proofs.Packed.{at-start, stop-end, stop-slash, stop-full, fits, again}
use Rattle.resolution.proofs.path_names.read_word.Goals as goal

pub loop-k-init : goal.loop-k-init
loop-k-init c = let e : c.args.at + 0 ≡ c.args.at = omega arith in (rw e (at-start _ _ _), omega arith)

pub returns-then-path-i : goal.returns-then-path-i
returns-then-path-i c = stop-end _ _ _ _ _ _ c.loop-k.invariant.0 c.if-path-i.true

pub returns-then-is_slash : goal.returns-then-is_slash
returns-then-is_slash c = stop-slash _ _ _ _ _ _ c.loop-k.invariant.0 c.if-path-i.false _ c.get_or-b.ensures _ c.is_slash.ensures c.if-is_slash.true

pub overflow_add-word : goal.overflow_add-word
overflow_add-word c = record { fits = fits _ _ _ _ _ _ c.loop-k.invariant.0 c.if-path-i.false _ c.get_or-b.ensures _ c.is_slash.ensures c.if-is_slash.false c.loop-k-test.true c.requires (search rules) (λ j. (c.type_inv.path j).fits) }

pub loop-k-preserved : goal.loop-k-preserved
loop-k-preserved c =
    let e : c.args.at + (c.loop-k.k + 1) ≡ c.args.at + c.loop-k.k + 1 = omega arith in
    (rw e (again _ _ _ _ _ _ c.loop-k.invariant.0 c.if-path-i.false _ c.get_or-b.ensures _ c.is_slash.ensures c.if-is_slash.false c.loop-k-test.true c.requires (search rules)), omega (arith, c.if-path-i.false))

pub returns : goal.returns
returns c =
    let e : c.loop-k.k ≡ c.args.most = omega (arith, c.loop-k.auto.k-end, c.loop-k-test.false) in
    rw e at (stop-full _ _ _ _ _ _ c.loop-k.invariant.0 c.loop-k-test.false)
