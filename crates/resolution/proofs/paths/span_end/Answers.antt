use Prim.Native.Nat.{ℕ, ◌≤◌, ◌<◌, ◌+◌, max}
use mathlib.Core.Path.{◌≡◌, sym, ◌∙◌}
use mathlib.Core.Bool.{Bool, true, false}
use mathlib.Core.List.{List}
use native.Mathlib.Decide.{dec_lt}
use native.Mathlib.Omega.{arith}
use lib.ListN.{length, get_or}
use Rattle.resolution.proofs.Spans.{span_more, span-stop, span-past}
use Rattle.resolution.proofs.paths.span_end.Invariants.{ends}
use Rattle.resolution.proofs.paths.span_end.Goals as goal

module _ (p : List ℕ) (at i : ℕ) (t : ℕ → Bool) (inv : ends p at t ≡ ends p i t) where
  module _ (r : Bool) (l : i < length p) (q : r ≡ t (get_or p i 0)) where
    more : r ≡ true → ends p at t ≡ ends p (i + 1) t
    more e = omega (arith, inv, span_more t p i l (sym q ∙ e))

    stop : r ≡ false → i ≡ ends p at t
    stop e = omega (arith, inv, span-stop t p i l (sym q ∙ e))

  past : (z : ℕ) → length p ≤ i → (at ≤ length p → i ≤ length p) → z ≡ max at (length p) → z ≡ ends p at t
  past z l h e = by (dec_lt at (length p))
    where
      by : Dec (at < length p) → z ≡ ends p at t
      by (yes a) = let b : i ≤ length p = h (omega (arith, a)) in omega (arith, inv, e, a, b, l, span-past t p i l)
      by (no a) = let b : length p ≤ at = omega (arith, a) in omega (arith, e, b, span-past t p at b)

pub loop-i-preserved : goal.loop-i-preserved
loop-i-preserved g c = λ t h. more _ _ _ t (c.loop-i.invariant t h) _ c.loop-i-test.true (h _ _ (c.type_inv.path _).fits c.test.ensures) c.if-not-test.false

pub returns-then-not-test : goal.returns-then-not-test
returns-then-not-test g c = λ t h. stop _ _ _ t (c.loop-i.invariant t h) _ c.loop-i-test.true (h _ _ (c.type_inv.path _).fits c.test.ensures) c.if-not-test.true

pub returns : goal.returns
returns g c = λ t h. past _ _ _ t (c.loop-i.invariant t h) _ c.loop-i-test.false c.loop-i.auto.i-end c.max.ensures
