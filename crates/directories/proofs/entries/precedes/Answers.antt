use Prim.Native.Nat.{ℕ, zero, suc, ◌+◌, ◌<◌}
use mathlib.Core.Path.{◌≡◌, ap, sym}
use mathlib.Core.Bool.{Bool, true, false, cond, true≢false}
use native.Mathlib.Omega.{arith}
use Rattle.std.proofs.Common.{rules, tests, refl, ◌∙◌, Some, Option, is_some, find, lt-ltb}
use Rattle.std.specs.List.{range_with_len}
use Rattle.std.specs.Option.{unwrap_or}
use Rattle.rules.specs.Choice.{every}
use Rattle.rules.specs.Scan.{first}
use Rattle.rules.specs.Directories.{differs_at, precedes}
use Rattle.rules.proofs.Chains.{first_in_range, find_in_range}
use Rattle.directories.proofs.entries.precedes.Goals as goal

-- what is found lies below the end
below : (p : ℕ → Bool) (z k a n : ℕ) → a + n ≡ z → find p (range_with_len a n) ≡ Some k → k < z
below p z k a zero q e = absurd (true≢false (sym (ap is_some e)))
below p z k a (suc n) q e = by (p a) (below p z k (a + 1) n (omega (arith, q))) e
  where
    by : (b : Bool) → (find p (range_with_len (a + 1) n) ≡ Some k → k < z) → cond b (Some a) (find p (range_with_len (a + 1) n)) ≡ Some k → k < z
    by true r h = let x : a ≡ k = ap (λ (o : Option ℕ). unwrap_or o 0) h in omega (arith, x, q)
    by false r h = r h

pub returns-in-Some : goal.returns-in-Some
unfolding precedes every
returns-in-Some c =
    let f : unwrap_or c.find.result 14 ≡ first (differs_at c.args.a.now c.args.b.now) 0 14 = first_in_range _ 0 14 (λ x t q k. search (rules, tests)) _ _ c.find.ensures.ran refl in
    let g : c.in-Some.k ≡ first (differs_at c.args.a.now c.args.b.now) 0 14 = rw c.in-Some.is at f in
    let l : c.in-Some.k < 14 = below (differs_at c.args.a.now c.args.b.now) 14 _ 0 14 refl (sym (find_in_range (differs_at c.args.a.now c.args.b.now) 0 14 (λ x t q k. search (rules, tests)) _ _ c.find.ensures.ran refl) ∙ c.in-Some.is) in
    rw (← g, lt-ltb _ _ l) (search rules)

pub returns-in-None : goal.returns-in-None
unfolding precedes every
returns-in-None c =
    let f : unwrap_or c.find.result 14 ≡ first (differs_at c.args.a.now c.args.b.now) 0 14 = first_in_range _ 0 14 (λ x t q k. search (rules, tests)) _ _ c.find.ensures.ran refl in
    let g : 14 ≡ first (differs_at c.args.a.now c.args.b.now) 0 14 = rw c.in-None.is at f in
    rw (← g) refl
