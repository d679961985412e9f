-- `span`, over the test t, is how many the library's `take_while` gives.
use Prim.Native.Nat.{ℕ, suc, ◌+◌}
use mathlib.Core.Path.{◌≡◌, refl, ◌∙◌}
use mathlib.Core.Bool.{Bool, true, false, cond}
use mathlib.Core.List.{List, [], ◌∷◌}
use native.Mathlib.Omega.{arith}
use lib.ListN.{length, take}
use Rattle.std.specs.List.{prefix_len}
use Rattle.std.proofs.lemmas.List.Folds.{length-prefix_len}
use Rattle.rules.specs.Paths.{span}

span_prefix : (t : ℕ → Bool) (xs : List ℕ) → prefix_len t xs ≡ span t xs
unfolding span
span_prefix t [] = refl
span_prefix t (x ∷ xs) = rw (span_prefix t xs) (by (t x) (span t xs))
  where
    by : (b : Bool) (n : ℕ) → cond b (1 + n) 0 ≡ cond b (suc n) 0
    by true n = omega arith
    by false n = refl

pub length-span : (t : ℕ → Bool) (xs : List ℕ) → length (take (prefix_len t xs) xs) ≡ span t xs
length-span t xs = length-prefix_len t xs ∙ span_prefix t xs
