-- How many prompts a factory part has.
use Prim.Native.Nat.{ℕ, zero, suc, ◌≤◌}
use mathlib.Core.Bool.{Bool, true, false, cond}
use mathlib.Core.List.{List}
use native.Mathlib.Omega.{arith}
use lib.Dec.{eqb}
use lib.ListN.{length}
use Rattle.rules.specs.Rom.{next_prompt, prompt_count}

pub count_most : (n : ℕ) (X : List ℕ) → prompt_count n X ≤ n
unfolding prompt_count
count_most zero X = omega arith
count_most (suc n) X = by (eqb (length X) 0) (count_most n (next_prompt X))
  where
    by : (b : Bool) → prompt_count n (next_prompt X) ≤ n → cond b 0 (suc (prompt_count n (next_prompt X))) ≤ suc n
    by true l = omega arith
    by false l = omega arith
