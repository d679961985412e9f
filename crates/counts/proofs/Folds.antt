-- Passes from the last number to the first: `fold f i n z` is z after the steps f (n - 1), .., f (i + 1), f i.
use mathlib.Core.Path.{◌≡◌, ◌∙◌, sym, ap}
use Prim.Native.Nat.{ℕ, ◌+◌, ◌-◌, ◌≤◌, ◌<◌}
use native.Mathlib.Omega.{arith}
use Rattle.rules.specs.Scan.{fold}
use Rattle.rules.proofs.Scans.{fold_step, fold_done}

module _ {A : Type 0} (f : ℕ → A → A) (n : ℕ) (z : A) where
  -- a pass that starts
  pub fold_start : z ≡ fold f n n z
  fold_start = sym (fold_done f n n z (omega arith))

  -- one turn of the loop
  pub fold-down : (i : ℕ) (x : A) → x ≡ fold f i n z → 0 < i → i ≤ n → (y : A) → y ≡ f (i - 1) x → y ≡ fold f (i - 1) n z
  fold-down i x v a b y q =
      let e : i - 1 + 1 ≡ i = omega arith in
      q ∙ ap (f (i - 1)) (v ∙ ap (λ (k : ℕ). fold f k n z) (sym e)) ∙ sym (fold_step f (i - 1) n z (omega arith))

  -- the loop is done
  pub fold-ends : (i : ℕ) (x : A) → x ≡ fold f i n z → i ≤ 0 → x ≡ fold f 0 n z
  fold-ends i x v h =
      let e : i ≡ 0 = omega arith in
      v ∙ ap (λ (k : ℕ). fold f k n z) e
