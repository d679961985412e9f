-- Laws of `bits`, the number whose binary digits are the answers of a test.
use mathlib.Core.Path.{◌≡◌, refl}
use mathlib.Core.Bool.{Bool, true, false, cond, not}
use Prim.Native.Nat.{ℕ, zero, suc, ◌+◌, ◌-◌, ◌*◌, ◌/◌, ◌%◌, ◌^◌, ◌<◌, ◌≤◌}
use native.Mathlib.Nat.{pow-suc, mul_comm, div-one, div-div-eq-div-mul, div-eq_of_lt, zero-add, sub-zero, mul-add, mul_assoc, mul-one, mul-zero, add-zero}
use native.Mathlib.Numerals.{add-one}
use native.Mathlib.Omega.{arith}
use lib.Dec.{eqb}
use lib.Pow.{pow_mono}
use lib.Count.{count_trailing_zeros}
use Rattle.rules.specs.Scan.{turns, fold, first}
use Rattle.rules.proofs.Scans.{fold_step, fold_done}
use Rattle.allocation.specs.Word.{bits, is_set}

-- a digit is 0 or 1
small : (b : Bool) → cond b 1 0 ≤ 1
small true = omega arith
small false = omega arith

even : (k m h : ℕ) → m % 2 ≡ 0 → m / 2 ≡ h → count_trailing_zeros (suc k) m ≡ suc (count_trailing_zeros k h)
unfolding count_trailing_zeros
even k m h e q = rw (e, q)

odd : (k m : ℕ) → m % 2 ≡ 1 → count_trailing_zeros (suc k) m ≡ 0
unfolding count_trailing_zeros
odd k m e = rw e

module _ (t : ℕ → Bool) where
  abbrev digit : ℕ → ℕ → ℕ
  digit j rest = cond (t j) 1 0 + 2 * rest

  below : (k i : ℕ) → turns digit i k 0 < 2 ^ k
  unfolding turns
  below zero i = omega arith
  below (suc k) i = let e : 2 ^ suc k ≡ 2 ^ k * 2 = pow-suc 2 k in omega (arith, e, below k (suc i), small (t i))

  digit_at : (k i n : ℕ) → n < k → (turns digit i k 0 / 2 ^ n) % 2 ≡ cond (t (i + n)) 1 0
  unfolding turns
  digit_at zero i n l = absurd (omega arith)
  digit_at (suc k) i zero l = let e : i + 0 ≡ i = omega arith in rw (e, div-one) (omega (arith, small (t i)))
  digit_at (suc k) i (suc n) l =
      let e : i + suc n ≡ suc i + n = omega arith in
      let h : (cond (t i) 1 0 + 2 * turns digit (suc i) k 0) / 2 ≡ turns digit (suc i) k 0 = omega (arith, small (t i)) in
      rw (pow-suc 2 n, mul_comm (2 ^ n) 2, ← div-div-eq-div-mul (cond (t i) 1 0 + 2 * turns digit (suc i) k 0) 2 (2 ^ n), h, e) (digit_at k (suc i) n (omega arith))

  from_start : (k : ℕ) → bits t 0 k ≡ turns digit 0 k 0
  unfolding bits fold
  from_start k = rw sub-zero

  pub set_at : (k n : ℕ) → n < k → is_set (bits t 0 k) n ≡ t n
  set_at k n l = rw (from_start k, digit_at k 0 n l, zero-add) (one (t n))
    where
      one : (b : Bool) → eqb (cond b 1 0) 1 ≡ b
      one true = refl
      one false = refl

  pub none-past : (k n : ℕ) → k ≤ n → is_set (bits t 0 k) n ≡ false
  none-past k n l =
      let a : 2 ^ k ≤ 2 ^ n = pow_mono l in
      let h : turns digit 0 k 0 < 2 ^ n = omega (arith, a, below k 0) in
      rw (from_start k, div-eq_of_lt h) refl

  -- the digits from i on, of a loop that has passed those before i
  digit-next : (i n : ℕ) → i < n → bits t i n ≡ cond (t i) 1 0 + 2 * bits t (i + 1) n
  unfolding bits
  digit-next i n l = fold_step digit i n 0 l

  digit-done : (i n : ℕ) → n ≤ i → bits t i n ≡ 0
  unfolding bits
  digit-done i n l = fold_done digit i n 0 l

module _ (t : ℕ → Bool) where
  abbrev other : ℕ → Bool
  other n = not (t n)

  -- the digits of a test and of its negation are together all ones
  together : (k i : ℕ) → turns (digit other) i k 0 + turns (digit t) i k 0 + 1 ≡ 2 ^ k
  unfolding turns
  together zero i = refl
  together (suc k) i =
      let e : 2 ^ suc k ≡ 2 ^ k * 2 = pow-suc 2 k in
      omega (arith, e, together k (suc i), both (t i))
    where
      both : (b : Bool) → cond (not b) 1 0 + cond b 1 0 ≡ 1
      both true = refl
      both false = refl

  -- A loop takes from all ones the digits of t, one at a time: at i, the digits of its negation are in w, and those of t from i on.
  pub all_ones : (k : ℕ) → 2 ^ k - 1 ≡ bits other 0 k + 2 ^ 0 * bits t 0 k
  all_ones k = rw (from_start other k, from_start t k) (omega (arith, together k 0))

  module _ (n i : ℕ) (l : i < n) where
    split : 2 ^ i * bits t i n ≡ cond (t i) (2 ^ i) 0 + 2 ^ (i + 1) * bits t (i + 1) n
    split = rw (add-one, pow-suc 2 i, digit-next t i n l, add-one) (by (t i) (2 ^ i) (bits t (suc i) n))
      where
        by : (b : Bool) (a m : ℕ) → a * (cond b 1 0 + 2 * m) ≡ cond b a 0 + a * 2 * m
        by true a m = rw (mul-add, mul-one, mul_assoc) refl
        by false a m = rw (mul-add, mul-zero, mul_assoc) refl

    module _ (w v : ℕ) (inv : w ≡ bits other 0 n + 2 ^ i * bits t i n) (e : v ≡ cond (t i) (2 ^ i) 0) where
      pub covered : v ≤ w
      covered = omega (arith, split, inv, e)

      pub taken : w - v ≡ bits other 0 n + 2 ^ (i + 1) * bits t (i + 1) n
      taken = omega (arith, split, inv, e)

  pub all-taken : (n i w : ℕ) → w ≡ bits other 0 n + 2 ^ i * bits t i n → n ≤ i → w ≡ bits other 0 n
  all-taken n i w inv l = rw (digit-done t i n l, mul-zero, add-zero) at inv

  -- the zeros at the end of the digits of t are the numbers before the first of which it holds
  zeros : (k i : ℕ) → turns (λ j rest. cond (t j) j rest) i k (i + k) ≡ i + count_trailing_zeros k (turns (digit t) i k 0)
  unfolding turns count_trailing_zeros
  zeros zero i = refl
  zeros (suc k) i =
      let e : i + suc k ≡ suc i + k = omega arith in
      rw e (by (t i) (turns (digit t) (suc i) k 0) (turns (λ j rest. cond (t j) j rest) (suc i) k (suc i + k)) (zeros k (suc i)))
    where
      by : (b : Bool) (m r : ℕ) → r ≡ suc i + count_trailing_zeros k m → cond b i r ≡ i + count_trailing_zeros (suc k) (cond b 1 0 + 2 * m)
      by true m r h = rw (odd k (1 + 2 * m) (omega arith)) (omega arith)
      by false m r h = rw (even k (0 + 2 * m) m (omega arith) (omega arith)) (omega (arith, h))

  pub first-zeros : (k : ℕ) → first t 0 k ≡ count_trailing_zeros k (2 ^ k - 1 - bits other 0 k)
  unfolding first fold
  first-zeros k =
      let e : 2 ^ k - 1 - turns (digit other) 0 k 0 ≡ turns (digit t) 0 k 0 = omega (arith, together k 0) in
      rw (from_start other k, e, sub-zero) (rw (zero-add k, zero-add) at (zeros k 0))
