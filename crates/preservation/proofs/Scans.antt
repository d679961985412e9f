-- The scans of the rules: what they find, and counts and totals as sums.
use mathlib.Core.Path.{◌≡◌, refl, sym, ap, ◌∙◌}
use mathlib.Core.Bool.{Bool, true, false, false≢true, true≢false}
use mathlib.Core.Logic.{◌⊎◌, inl, inr}
use Prim.Native.Nat.{ℕ, zero, suc, ◌+◌, ◌-◌, ◌≤◌, ◌<◌}
use native.Mathlib.Nat.{eq-or-lt_of_le}
use native.Mathlib.Omega.{arith}
use native.Mathlib.Decide.{dec_lt}
use Rattle.rules.specs.Scan.{any, count, total, first}
use Rattle.rules.proofs.Scans.{any-yes, any-no, any-done, count_yes, count_no, count-done, total-next, total-done, first-yes, first-no, first_passes}
use Rattle.preservation.proofs.Sums.{sum, ind, sum_same, sum_first}

-- ---- first: k numbers are left

first-none-from : (p : ℕ → Bool) (k i n : ℕ) → n - i ≡ k → i ≤ n → n ≤ first p i n → (j : ℕ) → i ≤ j → j < n → p j ≡ false
first-none-from p zero i n e w h j a b = absurd (out e a b)
  where
    out : n - i ≡ 0 → i ≤ j → j < n → ⊥
    out e a b = omega arith
first-none-from p (suc k) i n e w h j a b = by (p i) refl (eq-or-lt_of_le a) (λ l s. first-none-from p k (i + 1) n (omega arith) (omega arith) l j (omega arith) b)
  where
    inside : i < n
    inside = omega arith

    by : (t : Bool) → p i ≡ t → (i ≡ j) ⊎ (i < j) → (n ≤ first p (i + 1) n → i < j → p j ≡ false) → p j ≡ false
    by true q s rest = absurd (out (first-yes p i n refl inside q refl))
      where
        out : i ≡ first p i n → ⊥
        out r = omega (arith, inside, h)
    by false q (inl s) rest = rw (← s) q
    by false q (inr s) rest =
        let r : first p (i + 1) n ≡ first p i n = first-no p i n refl inside q refl in
        rest (omega (arith, h)) s

-- where nothing is found, nothing passes
pub first-none : (p : ℕ → Bool) (n : ℕ) → n ≤ first p 0 n → (j : ℕ) → j < n → p j ≡ false
first-none p n h j b = first-none-from p (n - 0) 0 n refl (omega arith) h j (omega arith) b

-- one number passes, and no other
pub first-is : (n : ℕ) (p : ℕ → Bool) (u : ℕ) → u < n → p u ≡ true → ((w : ℕ) → w < n → p w ≡ true → w ≡ u) → first p 0 n ≡ u
first-is n p u h e o = by (dec_lt (first p 0 n) n)
  where
    by : Dec (first p 0 n < n) → first p 0 n ≡ u
    by (yes l) = o (first p 0 n) l (first_passes p n l)
    by (no l) = absurd (true≢false (sym e ∙ first-none p n (omega arith) u h))

-- ---- any

any-at-from : (p : ℕ → Bool) (k i n : ℕ) → n - i ≡ k → any p i n ≡ false → (j : ℕ) → i ≤ j → j < n → p j ≡ false
any-at-from p zero i n e h j a b = absurd (out e a b)
  where
    out : n - i ≡ 0 → i ≤ j → j < n → ⊥
    out e a b = omega arith
any-at-from p (suc k) i n e h j a b = by (p i) refl (eq-or-lt_of_le a) (λ v s. any-at-from p k (i + 1) n (omega arith) v j (omega arith) b)
  where
    inside : i < n
    inside = omega arith

    by : (t : Bool) → p i ≡ t → (i ≡ j) ⊎ (i < j) → (any p (i + 1) n ≡ false → i < j → p j ≡ false) → p j ≡ false
    by true q s rest = absurd (true≢false (any-yes p i n h inside q refl))
    by false q (inl s) rest = rw (← s) q
    by false q (inr s) rest = rest (any-no p i n h inside q refl) s

-- where the scan finds none, none passes
pub any_none : (p : ℕ → Bool) (n : ℕ) → any p 0 n ≡ false → (j : ℕ) → j < n → p j ≡ false
any_none p n h j b = any-at-from p (n - 0) 0 n refl h j (omega arith) b

-- a number below n that passes
pub record Found (p : ℕ → Bool) (n : ℕ) : Type 0 where
  pub at : ℕ
  pub small : at < n
  pub passes : p at ≡ true

any-found-from : (p : ℕ → Bool) (k i n : ℕ) → n - i ≡ k → any p i n ≡ true → Found p n
any-found-from p zero i n e h = absurd (false≢true (any-done p i n refl (omega arith) ∙ h))
any-found-from p (suc k) i n e h = by (p i) refl (any-found-from p k (i + 1) n (omega arith))
  where
    inside : i < n
    inside = omega arith

    by : (t : Bool) → p i ≡ t → (any p (i + 1) n ≡ true → Found p n) → Found p n
    by true q rest = record { at = i; small = inside; passes = q }
    by false q rest = rest (any-no p i n h inside q refl)

pub any_found : (p : ℕ → Bool) (n : ℕ) → any p 0 n ≡ true → Found p n
any_found p n h = any-found-from p (n - 0) 0 n refl h

pub any-passes : (p : ℕ → Bool) (n j : ℕ) → j < n → p j ≡ true → any p 0 n ≡ true
any-passes p n j h e = by (any p 0 n) refl
  where
    by : (t : Bool) → any p 0 n ≡ t → any p 0 n ≡ true
    by true q = q
    by false q = absurd (true≢false (sym e ∙ any_none p n q j h))

-- ---- totals and counts

total-from : (f : ℕ → ℕ) (k i : ℕ) → total f i (i + k) ≡ sum k (λ j. f (i + j))
total-from f zero i = let a : 0 ≡ 0 + total f i (i + 0) = total-done (λ _. true) i (i + 0) f 0 refl (omega arith) in let b : sum 0 (λ j. f (i + j)) ≡ 0 = unfold sum in refl in omega arith
total-from f (suc k) i =
    let a : 0 + f i + total f (i + 1) (i + suc k) ≡ 0 + total f i (i + suc k) = total-next (λ _. true) i (i + suc k) f 0 refl (omega arith) refl in
    let b : total f (i + 1) (i + 1 + k) ≡ sum k (λ j. f (i + 1 + j)) = total-from f k (i + 1) in
    let c : i + 1 + k ≡ i + suc k = omega arith in
    let d : sum (suc k) (λ j. f (i + j)) ≡ f (i + 0) + sum k (λ j. f (i + suc j)) = sum_first k (λ j. f (i + j)) in
    let e : sum k (λ j. f (i + 1 + j)) ≡ sum k (λ j. f (i + suc j)) = sum_same k (λ j. f (i + suc j)) (λ j. f (i + 1 + j)) (λ j _. ap f (shift j)) in
    let g : f (i + 0) ≡ f i = ap f (let z : i + 0 ≡ i = omega arith in z) in
    let h : total f (i + 1) (i + suc k) ≡ sum k (λ j. f (i + 1 + j)) = rw c at b in
    omega arith
  where
    shift : (j : ℕ) → i + 1 + j ≡ i + suc j
    shift j = omega arith

pub total-sum : (f : ℕ → ℕ) (n : ℕ) → total f 0 n ≡ sum n f
total-sum f n =
    let e : 0 + n ≡ n = omega arith in
    rw e at (total-from f n 0) ∙ sum_same n f (λ j. f (0 + j)) (λ j _. ap f (zero_left j))
  where
    zero_left : (j : ℕ) → 0 + j ≡ j
    zero_left j = omega arith

count-total : (p : ℕ → Bool) (k i n : ℕ) → n - i ≡ k → count p i n ≡ total (λ j. ind (p j)) i n
count-total p zero i n e =
    let a : 0 ≡ 0 + count p i n = count-done p i n 0 refl (omega arith) in
    let b : 0 ≡ 0 + total (λ j. ind (p j)) i n = total-done p i n (λ j. ind (p j)) 0 refl (omega arith) in
    omega arith
count-total p (suc k) i n e = by (p i) refl (count-total p k (i + 1) n (omega arith))
  where
    inside : i < n
    inside = omega arith

    by : (t : Bool) → p i ≡ t → count p (i + 1) n ≡ total (λ j. ind (p j)) (i + 1) n → count p i n ≡ total (λ j. ind (p j)) i n
    by true q r =
        let a : 0 + 1 + count p (i + 1) n ≡ 0 + count p i n = count_yes p i n 0 refl inside q refl in
        let b : 0 + ind (p i) + total (λ j. ind (p j)) (i + 1) n ≡ 0 + total (λ j. ind (p j)) i n = total-next p i n (λ j. ind (p j)) 0 refl inside refl in
        let c : ind (p i) ≡ 1 = rw q in
        omega arith
    by false q r =
        let a : 0 + count p (i + 1) n ≡ 0 + count p i n = count_no p i n 0 refl inside q refl in
        let b : 0 + ind (p i) + total (λ j. ind (p j)) (i + 1) n ≡ 0 + total (λ j. ind (p j)) i n = total-next p i n (λ j. ind (p j)) 0 refl inside refl in
        let c : ind (p i) ≡ 0 = rw q in
        omega arith

pub count-sum : (p : ℕ → Bool) (n : ℕ) → count p 0 n ≡ sum n (λ j. ind (p j))
count-sum p n = count-total p (n - 0) 0 n refl ∙ total-sum (λ j. ind (p j)) n
