-- Sums and counts over the numbers below n.
use mathlib.Core.Path.{◌≡◌, refl, sym, ap, ap₂}
use mathlib.Core.Bool.{Bool, true, false, false≢true}
use Prim.Native.Nat.{ℕ, zero, suc, ◌+◌, ◌*◌, ◌≤◌, ◌<◌}
use native.Mathlib.Nat.{not-suc-le-zero, mul-suc}
use native.Mathlib.Omega.{arith}
use native.Mathlib.Decide.{dec_lt, ℕ_discrete}

unfoldable pub sum : ℕ → (ℕ → ℕ) → ℕ
sum zero f = 0
sum (suc n) f = sum n f + f n

abbrev pub ind : Bool → ℕ
ind true = 1
ind false = 0

-- how many numbers below n pass
abbrev pub count : ℕ → (ℕ → Bool) → ℕ
count n p = sum n (λ i. ind (p i))

-- the first summand apart
pub sum_first : (n : ℕ) (f : ℕ → ℕ) → sum (suc n) f ≡ f 0 + sum n (λ j. f (suc j))
unfolding sum
sum_first zero f = omega arith
sum_first (suc n) f = let a : sum (suc n) f ≡ f 0 + sum n (λ j. f (suc j)) = sum_first n f in omega arith

-- a bound of each summand
pub sum-most : (n b : ℕ) (f : ℕ → ℕ) → ((i : ℕ) → f i ≤ b) → sum n f ≤ b * n
unfolding sum
sum-most zero b f h = omega arith
sum-most (suc n) b f h = let a : sum n f ≤ b * n = sum-most n b f h in let c : f n ≤ b = h n in let d : b * suc n ≡ b * n + b = mul-suc b n in omega arith

pub sum_same : (n : ℕ) (f g : ℕ → ℕ) → ((i : ℕ) → i < n → g i ≡ f i) → sum n g ≡ sum n f
unfolding sum
sum_same zero f g h = refl
sum_same (suc n) f g h = ap₂ (λ (x y : ℕ). x + y) (sum_same n f g (λ i l. h i (omega arith))) (h n (omega arith))

-- f and g differ at j only
pub sum-change : (n : ℕ) (f g : ℕ → ℕ) (j : ℕ) → j < n → ((i : ℕ) → i < n → (i ≡ j → ⊥) → g i ≡ f i) → sum n g + f j ≡ sum n f + g j
unfolding sum
sum-change zero f g j l h = absurd (not-suc-le-zero l)
sum-change (suc n) f g j l h = go (ℕ_discrete j n) (λ k. sum-change n f g j k (λ i a. h i (omega arith)))
  where
    go : Dec (j ≡ n) → (j < n → sum n g + f j ≡ sum n f + g j) → sum n g + g n + f j ≡ sum n f + f n + g j
    go (yes e) ih =
        let s : sum n g ≡ sum n f = sum_same n f g (λ i a. h i (omega arith) (λ q. omega arith)) in
        let fe : f j ≡ f n = ap f e in
        let ge : g j ≡ g n = ap g e in
        omega arith
    go (no ne) ih =
        let k : j < n = omega arith in
        let s : sum n g + f j ≡ sum n f + g j = ih k in
        let e : g n ≡ f n = h n (omega arith) (λ q. ne (sym q)) in
        omega arith

pub sum-at : (n : ℕ) (f : ℕ → ℕ) (j : ℕ) → j < n → f j ≤ sum n f
unfolding sum
sum-at zero f j l = absurd (not-suc-le-zero l)
sum-at (suc n) f j l = go (ℕ_discrete j n) (λ k. sum-at n f j k)
  where
    go : Dec (j ≡ n) → (j < n → f j ≤ sum n f) → f j ≤ sum n f + f n
    go (yes e) ih = let fe : f j ≡ f n = ap f e in omega arith
    go (no ne) ih = let k : f j ≤ sum n f = ih (omega arith) in omega arith

-- two summands that are not the same one
pub sum-two : (n : ℕ) (f : ℕ → ℕ) (i j : ℕ) → i < n → j < n → (i ≡ j → ⊥) → f i + f j ≤ sum n f
unfolding sum
sum-two zero f i j l m ne = absurd (not-suc-le-zero l)
sum-two (suc n) f i j l m ne = go (ℕ_discrete i n) (ℕ_discrete j n) (λ a b. sum-two n f i j a b ne)
  where
    go : Dec (i ≡ n) → Dec (j ≡ n) → (i < n → j < n → f i + f j ≤ sum n f) → f i + f j ≤ sum n f + f n
    go (yes e) (yes d) ih = absurd (ne (omega arith))
    go (yes e) (no d) ih = let q : f i ≡ f n = ap f e in omega (arith, sum-at n f j (omega arith))
    go (no e) (yes d) ih = let q : f j ≡ f n = ap f d in omega (arith, sum-at n f i (omega arith))
    go (no e) (no d) ih = let q : f i + f j ≤ sum n f = ih (omega arith) (omega arith) in omega arith

pub sum-none : (n : ℕ) (f : ℕ → ℕ) → ((i : ℕ) → i < n → f i ≡ 0) → sum n f ≡ 0
unfolding sum
sum-none zero f h = refl
sum-none (suc n) f h = let a : sum n f ≡ 0 = sum-none n f (λ i l. h i (omega arith)) in let b : f n ≡ 0 = h n (omega arith) in omega arith

-- a sum that is not 0 has a summand that is not
pub record Some (n : ℕ) (f : ℕ → ℕ) : Type 0 where
  pub at : ℕ
  pub small : at < n
  pub more : 0 < f at

pub sum-some : (n : ℕ) (f : ℕ → ℕ) → 0 < sum n f → Some n f
unfolding sum
sum-some zero f h = absurd (not-suc-le-zero h)
sum-some (suc n) f h = go (dec_lt 0 (f n)) (λ k. sum-some n f k)
  where
    go : Dec (0 < f n) → (0 < sum n f → Some n f) → Some (suc n) f
    go (yes a) ih = record { at = n; small = omega arith; more = a }
    go (no a) ih = let s : Some n f = ih (omega arith) in record { at = s.at; small = omega arith; more = s.more }

-- ---- over two numbers

abbrev pub sum2 : ℕ → ℕ → (ℕ → ℕ → ℕ) → ℕ
sum2 n k f = sum n (λ i. sum k (f i))

abbrev pub count2 : ℕ → ℕ → (ℕ → ℕ → Bool) → ℕ
count2 n k p = sum2 n k (λ i j. ind (p i j))

pub sum2-same : (n k : ℕ) (f g : ℕ → ℕ → ℕ) → ((i j : ℕ) → i < n → j < k → g i j ≡ f i j) → sum2 n k g ≡ sum2 n k f
sum2-same n k f g h = sum_same n (λ i. sum k (f i)) (λ i. sum k (g i)) (λ i l. sum_same k (f i) (g i) (λ j m. h i j l m))

pub sum2-change : (n k : ℕ) (f g : ℕ → ℕ → ℕ) (a b : ℕ) → a < n → b < k →
    ((i j : ℕ) → i < n → j < k → (i ≡ a → j ≡ b → ⊥) → g i j ≡ f i j) → sum2 n k g + f a b ≡ sum2 n k f + g a b
sum2-change n k f g a b l m h =
    let inner : sum k (g a) + f a b ≡ sum k (f a) + g a b = sum-change k (f a) (g a) b m (λ j q ne. h a j l q (λ _ e. ne e)) in
    let outer : sum2 n k g + sum k (f a) ≡ sum2 n k f + sum k (g a) = sum-change n (λ i. sum k (f i)) (λ i. sum k (g i)) a l (λ i q ne. sum_same k (f i) (g i) (λ j r. h i j q r (λ e _. ne e))) in
    omega arith

pub sum2-at : (n k : ℕ) (f : ℕ → ℕ → ℕ) (a b : ℕ) → a < n → b < k → f a b ≤ sum2 n k f
sum2-at n k f a b l m = omega (arith, sum-at n (λ i. sum k (f i)) a l, sum-at k (f a) b m)

-- two summands of different rows
pub sum2-rows : (n k : ℕ) (f : ℕ → ℕ → ℕ) (a b c d : ℕ) → a < n → b < k → c < n → d < k → (a ≡ c → ⊥) → f a b + f c d ≤ sum2 n k f
sum2-rows n k f a b c d la lb lc ld ne = omega (arith, sum-two n (λ i. sum k (f i)) a c la lc ne, sum-at k (f a) b lb, sum-at k (f c) d ld)

pub record Some2 (n k : ℕ) (f : ℕ → ℕ → ℕ) : Type 0 where
  pub row : ℕ
  pub column : ℕ
  pub row_small : row < n
  pub column-small : column < k
  pub more : 0 < f row column

pub sum2-some : (n k : ℕ) (f : ℕ → ℕ → ℕ) → 0 < sum2 n k f → Some2 n k f
sum2-some n k f h =
    let a : Some n (λ i. sum k (f i)) = sum-some n (λ i. sum k (f i)) h in
    let b : Some k (f a.at) = sum-some k (f a.at) a.more in
    record { row = a.at; column = b.at; row_small = a.small; column-small = b.small; more = b.more }

-- ---- indicators

pub ind-true : (b : Bool) → b ≡ true → ind b ≡ 1
ind-true true e = refl
ind-true false e = absurd (false≢true e)

pub ind-more : (b : Bool) → 0 < ind b → b ≡ true
ind-more true h = refl
ind-more false h = absurd (omega arith)
