-- Laws of the scans. A loop whose counter goes from i up to n keeps the scan from its counter on equal to the scan from its start on: each law
-- takes that invariant, the loop's test and what a tested flag equals, and gives the next turn or what is returned.
use mathlib.Core.Path.{◌≡◌, refl, ◌∙◌, sym, subst}
use mathlib.Core.Bool.{Bool, true, false, false≢true, cond}
use mathlib.Core.Logic.{◌⊎◌, inl, inr}
use Prim.Native.Nat.{ℕ, zero, suc, ◌+◌, ◌-◌, ◌≤◌, ◌<◌}
use native.Mathlib.Nat.{eq-or-lt_of_le}
use native.Mathlib.Numerals.{add-one}
use native.Mathlib.Omega.{arith}
use borrow.Author.Tests.{lt-ltb, le-ltb}
use lib.Dec.{ltb}
use Rattle.rules.specs.Scan.{turns, fold, all, any, count, total, first, iterate, repeat}

pub fold_step : {A : Type 0} (f : ℕ → A → A) (i n : ℕ) (z : A) → i < n → fold f i n z ≡ f i (fold f (i + 1) n z)
unfolding fold turns
fold_step f i n z h =
    let e : n - i ≡ suc (n - (i + 1)) = omega arith in
    rw e (rw add-one refl)

pub fold_done : {A : Type 0} (f : ℕ → A → A) (i n : ℕ) (z : A) → n ≤ i → fold f i n z ≡ z
unfolding fold turns
fold_done f i n z h =
    let e : n - i ≡ 0 = omega arith in
    rw e refl

-- The loop has its invariant, `all p i n ≡ z`, where z is the scan from its start on. Each law takes it and gives the next, or what is returned.
module _ (p : ℕ → Bool) (i n : ℕ) where
  pub all_yes : {z : Bool} → all p i n ≡ z → i < n → {b : Bool} → b ≡ true → b ≡ p i → all p (i + 1) n ≡ z
  unfolding all
  all_yes v h e q = rw (sym q ∙ e) at (sym (fold_step (λ j rest. cond (p j) rest false) i n true h)) ∙ v

  pub all-no : {z : Bool} → all p i n ≡ z → i < n → {b : Bool} → b ≡ false → b ≡ p i → false ≡ z
  unfolding all
  all-no v h e q = rw (sym q ∙ e) at (sym (fold_step (λ j rest. cond (p j) rest false) i n true h)) ∙ v

  pub all_done : {z : Bool} → all p i n ≡ z → n ≤ i → true ≡ z
  unfolding all
  all_done v h = sym (fold_done (λ j rest. cond (p j) rest false) i n true h) ∙ v

  pub any-yes : {z : Bool} → any p i n ≡ z → i < n → {b : Bool} → b ≡ true → b ≡ p i → true ≡ z
  unfolding any
  any-yes v h e q = rw (sym q ∙ e) at (sym (fold_step (λ j rest. cond (p j) true rest) i n false h)) ∙ v

  pub any-no : {z : Bool} → any p i n ≡ z → i < n → {b : Bool} → b ≡ false → b ≡ p i → any p (i + 1) n ≡ z
  unfolding any
  any-no v h e q = rw (sym q ∙ e) at (sym (fold_step (λ j rest. cond (p j) true rest) i n false h)) ∙ v

  pub any-done : {z : Bool} → any p i n ≡ z → n ≤ i → false ≡ z
  unfolding any
  any-done v h = sym (fold_done (λ j rest. cond (p j) true rest) i n false h) ∙ v

  -- k of those before i
  pub count_yes : (k : ℕ) {z : ℕ} → k + count p i n ≡ z → i < n → {b : Bool} → b ≡ true → b ≡ p i → k + 1 + count p (i + 1) n ≡ z
  unfolding count
  count_yes k v h e q =
      let s : count p i n ≡ 1 + count p (i + 1) n = rw (sym q ∙ e) at (fold_step (λ j rest. cond (p j) (1 + rest) rest) i n 0 h) in
      omega arith

  pub count_no : (k : ℕ) {z : ℕ} → k + count p i n ≡ z → i < n → {b : Bool} → b ≡ false → b ≡ p i → k + count p (i + 1) n ≡ z
  unfolding count
  count_no k v h e q =
      let s : count p i n ≡ count p (i + 1) n = rw (sym q ∙ e) at (fold_step (λ j rest. cond (p j) (1 + rest) rest) i n 0 h) in
      omega arith

  pub count-done : (k : ℕ) {z : ℕ} → k + count p i n ≡ z → n ≤ i → k ≡ z
  unfolding count
  count-done k v h =
      let s : count p i n ≡ 0 = fold_done (λ j rest. cond (p j) (1 + rest) rest) i n 0 h in
      omega arith

  pub total-next : (f : ℕ → ℕ) (k : ℕ) {z : ℕ} → k + total f i n ≡ z → i < n → {r : ℕ} → r ≡ f i → k + r + total f (i + 1) n ≡ z
  unfolding total
  total-next f k v h q =
      let s : total f i n ≡ f i + total f (i + 1) n = fold_step (λ j rest. f j + rest) i n 0 h in
      omega arith

  pub total-done : (f : ℕ → ℕ) (k : ℕ) {z : ℕ} → k + total f i n ≡ z → n ≤ i → k ≡ z
  unfolding total
  total-done f k v h =
      let s : total f i n ≡ 0 = fold_done (λ j rest. f j + rest) i n 0 h in
      omega arith

  pub first-yes : {z : ℕ} → first p i n ≡ z → i < n → {b : Bool} → b ≡ true → b ≡ p i → i ≡ z
  unfolding first
  first-yes v h e q = rw (sym q ∙ e) at (sym (fold_step (λ j rest. cond (p j) j rest) i n n h)) ∙ v

  pub first-no : {z : ℕ} → first p i n ≡ z → i < n → {b : Bool} → b ≡ false → b ≡ p i → first p (i + 1) n ≡ z
  unfolding first
  first-no v h e q = rw (sym q ∙ e) at (sym (fold_step (λ j rest. cond (p j) j rest) i n n h)) ∙ v

  pub first_done : {z : ℕ} → first p i n ≡ z → n ≤ i → n ≡ z
  unfolding first
  first_done v h = sym (fold_done (λ j rest. cond (p j) j rest) i n n h) ∙ v

module _ {S : Type 0} (f : ℕ → S → S) (i n : ℕ) (s : S) where
  repeat-one : i < n → repeat f i n s ≡ repeat f (i + 1) n (f i s)
  unfolding repeat iterate
  repeat-one h =
      let e : n - i ≡ suc (n - (i + 1)) = omega arith in
      rw (e, add-one) refl

  pub repeat-step : {z : S} → repeat f i n s ≡ z → i < n → repeat f (i + 1) n (f i s) ≡ z
  repeat-step v h = sym (repeat-one h) ∙ v

  pub repeat-done : {z : S} → repeat f i n s ≡ z → n ≤ i → s ≡ z
  unfolding repeat iterate
  repeat-done v h =
      let e : n - i ≡ 0 = omega arith in
      rw e at v

-- Two scans whose tests are the same find the same. k is how many numbers are left.
module _ (p q : ℕ → Bool) (n : ℕ) (same : (s : ℕ) → s < n → p s ≡ q s) where
  first-same-from : (k i : ℕ) → n - i ≡ k → first p i n ≡ first q i n
  first-same-from zero i e = sym (first_done p i n refl (omega arith)) ∙ first_done q i n refl (omega arith)
  first-same-from (suc k) i e = by (p i) refl (first-same-from k (i + 1) (omega arith))
    where
      inside : i < n
      inside = omega arith

      by : (t : Bool) → p i ≡ t → first p (i + 1) n ≡ first q (i + 1) n → first p i n ≡ first q i n
      by true r rest = sym (first-yes p i n refl inside r refl) ∙ first-yes q i n refl inside (sym (same i inside) ∙ r) refl
      by false r rest = sym (first-no p i n refl inside r refl) ∙ rest ∙ first-no q i n refl inside (sym (same i inside) ∙ r) refl

  pub first-same : first p 0 n ≡ first q 0 n
  first-same = first-same-from (n - 0) 0 refl

-- What a scan says of each number, and back. k is how many numbers are left.
all-at-from : (p : ℕ → Bool) (k i n : ℕ) → n - i ≡ k → all p i n ≡ true → (j : ℕ) → i ≤ j → j < n → p j ≡ true
all-at-from p zero i n e h j a b = absurd (out e a b)
  where
    out : n - i ≡ 0 → i ≤ j → j < n → ⊥
    out e a b = omega arith
all-at-from p (suc k) i n e h j a b = by (p i) refl (eq-or-lt_of_le a) (λ v s. all-at-from p k (i + 1) n (omega arith) v j (omega arith) b)
  where
    inside : i < n
    inside = omega arith

    by : (t : Bool) → p i ≡ t → (i ≡ j) ⊎ (i < j) → (all p (i + 1) n ≡ true → i < j → p j ≡ true) → p j ≡ true
    by false q s rest = absurd (false≢true (all-no p i n h inside q refl))
    by true q (inl s) rest = subst (λ (m : ℕ). p m ≡ true) s q
    by true q (inr s) rest = rest (all_yes p i n h inside q refl) s

pub all-at : (p : ℕ → Bool) (i n : ℕ) → all p i n ≡ true → (j : ℕ) → i ≤ j → j < n → p j ≡ true
all-at p i n h j a b = all-at-from p (n - i) i n refl h j a b

all-of-from : (p : ℕ → Bool) (k i n : ℕ) → n - i ≡ k → ((j : ℕ) → i ≤ j → j < n → p j ≡ true) → all p i n ≡ true
all-of-from p zero i n e h = sym (all_done p i n refl (omega arith))
all-of-from p (suc k) i n e h =
    let inside : i < n = omega arith in
    sym (all_yes p i n refl inside (h i (omega arith) inside) refl) ∙ all-of-from p k (i + 1) n (omega arith) (λ j a b. h j (omega arith) b)

pub all_of : (p : ℕ → Bool) (i n : ℕ) → ((j : ℕ) → i ≤ j → j < n → p j ≡ true) → all p i n ≡ true
all_of p i n h = all-of-from p (n - i) i n refl h

-- ---- what a scan finds, and scans that agree

first-passes-from : (p : ℕ → Bool) (k i n : ℕ) → n - i ≡ k → first p i n < n → p (first p i n) ≡ true
first-passes-from p zero i n e h = absurd (out (first_done p i n refl (omega arith)))
  where
    out : n ≡ first p i n → ⊥
    out q = omega (arith, h)
first-passes-from p (suc k) i n e h = by (p i) refl (λ l. first-passes-from p k (i + 1) n (omega arith) l)
  where
    inside : i < n
    inside = omega arith

    by : (t : Bool) → p i ≡ t → (first p (i + 1) n < n → p (first p (i + 1) n) ≡ true) → p (first p i n) ≡ true
    by true q rest = rw (← first-yes p i n refl inside q refl) q
    by false q rest =
        let r : first p (i + 1) n ≡ first p i n = first-no p i n refl inside q refl in
        rw r at (rest (omega (arith, h)))

-- what is found passes
pub first_passes : (p : ℕ → Bool) (n : ℕ) → first p 0 n < n → p (first p 0 n) ≡ true
first_passes p n h = first-passes-from p (n - 0) 0 n refl h

pub first-most : (p : ℕ → Bool) (k i n : ℕ) → n - i ≡ k → i ≤ n → first p i n ≤ n
first-most p zero i n e h = let d : n ≡ first p i n = first_done p i n refl (omega arith) in omega arith
first-most p (suc k) i n e h = go (p i) refl (first-most p k (i + 1) n (omega arith) (omega arith))
  where
    inside : i < n
    inside = omega arith

    go : (b : Bool) → p i ≡ b → first p (i + 1) n ≤ n → first p i n ≤ n
    go true q r = let d : i ≡ first p i n = first-yes p i n refl inside q refl in omega arith
    go false q r = let d : first p (i + 1) n ≡ first p i n = first-no p i n refl inside q refl in omega arith

all-same-from : (p q : ℕ → Bool) (k i n : ℕ) → n - i ≡ k → ((j : ℕ) → j < n → p j ≡ q j) → all p i n ≡ all q i n
all-same-from p q zero i n e h =
    let a : n ≤ i = omega arith in
    sym (all_done p i n refl a) ∙ all_done q i n refl a
all-same-from p q (suc k) i n e h = by (q i) refl (all-same-from p q k (i + 1) n (omega arith) h)
  where
    inside : i < n
    inside = omega arith

    by : (b : Bool) → q i ≡ b → all p (i + 1) n ≡ all q (i + 1) n → all p i n ≡ all q i n
    by true c rest = sym (all_yes p i n refl inside (h i inside ∙ c) refl) ∙ rest ∙ all_yes q i n refl inside c refl
    by false c rest = sym (all-no p i n refl inside (h i inside ∙ c) refl) ∙ all-no q i n refl inside c refl

-- two tests that agree on each number agree on all
pub all_same : (p q : ℕ → Bool) (n : ℕ) → ((j : ℕ) → j < n → p j ≡ q j) → all p 0 n ≡ all q 0 n
all_same p q n h = all-same-from p q (n - 0) 0 n refl h

-- ---- a scan over one more

-- what a scan over one more finds, where a scan has found m
abbrev pub more : (ℕ → Bool) → (n m : ℕ) → ℕ
more p n m = cond (ltb m n) m (cond (p n) n (n + 1))

first-here : (p : ℕ → Bool) (n : ℕ) → first p n (n + 1) ≡ cond (p n) n (n + 1)
first-here p n = by (p n) refl
  where
    by : (b : Bool) → p n ≡ b → first p n (n + 1) ≡ cond b n (n + 1)
    by true e = sym (first-yes p n (n + 1) refl (omega arith) e refl)
    by false e = sym (first-no p n (n + 1) refl (omega arith) e refl) ∙ sym (first_done p (n + 1) (n + 1) refl (omega arith))

first-more-from : (p : ℕ → Bool) (k i n : ℕ) → n - i ≡ k → i ≤ n → first p i (n + 1) ≡ more p n (first p i n)
first-more-from p zero i n e h =
    let q : i ≡ n = omega arith in
    let d : n ≡ first p i n = first_done p i n refl (omega arith) in
    rw (← d, le-ltb n n (omega arith), q) (first-here p n)
first-more-from p (suc k) i n e h = by (p i) refl (first-more-from p k (i + 1) n (omega arith) (omega arith))
  where
    inside : i < n
    inside = omega arith

    by : (b : Bool) → p i ≡ b → first p (i + 1) (n + 1) ≡ more p n (first p (i + 1) n) → first p i (n + 1) ≡ more p n (first p i n)
    by true q rest = rw (← first-yes p i n refl inside q refl, lt-ltb i n inside) (sym (first-yes p i (n + 1) refl (omega (arith, inside)) q refl))
    by false q rest = rw (← first-no p i n refl inside q refl, ← first-no p i (n + 1) refl (omega (arith, inside)) q refl) rest

pub first_more : (p : ℕ → Bool) (n : ℕ) → first p 0 (n + 1) ≡ more p n (first p 0 n)
first_more p n = first-more-from p (n - 0) 0 n refl (omega arith)
