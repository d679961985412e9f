-- What a pass leaves at s is what the rules count: the links of slot s, its parent, the holders of an open file.
use mathlib.Core.Path.{◌≡◌, refl, ◌∙◌, sym}
use mathlib.Core.Bool.{Bool, true, false, cond}
use mathlib.Core.List.{List}
use Prim.Native.Nat.{ℕ, zero, suc, ◌+◌, ◌-◌, ◌*◌, ◌^◌, ◌≤◌, ◌<◌}
use native.Mathlib.Nat.{mod-eq_of_lt}
use native.Mathlib.Omega.{arith}
use borrow.Author.Tests.{eqb-true, eqb-false, ne_eqb}
use lib.Dec.{eqb}
use lib.ListN.{length, get_or, set, length-set}
use lib.Seq.{get_or-set_same, get_or-set_other}
use Rattle.rules.specs.Scan.{fold, count, total, first}
use Rattle.rules.specs.Layout.{DIRENTS}
use Rattle.rules.specs.Store.{up}
use Rattle.rules.proofs.Scans.{count_yes, count_no, count-done, total-next, total-done, first-most}
use Rattle.counts.specs.Counts.{counted}
use Rattle.rules.proofs.Scans.{fold_step, fold_done}

-- a counter below its largest value goes up by one
up_one : (n : ℕ) → n + 1 < 2 ^ 32 → up n ≡ n + 1
unfolding up
up_one n h = mod-eq_of_lt h

-- ---- bounds

count-le-from : (p : ℕ → Bool) (k i n : ℕ) → n - i ≡ k → count p i n ≤ n - i
count-le-from p zero i n e =
    let h : n ≤ i = omega arith in
    let c : 0 ≡ 0 + count p i n = count-done p i n 0 refl h in
    omega arith
count-le-from p (suc k) i n e = by (p i) refl (count-le-from p k (i + 1) n (omega arith))
  where
    inside : i < n
    inside = omega arith

    by : (b : Bool) → p i ≡ b → count p (i + 1) n ≤ n - (i + 1) → count p i n ≤ n - i
    by true q rest = let c : 0 + 1 + count p (i + 1) n ≡ 0 + count p i n = count_yes p i n 0 refl inside q refl in omega arith
    by false q rest = let c : 0 + count p (i + 1) n ≡ 0 + count p i n = count_no p i n 0 refl inside q refl in omega arith

pub count-le : (p : ℕ → Bool) (i n : ℕ) → count p i n ≤ n - i
count-le p i n = count-le-from p (n - i) i n refl

total-le-from : (h : ℕ → ℕ) → ((i : ℕ) → h i ≤ DIRENTS) → (k i n : ℕ) → n - i ≡ k → total h i n ≤ DIRENTS * (n - i)
total-le-from h small zero i n e =
    let a : n ≤ i = omega arith in
    let c : 0 ≡ 0 + total h i n = total-done (λ j. true) i n h 0 refl a in
    omega arith
total-le-from h small (suc k) i n e =
    let inside : i < n = omega arith in
    let c : 0 + h i + total h (i + 1) n ≡ 0 + total h i n = total-next (λ j. true) i n h 0 refl inside refl in
    let rest : total h (i + 1) n ≤ DIRENTS * (n - (i + 1)) = total-le-from h small k (i + 1) n (omega arith) in
    let b : h i ≤ DIRENTS = small i in
    omega arith

pub first-le : (p : ℕ → Bool) (n : ℕ) → first p 0 n ≤ n
first-le p n = first-most p (n - 0) 0 n refl (omega arith)

-- ---- passes

-- a pass of steps that keep the length keeps it
module _ (f : ℕ → List ℕ → List ℕ) (keeps : (i : ℕ) (L : List ℕ) → length (f i L) ≡ length L) where
  length_from : (k i n : ℕ) → n - i ≡ k → (L : List ℕ) → length (fold f i n L) ≡ length L
  length_from zero i n e L = let h : n ≤ i = omega arith in rw (fold_done f i n L h)
  length_from (suc k) i n e L =
      let h : i < n = omega arith in
      rw (fold_step f i n L h, keeps) (length_from k (i + 1) n (omega arith) L)

  pub length-fold : (i n : ℕ) (L : List ℕ) → length (fold f i n L) ≡ length L
  length-fold i n L = length_from (n - i) i n refl L

-- one more at k, seen at s
pub counted-keeps : (k : ℕ) (L : List ℕ) → length (counted k L) ≡ length L
unfolding counted
counted-keeps k L = by (eqb k 0)
  where
    by : (b : Bool) → length (cond b L (set L k (up (get_or L k 0)))) ≡ length L
    by true = refl
    by false = length-set L k (up (get_or L k 0))

counted-at : (L : List ℕ) (k s : ℕ) → (s ≡ 0 → ⊥) → s < length L → k ≡ s → get_or (counted k L) s 0 ≡ up (get_or L s 0)
unfolding counted
counted-at L k s o h e = rw (e, ne_eqb s 0 o) (get_or-set_same L s (up (get_or L s 0)) 0 h)

counted-other : (L : List ℕ) (k s : ℕ) → (k ≡ s → ⊥) → get_or (counted k L) s 0 ≡ get_or L s 0
unfolding counted
counted-other L k s h = by (eqb k 0)
  where
    by : (b : Bool) → get_or (cond b L (set L k (up (get_or L k 0)))) s 0 ≡ get_or L s 0
    by true = refl
    by false = get_or-set_other L k s (up (get_or L k 0)) 0 (λ e. h (sym e))

-- each step counts its key: at s are as many more as keys are s
module _ (f : ℕ → List ℕ → List ℕ) (key : ℕ → ℕ) (does : (i : ℕ) (L : List ℕ) → f i L ≡ counted (key i) L) (p : ℕ → Bool) (s : ℕ) (some : s ≡ 0 → ⊥) (tells : (i : ℕ) → p i ≡ eqb (key i) s) where
  keeps : (i : ℕ) (L : List ℕ) → length (f i L) ≡ length L
  keeps i L = rw (does i L) (counted-keeps (key i) L)

  counts-from : (k i n : ℕ) → n - i ≡ k → (L : List ℕ) → s < length L → get_or L s 0 + (n - i) < 2 ^ 32 → get_or (fold f i n L) s 0 ≡ count p i n + get_or L s 0
  counts-from zero i n e L h b =
      let a : n ≤ i = omega arith in
      let c : 0 ≡ 0 + count p i n = count-done p i n 0 refl a in
      let d : count p i n ≡ 0 = omega arith in
      rw (fold_done f i n L a, d) (omega arith)
  counts-from (suc k) i n e L h b = rw (fold_step f i n L inside, does) (by (eqb (key i) s) refl (counts-from k (i + 1) n (omega arith) L h (omega arith)) (count-le p (i + 1) n))
    where
      inside : i < n
      inside = omega arith

      M : List ℕ
      M = fold f (i + 1) n L

      long : s < length M
      long = rw (length-fold f keeps (i + 1) n L) h

      by : (t : Bool) → eqb (key i) s ≡ t → get_or M s 0 ≡ count p (i + 1) n + get_or L s 0 → count p (i + 1) n ≤ n - (i + 1) → get_or (counted (key i) M) s 0 ≡ count p i n + get_or L s 0
      by true q ih le =
          let c : 0 + 1 + count p (i + 1) n ≡ 0 + count p i n = count_yes p i n 0 refl inside (tells i ∙ q) refl in
          let u : up (get_or M s 0) ≡ get_or M s 0 + 1 = up_one (get_or M s 0) (omega arith) in
          let a : get_or (counted (key i) M) s 0 ≡ up (get_or M s 0) = counted-at M (key i) s some long (eqb-true (key i) s q) in
          omega arith
      by false q ih le =
          let c : 0 + count p (i + 1) n ≡ 0 + count p i n = count_no p i n 0 refl inside (tells i ∙ q) refl in
          let a : get_or (counted (key i) M) s 0 ≡ get_or M s 0 = counted-other M (key i) s (eqb-false (key i) s q) in
          omega arith

  pub counts-keep : (i n : ℕ) (L : List ℕ) → length (fold f i n L) ≡ length L
  counts-keep = length-fold f keeps

  pub counts : (n : ℕ) (L : List ℕ) → s < length L → get_or L s 0 + n < 2 ^ 32 → get_or (fold f 0 n L) s 0 ≡ count p 0 n + get_or L s 0
  counts n L h b = counts-from (n - 0) 0 n refl L h (omega arith)

-- each step adds h i at s, at most as many as a directory has entries
module _ (g : ℕ → List ℕ → List ℕ) (h : ℕ → ℕ) (s : ℕ) (keeps : (i : ℕ) (L : List ℕ) → length (g i L) ≡ length L)
    (adds : (i : ℕ) (L : List ℕ) → s < length L → get_or L s 0 + DIRENTS < 2 ^ 32 → get_or (g i L) s 0 ≡ h i + get_or L s 0) (small : (i : ℕ) → h i ≤ DIRENTS) where
  totals-from : (k i n : ℕ) → n - i ≡ k → (L : List ℕ) → s < length L → get_or L s 0 + DIRENTS * (n - i) < 2 ^ 32 → get_or (fold g i n L) s 0 ≡ total h i n + get_or L s 0
  totals-from zero i n e L a b =
      let o : n ≤ i = omega arith in
      let c : 0 ≡ 0 + total h i n = total-done (λ j. true) i n h 0 refl o in
      let d : total h i n ≡ 0 = omega arith in
      rw (fold_done g i n L o, d) (omega arith)
  totals-from (suc k) i n e L a b =
      let inside : i < n = omega arith in
      let ih : get_or (fold g (i + 1) n L) s 0 ≡ total h (i + 1) n + get_or L s 0 = totals-from k (i + 1) n (omega arith) L a (omega arith) in
      let le : total h (i + 1) n ≤ DIRENTS * (n - (i + 1)) = total-le-from h small (n - (i + 1)) (i + 1) n refl in
      let long : s < length (fold g (i + 1) n L) = rw (length-fold g keeps (i + 1) n L) a in
      let c : 0 + h i + total h (i + 1) n ≡ 0 + total h i n = total-next (λ j. true) i n h 0 refl inside refl in
      let one : get_or (g i (fold g (i + 1) n L)) s 0 ≡ h i + get_or (fold g (i + 1) n L) s 0 = adds i (fold g (i + 1) n L) long (omega arith) in
      rw (fold_step g i n L inside) (omega arith)

  pub totals : (n : ℕ) (L : List ℕ) → s < length L → get_or L s 0 + DIRENTS * n < 2 ^ 32 → get_or (fold g 0 n L) s 0 ≡ total h 0 n + get_or L s 0
  totals n L a b = totals-from (n - 0) 0 n refl L a (omega arith)
