-- Laws of what is written: `sets xs at vs` (lib.Seq) writes vs into xs from at on, and leaves out what would lie past the end; `zeros`, `padded`.
use mathlib.Core.Path.{◌≡◌, refl, ◌∙◌, ap, sym}
use mathlib.Core.List.{List, [], ◌∷◌, ◌++◌}
use Prim.Native.Nat.{ℕ, zero, suc, ◌+◌, ◌-◌, ◌≤◌, ◌<◌, ◌*◌}
use native.Mathlib.Nat.{not-suc-le-zero, le_of_suc-le-suc, add-zero, add-suc, suc-add}
use native.Mathlib.Numerals.{add-one, sub-one}
use native.Mathlib.Omega.{arith}
use lib.ListN.{length, get_or, set, take, drop, length-drop, length-replicate, drop_of_length-le}
use lib.Seq.{sets, set_out, drop-cons, drop-drop, get_or-drop}
use Rattle.rules.specs.Store.{zeros, puts}
use Rattle.rules.specs.Directories.{padded}

pub length-zeros : (n : ℕ) → length (zeros n) ≡ n
length-zeros n = length-replicate n 0

-- a row written word by word is a run of stores
pub puts-sets : (w : ℕ) (xs : List ℕ) (i k : ℕ) (vs : List ℕ) → puts w xs i k vs ≡ sets xs (w * i + k) vs
puts-sets w xs i k [] = refl
puts-sets w xs i k (v ∷ vs) = rw (puts-sets w (set xs (w * i + k) v) i (suc k) vs, add-suc)

pub sets-out : {A : Type 0} (vs xs : List A) (at : ℕ) → length xs ≤ at → sets xs at vs ≡ xs
sets-out [] xs at h = refl
sets-out (v ∷ vs) xs at h = rw (set_out xs at v h) (sets-out vs xs (suc at) (omega arith))

-- one turn of a copy: the value at i is stored, and the rest are those from i + 1 on; a copy that is done
pub sets-step : (xs vs : List ℕ) (at i : ℕ) → i < length vs → sets xs at (drop i vs) ≡ sets (set xs at (get_or vs i 0)) (at + 1) (drop (i + 1) vs)
sets-step xs vs at i h = rw (add-one, add-one, drop-cons vs i 0)

pub sets-done : (xs vs : List ℕ) (at i : ℕ) → length vs ≤ i → sets xs at (drop i vs) ≡ xs
sets-done xs vs at i h = rw (drop_of_length-le vs h)

-- one turn of zeroing; zeroing that is done
pub zeros-step : (xs : List ℕ) (at n : ℕ) → 0 < n → sets xs at (zeros n) ≡ sets (set xs at 0) (at + 1) (zeros (n - 1))
zeros-step xs at zero h = absurd (not-suc-le-zero h)
zeros-step xs at (suc n) h = simp (add-one, sub-one)

pub zeros-done : (xs : List ℕ) (at n : ℕ) → n ≤ 0 → sets xs at (zeros n) ≡ xs
zeros-done xs at zero h = refl
zeros-done xs at (suc n) h = absurd (not-suc-le-zero h)

pub padded-start : (X Y : List ℕ) (at n : ℕ) → sets X (at + 0) (padded (n - 0) (drop 0 Y)) ≡ sets X at (padded n Y)
padded-start X Y at n = let e : n - 0 ≡ n = omega arith in rw (add-zero, e)

-- one turn of writing n padded bytes of Y at `at`: k are written
pub padded-step : (X Y : List ℕ) (at k n : ℕ) {z : List ℕ} → sets X (at + k) (padded (n - k) (drop k Y)) ≡ z → k < n
    → sets (set X (at + k) (get_or Y k 0)) (at + (k + 1)) (padded (n - (k + 1)) (drop (k + 1) Y)) ≡ z
unfolding padded
padded-step X Y at k n v h =
    let e : n - k ≡ suc (n - (k + 1)) = omega arith in
    let a : at + (k + 1) ≡ suc (at + k) = omega arith in
    rw a (rw (e, get_or-drop, add-zero, drop-drop) at v)

pub padded-done : (X Y : List ℕ) (at k n : ℕ) {z : List ℕ} → sets X (at + k) (padded (n - k) (drop k Y)) ≡ z → n ≤ k → X ≡ z
unfolding padded
padded-done X Y at k n v h =
    let e : n - k ≡ 0 = omega arith in
    rw e at v

pub sets-append : (xs ys X : List ℕ) (at : ℕ) → sets X at (xs ++ ys) ≡ sets (sets X at xs) (at + length xs) ys
sets-append [] ys X at = rw add-zero
sets-append (x ∷ xs) ys X at = rw (add-suc, ← suc-add) (sets-append xs ys (set X at x) (suc at))

pub length-padded : (n : ℕ) (Y : List ℕ) → length (padded n Y) ≡ n
unfolding padded
length-padded zero Y = refl
length-padded (suc n) Y = rw (length-padded n (drop 1 Y))

pub padded-at : (n : ℕ) (l : List ℕ) (k : ℕ) → k < n → get_or (padded n l) k 0 ≡ get_or l k 0
unfolding padded
padded-at zero l k h = absurd (not-suc-le-zero h)
padded-at (suc n) l zero h = refl
padded-at (suc n) l (suc k) h =
    let e : 1 + k ≡ suc k = omega arith in
    padded-at n (drop 1 l) k (omega arith) ∙ get_or-drop 1 l k 0 ∙ ap (λ (j : ℕ). get_or l j 0) e

-- n padded bytes, and two more
pub padded-two : (X Y : List ℕ) (at n a b : ℕ) → set (set (sets X at (padded n Y)) (at + n) a) (at + (n + 1)) b ≡ sets X at (padded n Y ++ (a ∷ b ∷ []))
padded-two X Y at n a b = rw (sets-append, length-padded, add-one, add-suc)

-- ---- parts of a slice, as `take` and `drop` of its list

pub take_all : {A : Type 0} (l : List A) (n : ℕ) → length l ≤ n → take n l ≡ l
take_all [] zero h = refl
take_all [] (suc n) h = refl
take_all (x ∷ xs) zero h = absurd (not-suc-le-zero h)
take_all (x ∷ xs) (suc n) h = rw (take_all xs n (le_of_suc-le-suc h))

pub rest_of : (l : List ℕ) (n : ℕ) → take (length l - n) (drop n l) ≡ drop n l
rest_of l n = take_all (drop n l) (length l - n) (omega (arith, length-drop n l))

pub none-past : (l : List ℕ) (n : ℕ) → length l ≤ n → [] ≡ drop n l
none-past l n h = sym (drop_of_length-le l h)

pub upto-of : (l : List ℕ) (n : ℕ) → take (n - 0) l ≡ take n l
upto-of l n = let e : n - 0 ≡ n = omega arith in rw e

pub whole_of : (l : List ℕ) (n : ℕ) → length l ≤ n → take (length l - 0) l ≡ take n l
whole_of l n h = take_all l (length l - 0) (omega arith) ∙ sym (take_all l n h)
