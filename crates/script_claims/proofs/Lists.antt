-- Laws of lists and of `span`.
use Prim.Native.Nat.{ℕ, suc, ◌+◌, ◌-◌, ◌<◌}
use mathlib.Core.Path.{◌≡◌, refl, sym, ◌∙◌, ap}
use mathlib.Core.Bool.{Bool, true, false, cond}
use mathlib.Core.List.{List, [], ◌∷◌, ◌++◌}
use native.Mathlib.Nat.{not-suc-le-zero, le_of_suc-le-suc}
use native.Mathlib.Decide.{dec_lt}
use native.Mathlib.Omega.{arith}
use lib.ListN.{length, get_or, take, drop, length-drop, drop_of_length-le, get_or-eq_default}
use lib.Seq.{drop-drop, drop-length}
use Rattle.rules.specs.Paths.{span}

-- ---- a place that does not hold 0 lies in the list

pub inside : (p : List ℕ) (i v : ℕ) → get_or p i 0 ≡ v → 0 < v → i < length p
inside p i v e h = go (dec_lt i (length p))
  where
    go : Dec (i < length p) → i < length p
    go (yes l) = l
    go (no g) = absurd (omega (arith, get_or-eq_default p 0 {n = i} (omega arith)))

-- ---- what is left of a list

pub record Rest (S X : List ℕ) : Type 0 where
  pub by : ℕ
  pub is : X ≡ drop by S

pub rest-rest : (S X Y : List ℕ) → Rest S X → Rest X Y → Rest S Y
rest-rest S X Y h g = record { by = h.by + g.by; is = g.is ∙ ap (drop g.by) h.is ∙ drop-drop g.by h.by S }

-- so much is left as its length says
pub rest-drop : (S X : List ℕ) → Rest S X → X ≡ drop (length S - length X) S
rest-drop S X h = go (dec_lt (length S) h.by)
  where
    size : length X ≡ length S - h.by
    size = ap length h.is ∙ length-drop h.by S

    go : Dec (length S < h.by) → X ≡ drop (length S - length X) S
    go (yes l) =
        let e : length S - length X ≡ length S = omega (arith, size) in
        h.is ∙ drop_of_length-le S {i = h.by} (omega arith) ∙ sym (rw e (drop-length S))
    go (no g) =
        let e : length S - length X ≡ h.by = omega (arith, size) in
        rw e h.is

-- ---- spans, over the test t

module _ (t : ℕ → Bool) where
  -- a span that ends within p does not look at what follows
  pub span-append : (p q : List ℕ) → span t p < length p → span t (p ++ q) ≡ span t p
  unfolding span
  span-append [] q h = absurd (not-suc-le-zero h)
  span-append (b ∷ bs) q h = go (t b) refl (span-append bs q)
    where
      go : (k : Bool) → t b ≡ k → (span t bs < length bs → span t (bs ++ q) ≡ span t bs) → cond (t b) (suc (span t (bs ++ q))) 0 ≡ cond (t b) (suc (span t bs)) 0
      go true e ih = rw e (ap suc (ih (le_of_suc-le-suc (rw e at h))))
      go false e ih = rw e

-- ---- lists whose elements all pass the test t

unfoldable pub Pass : (ℕ → Bool) → List ℕ → Type 0
Pass t [] = Unit {0}
Pass t (b ∷ bs) = (t b ≡ true) × Pass t bs

pub pass-append : (t : ℕ → Bool) (p q : List ℕ) → Pass t p → Pass t q → Pass t (p ++ q)
unfolding Pass
pass-append t [] q h g = g
pass-append t (b ∷ p) q h g = (h.0, pass-append t p q h.1 g)

-- a span ends where the test fails
pub span-pass : (t : ℕ → Bool) (p : List ℕ) (c : ℕ) (q : List ℕ) → Pass t p → t c ≡ false → span t (p ++ (c ∷ q)) ≡ length p
unfolding Pass span
span-pass t [] c q h e = rw e
span-pass t (b ∷ p) c q h e = rw (h.0, span-pass t p c q h.1 e)

-- what a span takes passes
pub pass-span : (t : ℕ → Bool) (p : List ℕ) → Pass t (take (span t p) p)
unfolding Pass span
pass-span t [] = tt
pass-span t (b ∷ p) = go (t b) refl (pass-span t p)
  where
    go : (k : Bool) → t b ≡ k → Pass t (take (span t p) p) → Pass t (take (cond (t b) (suc (span t p)) 0) (b ∷ p))
    go true e ih = rw e (e, ih)
    go false e ih = rw e tt
