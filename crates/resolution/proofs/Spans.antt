-- Laws of `span`, over the test t.
use Prim.Native.Nat.{ℕ, suc, ◌+◌, ◌≤◌, ◌<◌}
use mathlib.Core.Path.{◌≡◌, refl}
use mathlib.Core.Bool.{Bool, true, false}
use mathlib.Core.List.{List, [], ◌∷◌}
use native.Mathlib.Nat.{not-suc-le-zero, le_of_suc-le-suc}
use native.Mathlib.Numerals.{add-one}
use native.Mathlib.Omega.{arith}
use lib.ListN.{length, get_or, drop, drop_of_length-le, length-drop}
use lib.Seq.{drop-cons, get_or-drop}
use Rattle.rules.specs.Paths.{span}

module _ (t : ℕ → Bool) where
  pub span_more : (p : List ℕ) (i : ℕ) → i < length p → t (get_or p i 0) ≡ true → span t (drop i p) ≡ suc (span t (drop (i + 1) p))
  unfolding span
  span_more p i l e = rw (add-one, drop-cons p i 0, e)

  pub span-stop : (p : List ℕ) (i : ℕ) → i < length p → t (get_or p i 0) ≡ false → span t (drop i p) ≡ 0
  unfolding span
  span-stop p i l e = rw (drop-cons p i 0, e)

  pub span-past : (p : List ℕ) (i : ℕ) → length p ≤ i → span t (drop i p) ≡ 0
  unfolding span
  span-past p i l = rw (drop_of_length-le p l)

  case : (b : ℕ) (bs : List ℕ) (k : Bool) → t b ≡ k → span t bs ≤ length bs → span t (b ∷ bs) ≤ suc (length bs)
  unfolding span
  case b bs true e h = rw e (omega arith)
  case b bs false e h = rw e (omega arith)

  pub span-le : (p : List ℕ) → span t p ≤ length p
  unfolding span
  span-le [] = omega arith
  span-le (b ∷ bs) = case b bs (t b) refl (span-le bs)

  -- a span that starts within a list ends there
  pub within : (p : List ℕ) (s e : ℕ) → e ≡ s + span t (drop s p) → s ≤ length p → e ≤ length p
  within p s e q l = omega (arith, span-le (drop s p), length-drop s p)

  -- the byte that ends a span fails the test
  ends : (q : List ℕ) → span t q < length q → t (get_or q (span t q) 0) ≡ false
  unfolding span
  ends [] h = absurd (not-suc-le-zero h)
  ends (b ∷ bs) h = go (t b) refl (ends bs) h
    where
      go : (k : Bool) → t b ≡ k → (span t bs < length bs → t (get_or bs (span t bs) 0) ≡ false) → span t (b ∷ bs) < suc (length bs) → t (get_or (b ∷ bs) (span t (b ∷ bs)) 0) ≡ false
      go true e ih h = rw e (ih (le_of_suc-le-suc (rw e at h)))
      go false e ih h = rw e e

  pub span-ends : (p : List ℕ) (at s : ℕ) → s ≡ at + span t (drop at p) → s < length p → t (get_or p s 0) ≡ false
  span-ends p at s q h = rw (q, ← get_or-drop) (ends (drop at p) (omega (arith, length-drop at p)))
