-- Laws of words of 4 bytes: i are stored, from a on.
use Prim.Native.Nat.{ℕ, suc, ◌+◌, ◌-◌, ◌*◌, ◌/◌, min, ◌≤◌, ◌<◌}
use mathlib.Core.Path.{◌≡◌, refl, sym, ◌∙◌}
use mathlib.Core.Bool.{Bool, true, false}
use mathlib.Core.List.{List, [], ◌∷◌}
use native.Mathlib.Omega.{arith}
use borrow.Author.Tests.{leb-true, leb-false}
use lib.Dec.{leb}
use lib.ListN.{length, set, drop, length-drop}
use lib.Seq.{sets, drop-drop}
use Rattle.rules.proofs.Lists.{sets-out}
use Rattle.recorded.specs.Records.{word_at, words_of}

few : (l : List ℕ) → length l ≤ 3 → words_of l ≡ []
unfolding words_of
few [] h = refl
few (a ∷ []) h = refl
few (a ∷ b ∷ []) h = refl
few (a ∷ b ∷ c ∷ []) h = refl
few (a ∷ b ∷ c ∷ d ∷ l) h = absurd (over h)
  where
    over : suc (suc (suc (suc (length l)))) ≤ 3 → ⊥
    over h = omega arith

one : (l : List ℕ) → 4 ≤ length l → words_of l ≡ word_at l 0 ∷ words_of (drop 4 l)
unfolding words_of word_at
one [] h = absurd (omega arith)
one (a ∷ []) h = absurd (omega arith)
one (a ∷ b ∷ []) h = absurd (omega arith)
one (a ∷ b ∷ c ∷ []) h = absurd (omega arith)
one (a ∷ b ∷ c ∷ d ∷ l) h = refl

next : (t : List ℕ) (n : ℕ) → 4 ≤ length (drop n t) → words_of (drop n t) ≡ word_at t n ∷ words_of (drop (n + 4) t)
unfolding word_at
next t n h = rw (← drop-drop 4 n t) (one (drop n t) h)

module _ (t X : List ℕ) (a i : ℕ) {z : List ℕ} (inv : sets X (a + i) (words_of (drop (4 * i) t)) ≡ z) where
  full : length X ≤ a + i → X ≡ z
  full h = sym (sets-out (words_of (drop (4 * i) t)) X (a + i) h) ∙ inv

  done : length t / 4 ≤ i → X ≡ z
  done h = let e : length (drop (4 * i) t) ≤ 3 = omega (arith, length-drop (4 * i) t) in rw (few (drop (4 * i) t) e) at inv

  -- as far as the table goes
  pub ended : min (length X - a) (length t / 4) ≤ i → X ≡ z
  ended h = by (leb (length X) (a + i)) refl
    where
      by : (b : Bool) → leb (length X) (a + i) ≡ b → X ≡ z
      by true e = full (leb-true (length X) (a + i) e)
      by false e = let p : a + i < length X = leb-false (length X) (a + i) e in done (omega arith)

  pub more : i < length t / 4 → {v : ℕ} → v ≡ word_at t (4 * i) → sets (set X (a + i) v) (a + (i + 1)) (words_of (drop (4 * (i + 1)) t)) ≡ z
  more h {v} q =
      let l : 4 ≤ length (drop (4 * i) t) = omega (arith, length-drop (4 * i) t) in
      let e : 4 * (i + 1) ≡ 4 * i + 4 = omega arith in
      let k : a + (i + 1) ≡ suc (a + i) = omega arith in
      rw (q, e, k) (rw (next t (4 * i) l) at inv)
