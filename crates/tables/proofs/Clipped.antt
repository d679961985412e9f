-- What is written into a slice from some place on, as far as the slice goes: the part that is written, and `sets`, which leaves out what lies past the end.
use Rattle.std.proofs.Common.{◌≡◌, ℕ, zero, suc, ◌+◌, ◌-◌, ◌≤◌, ◌<◌, Bool, true, false, List, [], ◌∷◌, length, take, drop, min, refl, sym, ◌∙◌, arith, leb, replicate, slice_set}
use Rattle.std.proofs.lemmas.Bool.{leb-true, leb-false}
use Rattle.std.proofs.lemmas.List.{length-set, length-take, take-replicate}
use Rattle.std.proofs.lemmas.List.Edits.{sets}
use Rattle.std.proofs.Math.Seq.{take-nil}
use lib.ListN.{drop_of_length-le}
use Rattle.std.proofs.Math.Numerals.{add-one, sub-one}
use Rattle.rules.proofs.Lists.{sets-out, take_all}

module _ {A : Type 0} where
  clipped : (ys xs : List A) (at : ℕ) → sets xs at ys ≡ sets xs at (take (length xs - at) ys)
  clipped [] xs at = rw (take-nil (length xs - at)) refl
  clipped (y ∷ ys) xs at = by (length xs - at) refl (clipped ys (slice_set xs at y) (suc at))
    where
      by : (m : ℕ) → length xs - at ≡ m → sets (slice_set xs at y) (suc at) ys ≡ sets (slice_set xs at y) (suc at) (take (length (slice_set xs at y) - suc at) ys) → sets xs at (y ∷ ys) ≡ sets xs at (take m (y ∷ ys))
      by zero e r = sets-out (y ∷ ys) xs at (omega (arith, e))
      by (suc m) e r =
          let k : length (slice_set xs at y) - suc at ≡ m = rw (length-set xs at y) (omega (arith, e)) in
          r ∙ rw k refl

  -- one turn of filling; filling that is done
  pub fill-step : (xs : List A) (at n : ℕ) (v : A) → 0 < n → sets xs at (replicate n v) ≡ sets (slice_set xs at v) (at + 1) (replicate (n - 1) v)
  fill-step xs at zero v h = absurd (none h)
    where
      none : 0 < 0 → ⊥
      none h = omega arith
  fill-step xs at (suc n) v h = simp (add-one, sub-one)

  -- from f on, m long: as far as the slice goes
  pub filled : (xs : List A) (at n f m : ℕ) (v : A) → f ≡ min at (length xs) → m ≡ min n (length xs - f) → sets xs f (replicate m v) ≡ sets xs at (replicate n v)
  filled xs at n f m v e d = by (leb at (length xs)) refl
    where
      by : (b : Bool) → leb at (length xs) ≡ b → sets xs f (replicate m v) ≡ sets xs at (replicate n v)
      by true l =
          let i : at ≤ length xs = leb-true at (length xs) l in
          let s : f ≡ at = omega arith in
          rw s (go (leb n (length xs - at)) refl s)
        where
          go : (b : Bool) → leb n (length xs - at) ≡ b → f ≡ at → sets xs at (replicate m v) ≡ sets xs at (replicate n v)
          go true k s =
              let j : n ≤ length xs - at = leb-true n (length xs - at) k in
              let q : m ≡ n = omega arith in
              rw q refl
          go false k s =
              let j : length xs - at < n = leb-false n (length xs - at) k in
              let q : m ≡ length xs - at = omega arith in
              sym (clipped (replicate n v) xs at ∙ rw (take-replicate (length xs - at) n v (omega arith), q) refl)
      by false l =
          let i : length xs < at = leb-false at (length xs) l in
          let q : m ≡ 0 = omega arith in
          rw q (sym (sets-out (replicate n v) xs at (omega arith)))

  -- as far as the slice goes
  pub copied : (xs ys : List A) (at f n : ℕ) → f ≡ min at (length xs) → n ≡ min (length ys) (length xs - f) → sets xs f (take n ys) ≡ sets xs at ys
  copied xs ys at f n e d = by (leb at (length xs)) refl
    where
      by : (b : Bool) → leb at (length xs) ≡ b → sets xs f (take n ys) ≡ sets xs at ys
      by true l =
          let i : at ≤ length xs = leb-true at (length xs) l in
          let s : f ≡ at = omega arith in
          rw (s, go (leb (length ys) (length xs - at)) refl s) (sym (clipped ys xs at))
        where
          go : (b : Bool) → leb (length ys) (length xs - at) ≡ b → f ≡ at → take n ys ≡ take (length xs - at) ys
          go true k s =
              let j : length ys ≤ length xs - at = leb-true (length ys) (length xs - at) k in
              take_all ys n (omega arith) ∙ sym (take_all ys (length xs - at) j)
          go false k s =
              let j : length xs - at < length ys = leb-false (length ys) (length xs - at) k in
              let q : n ≡ length xs - at = omega arith in
              rw q refl
      by false l =
          let i : length xs < at = leb-false at (length xs) l in
          let q : n ≡ 0 = omega arith in
          rw q (sym (sets-out ys xs at (omega arith)))

  -- the first n are copied
  pub copy-done : (xs ys : List A) (at i n : ℕ) → n ≤ i → sets xs at (drop i (take n ys)) ≡ xs
  copy-done xs ys at i n h = let e : length (take n ys) ≤ i = omega (arith, length-take n ys) in rw (drop_of_length-le (take n ys) e) refl
