-- Laws of decimal digits as they are written.
use Prim.Native.Nat.{ℕ, zero, suc, ◌+◌, ◌-◌, ◌/◌, ◌%◌, ◌≤◌, ◌<◌}
use mathlib.Core.Path.{◌≡◌, refl}
use mathlib.Core.Bool.{Bool, true, false, cond}
use mathlib.Core.List.{List, [], ◌∷◌, ◌++◌}
use native.Mathlib.Omega.{arith}
use lib.Dec.{ltb}
use borrow.Author.Tests.{lt-ltb, le-ltb}
use lib.ListN.{length, set, length-append}
use lib.Seq.{sets}
use Rattle.rules.proofs.Lists.{sets-append}
use Rattle.script_rules.specs.Text.{digits}

pub digits-most : (k n : ℕ) → length (digits k n) ≤ k
unfolding digits
digits-most zero n = omega arith
digits-most (suc k) n = by (ltb n 10) refl (digits-most k (n / 10))
  where
    by : (t : Bool) → ltb n 10 ≡ t → length (digits k (n / 10)) ≤ k → length (cond (ltb n 10) ((48 + n) ∷ []) (digits k (n / 10) ++ ((48 + n % 10) ∷ []))) ≤ suc k
    by true e h = rw e (omega arith)
    by false e h = rw (e, length-append) (omega arith)

-- the cases of a number of at most k digits
pub digits-none : (k n : ℕ) → k ≡ 0 → digits k n ≡ []
unfolding digits
digits-none k n e = rw e

pub digits-one : (k n : ℕ) → (k ≡ 0 → ⊥) → n < 10 → digits k n ≡ (48 + n) ∷ []
unfolding digits
digits-one zero n some h = absurd (some refl)
digits-one (suc k) n some h = rw (lt-ltb n 10 h)

pub digits_more : (k n : ℕ) → (k ≡ 0 → ⊥) → 10 ≤ n → digits k n ≡ digits (k - 1) (n / 10) ++ ((48 + n % 10) ∷ [])
unfolding digits
digits_more zero n some h = absurd (some refl)
digits_more (suc k) n some h = let e : suc k - 1 ≡ k = omega arith in rw (e, le-ltb n 10 h)

module _ (k n : ℕ) where
  pub length_none : k ≡ 0 → 0 ≡ length (digits k n)
  length_none e = rw (digits-none k n e)

  module _ (some : k ≡ 0 → ⊥) where
    pub length-one : n < 10 → 1 ≡ length (digits k n)
    length-one h = rw (digits-one k n some h)

    pub length_more : {r : ℕ} → 10 ≤ n → r ≡ length (digits (k - 1) (n / 10)) → r + 1 ≡ length (digits k n)
    length_more h e = rw (digits_more k n some h, length-append, ← e)

module _ (k n at : ℕ) (X : List ℕ) where
  pub text-none : k ≡ 0 → X ≡ sets X at (digits k n)
  text-none e = rw (digits-none k n e)

  pub end_none : k ≡ 0 → at ≡ at + length (digits k n)
  end_none e = rw (digits-none k n e) (omega arith)

  module _ (some : k ≡ 0 → ⊥) where
    pub text-one : n < 10 → set X at (48 + n) ≡ sets X at (digits k n)
    text-one h = rw (digits-one k n some h)

    pub end-one : n < 10 → at + 1 ≡ at + length (digits k n)
    end-one h = rw (digits-one k n some h)

    pub room-one : {l : ℕ} → n < 10 → at + length (digits k n) ≤ l → at < l
    room-one h g = let e : length (digits k n) ≡ 1 = rw (digits-one k n some h) in omega arith

    module _ {e : ℕ} (h : 10 ≤ n) (q : e ≡ at + length (digits (k - 1) (n / 10))) where
      pub text-more : {Y : List ℕ} → Y ≡ sets X at (digits (k - 1) (n / 10)) → set Y e (48 + n % 10) ≡ sets X at (digits k n)
      text-more p = rw (digits_more k n some h, sets-append, p, q)

      pub end_more : e + 1 ≡ at + length (digits k n)
      end_more = rw (digits_more k n some h, length-append, q) (omega arith)

      -- there is room for the last digit
      pub room-last : {l : ℕ} → at + length (digits k n) ≤ l → e < l
      room-last g = let a : e + 1 ≡ at + length (digits k n) = end_more in omega arith

    -- and for those before it
    pub room-more : {l : ℕ} → 10 ≤ n → at + length (digits k n) ≤ l → at + length (digits (k - 1) (n / 10)) ≤ l
    room-more h g = let e : length (digits k n) ≡ length (digits (k - 1) (n / 10)) + 1 = rw (digits_more k n some h, length-append) in omega arith
