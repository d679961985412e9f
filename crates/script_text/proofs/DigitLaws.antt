-- Laws of decimal digits as they are read.
use Prim.Native.Nat.{ℕ, ◌+◌, ◌-◌, ◌*◌, ◌≤◌, ◌<◌}
use mathlib.Core.Path.{◌≡◌, refl, sym, ◌∙◌}
use mathlib.Core.Bool.{false}
use mathlib.Core.List.{List}
use native.Mathlib.Numerals.{add-one}
use native.Mathlib.Omega.{arith}
use lib.Dec.{leb}
use borrow.Author.Tests.{le-leb, lt-leb}
use lib.ListN.{length, get_or, drop, drop_of_length-le}
use lib.Seq.{drop-cons}
use Rattle.std.specs.Prelude.{Some, None}
use Rattle.script_rules.specs.Text.{digits_from}
use Rattle.script_rules.proofs.Digits.{grows}
use Rattle.script_text.specs.Numbers.{narrow}

module _ (p : List ℕ) (n i : ℕ) {z : ℕ} (inv : digits_from n (drop i p) ≡ z) where
  module _ (l : i < length p) {v : ℕ} (q : v ≡ get_or p i 0 - 48) where
    step : digits_from n (drop i p) ≡ digits_from (n * 10 + v) (drop (i + 1) p)
    unfolding digits_from
    step = rw (add-one, drop-cons p i 0, q)

    pub more : digits_from (n * 10 + v) (drop (i + 1) p) ≡ z
    more = sym step ∙ inv

  -- the code takes the product and the sum one after the other, and stops at the first that is too wide
  module _ (l : i < length p) where
    wider : 65535 < n * 10 + (get_or p i 0 - 48) → None ≡ narrow z
    unfolding narrow
    wider h = let a : leb z 65535 ≡ false = lt-leb z 65535 (omega (arith, grows (n * 10 + (get_or p i 0 - 48)) (drop (i + 1) p), more l refl)) in rw a

    pub wide-product : (n * 10 < 65536 → ⊥) → None ≡ narrow z
    wide-product h = wider (omega arith)

    module _ {m v : ℕ} (q : m ≡ n * 10) (e : v ≡ get_or p i 0 - 48) where
      pub wide-sum : (m + v < 65536 → ⊥) → None ≡ narrow z
      wide-sum h = wider (omega arith)

      pub next : {w : ℕ} → w ≡ m + v → digits_from w (drop (i + 1) p) ≡ z
      next {w} x = rw (x, q) (more l e)

  pub past : length p ≤ i → n < 65536 → Some n ≡ narrow z
  unfolding digits_from narrow
  past l h =
      let s : digits_from n (drop i p) ≡ n = rw (drop_of_length-le p l) in
      let e : n ≡ z = sym s ∙ inv in
      rw (← e, le-leb n 65535 (omega arith))
