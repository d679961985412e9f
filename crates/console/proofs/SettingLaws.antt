-- Laws of the lines that set tables.
use Prim.Native.Nat.{ℕ, ◌+◌, ◌-◌, min, ◌≤◌, ◌<◌}
use mathlib.Core.Path.{◌≡◌, refl, sym, ◌∙◌, ap}
use mathlib.Core.Bool.{Bool, true, false}
use mathlib.Core.List.{List, []}
use native.Mathlib.Numerals.{add-one}
use native.Mathlib.Omega.{arith}
use borrow.Author.Tests.{leb-true, leb-false}
use lib.Dec.{leb}
use lib.ListN.{length, set}
use lib.Seq.{sets}
use Rattle.std.specs.Prelude.{Option, Some, None}
use Rattle.rules.specs.Scan.{fold}
use Rattle.rules.proofs.Scans.{fold_step, fold_done}
use Rattle.rules.proofs.Lists.{sets-out}
use Rattle.console.specs.Words.{first_word, past_words}
use Rattle.console.specs.Numbers.{number_in, number_at}
use Rattle.console.specs.Settings.{before, with_number}
use Rattle.console.specs.declared.settings.Rom.{Rom}
use Rattle.console.proofs.WordLaws.{word_past}

-- word k as a number, of a line that is taken word by word
pub number_past : (l : List ℕ) (k : ℕ) {r w : List ℕ} {o : Option ℕ} → r ≡ past_words k l → w ≡ first_word r → o ≡ number_in w → o ≡ number_at l k
number_past l k p q e = e ∙ ap number_in (q ∙ ap first_word p ∙ sym (word_past k l))

-- ---- the numbers of a line: those before word k are stored, the next comes to a

module _ (l X : List ℕ) (a k : ℕ) {z : List ℕ} (inv : sets X a (fold (with_number l) k (length l) []) ≡ z) where
  full : length X ≤ a → X ≡ z
  full h = sym (sets-out (fold (with_number l) k (length l) []) X a h) ∙ inv

  done : length l ≤ k → X ≡ z
  done h = rw (fold_done (with_number l) k (length l) [] h) at inv

  module _ (h : k < length l) {o : Option ℕ} (q : o ≡ number_at l k) where
    step : sets X a (with_number l k (fold (with_number l) (k + 1) (length l) [])) ≡ z
    step = rw (fold_step (with_number l) k (length l) [] h) at inv

    pub none : o ≡ None → X ≡ z
    unfolding with_number before
    none e = let n : number_at l k ≡ None = sym q ∙ e in rw n at step

    one_more : {n : ℕ} → o ≡ Some n → sets (set X a n) (a + 1) (fold (with_number l) (k + 1) (length l) []) ≡ z
    unfolding with_number before
    one_more {n} e = let m : number_at l k ≡ Some n = sym q ∙ e in rw (add-one a) (rw m at step)

-- i of them are stored, from `at` on
module _ (l X : List ℕ) (at i : ℕ) {z : List ℕ} (inv : sets X (at + i) (fold (with_number l) (4 + i) (length l) []) ≡ z) where
  pub ended : min (length X - at) (length l - 4) ≤ i → X ≡ z
  ended h = by (leb (length X) (at + i)) refl
    where
      by : (t : Bool) → leb (length X) (at + i) ≡ t → X ≡ z
      by true e = full l X (at + i) (4 + i) inv (leb-true (length X) (at + i) e)
      by false e = let p : at + i < length X = leb-false (length X) (at + i) e in done l X (at + i) (4 + i) inv (omega arith)

  pub more : 4 + i < length l → {o : Option ℕ} → o ≡ number_at l (4 + i) → {n : ℕ} → o ≡ Some n → sets (set X (at + i) n) (at + (i + 1)) (fold (with_number l) (4 + (i + 1)) (length l) []) ≡ z
  more h q e =
      let a : at + (i + 1) ≡ at + i + 1 = omega arith in
      let k : 4 + (i + 1) ≡ 4 + i + 1 = omega arith in
      rw (a, k) (one_more l X (at + i) (4 + i) inv h q e)

-- a text stored from `at` on, in a table in which a length of zeros was stored: the zeros stay a name, since they are many
pub put_over : (R T Z : List ℕ) (at : ℕ) {X Y : List ℕ} {e end n m : ℕ} (part : List ℕ → ℕ → Rom)
    → e ≡ end → Y ≡ sets R e Z → X ≡ sets Y at T → n ≡ m → part X n ≡ part (sets (sets R end Z) at T) m
put_over R T Z at part end zeros text size = rw (text, zeros, end, size)
