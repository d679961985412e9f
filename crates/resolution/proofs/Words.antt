-- Laws of `words_read`: the words of the path from `at` on, of which the first stands from s up to e; and what they have to do with a byte 0.
use Prim.Native.Nat.{ℕ, suc, ◌+◌, ◌-◌, ◌≤◌, ◌<◌}
use mathlib.Core.Path.{◌≡◌, refl, sym, ◌∙◌}
use mathlib.Core.Bool.{Bool, true, false, cond, false≢true}
use mathlib.Core.List.{List, [], ◌∷◌}
use native.Mathlib.Omega.{arith}
use borrow.Author.Tests.{eq-eqb, ne_eqb, eqb-true}
use lib.Dec.{eqb-suc-suc, eqb-zero-suc}
use lib.ListN.{length, take, drop, length-drop}
use lib.Seq.{drop-drop}
use Rattle.std.specs.Prelude.{Some, None}
use Rattle.rules.specs.Choice.{every}
use Rattle.rules.specs.Paths.{span, skip, is_slash, not_slash, not_zero, no_zero}
use Rattle.resolution.specs.Parse.{inner, word, word_end, word_ok, words_read}

pub words-zero : (p : List ℕ) (k : ℕ) → words_read 0 p k ≡ None
unfolding words_read
words-zero p k = refl

module _ (p : List ℕ) (at s : ℕ) (a : s ≡ at + span is_slash (drop at p)) where
  rest : skip (drop at p) ≡ drop s p
  unfolding skip
  rest = rw (drop-drop, ← a)

  pub no_words : (n m k : ℕ) → length p ≤ s → n ≡ suc m → words_read n (drop at p) k ≡ Some k
  unfolding words_read
  no_words n m k h q = let z : length (drop s p) ≡ 0 = omega (arith, length-drop s p) in rw (q, rest, eq-eqb _ _ z)

  module _ (e : ℕ) (b : e ≡ s + span inner (drop s p)) where
    the_word : word (drop at p) ≡ take (e - s) (drop s p)
    unfolding word
    the_word = let h : e - s ≡ span inner (drop s p) = omega arith in rw (rest, h)

    end : drop (word_end (drop at p)) (drop at p) ≡ drop e p
    unfolding word_end
    end = let h : at + (span is_slash (drop at p) + span inner (drop s p)) ≡ e = omega arith in rw (rest, drop-drop, h)

    pub more-words : (n m k : ℕ) → s < length p → n ≡ suc m → words_read n (drop at p) k ≡ cond (word_ok (take (e - s) (drop s p))) (words_read m (drop e p) (k + 1)) None
    unfolding words_read
    more-words n m k h q = let z : length (drop s p) ≡ 0 → ⊥ = λ w. omega (arith, length-drop s p) in rw (q, rest, ne_eqb _ _ z, the_word, end)

-- ---- a byte 0

no-zero-cons : (b : ℕ) (bs : List ℕ) → not_zero b ≡ true → no_zero (b ∷ bs) ≡ no_zero bs
unfolding no_zero span
no-zero-cons b bs e = rw e (eqb-suc-suc (span not_zero bs) (length bs))

zero-first : (b : ℕ) (bs : List ℕ) → not_zero b ≡ false → no_zero (b ∷ bs) ≡ false
unfolding no_zero span
zero-first b bs e = rw e (eqb-zero-suc (length bs))

-- a span that has no 0 may be left out
pub zero-past : (t : ℕ → Bool) → ((b : ℕ) → t b ≡ true → not_zero b ≡ true) → (q : List ℕ) → no_zero (drop (span t q) q) ≡ no_zero q
unfolding span
zero-past t f [] = refl
zero-past t f (b ∷ bs) = go (t b) refl (zero-past t f bs)
  where
    go : (k : Bool) → t b ≡ k → no_zero (drop (span t bs) bs) ≡ no_zero bs → no_zero (drop (cond k (suc (span t bs)) 0) (b ∷ bs)) ≡ no_zero (b ∷ bs)
    go true e ih = ih ∙ sym (no-zero-cons b bs (f b e))
    go false e ih = refl

-- without a 0 a word is a name
same_class : (b : ℕ) (n : Bool) → not_slash b ≡ n → not_zero b ≡ true → inner b ≡ not_slash b
unfolding inner every
same_class b true e z = rw (e, z)
same_class b false e z = rw e

pub inner-span : (q : List ℕ) → no_zero q ≡ true → span inner q ≡ span not_slash q
unfolding span
inner-span [] h = refl
inner-span (b ∷ bs) h = go (not_zero b) refl h (inner-span bs)
  where
    go : (k : Bool) → not_zero b ≡ k → no_zero (b ∷ bs) ≡ true → (no_zero bs ≡ true → span inner bs ≡ span not_slash bs) → span inner (b ∷ bs) ≡ span not_slash (b ∷ bs)
    go true e h ih = rw (same_class b (not_slash b) refl e, ih (sym (no-zero-cons b bs e) ∙ h))
    go false e h ih = absurd (false≢true (sym (zero-first b bs e) ∙ h))

pub slash-not-zero : (b : ℕ) → is_slash b ≡ true → not_zero b ≡ true
unfolding is_slash not_zero
slash-not-zero b e = rw (eqb-true b 47 e)

pub inner-not-zero : (b : ℕ) → inner b ≡ true → not_zero b ≡ true
unfolding inner every
inner-not-zero b e = go (not_slash b) (not_zero b) e
  where
    go : (x y : Bool) → every (x ∷ y ∷ []) ≡ true → y ≡ true
    go true true e = refl
    go true false e = e
    go false y e = absurd (false≢true e)
