-- Laws of the words of a line: the parts between its spaces that have bytes, taken from the front.
use Prim.Native.Nat.{ℕ, zero, suc, ◌+◌, ◌-◌, ◌≤◌, ◌<◌}
use mathlib.Core.Path.{◌≡◌, refl, sym, ◌∙◌, ap}
use mathlib.Core.Bool.{Bool, true, false, cond, not}
use mathlib.Core.List.{List, [], ◌∷◌}
use native.Mathlib.Omega.{arith}
use borrow.Author.Tests.{ne_eqb}
use lib.Dec.{eqb}
use lib.ListN.{length, take, drop}
use Rattle.std.specs.List.{slice_split, slice_get, onto_first, filter}
use Rattle.std.specs.Option.{unwrap_or}
use Rattle.rules.specs.Paths.{span}
use Rattle.console.specs.Words.{has_bytes, is_space, first_word, after_word, past_words, word_of}

has : (x : ℕ) (l : List ℕ) → has_bytes (x ∷ l) ≡ true
has x l = let e : eqb (suc (length l)) 0 ≡ false = ne_eqb (suc (length l)) 0 (λ q. omega arith) in rw e refl

-- the parts between the bytes that pass the test
module _ (p : ℕ → Bool) where
  abbrev words : List ℕ → List (List ℕ)
  words l = filter has_bytes (slice_split p l)

  abbrev from : List ℕ → List ℕ
  from l = drop (span p l) l

  abbrev front : List ℕ → List ℕ
  front l = take (span (λ b. not (p b)) l) l

  abbrev back : List ℕ → List ℕ
  back l = drop (span (λ b. not (p b)) l) l

  -- ---- what a line begins with: no word

  words-from : (l : List ℕ) → words (from l) ≡ words l
  unfolding span
  words-from [] = refl
  words-from (x ∷ l) = by (p x) refl (words-from l)
    where
      by : (b : Bool) → p x ≡ b → words (from l) ≡ words l → words (from (x ∷ l)) ≡ words (x ∷ l)
      by true e h = rw e h
      by false e h = rw e (rw e refl)

  -- and nothing of it is left
  none_left : (l : List ℕ) → span p (from l) ≡ 0
  unfolding span
  none_left [] = refl
  none_left (x ∷ l) = by (p x) refl (none_left l)
    where
      by : (b : Bool) → p x ≡ b → span p (from l) ≡ 0 → span p (from (x ∷ l)) ≡ 0
      by true e h = rw e h
      by false e h = rw e (rw e refl)

  -- ---- the first part

  cut : (l : List ℕ) → slice_split p l ≡ front l ∷ drop 1 (slice_split p (back l))
  unfolding span
  cut [] = refl
  cut (x ∷ l) = by (p x) refl (cut l)
    where
      by : (b : Bool) → p x ≡ b → slice_split p l ≡ front l ∷ drop 1 (slice_split p (back l)) → slice_split p (x ∷ l) ≡ front (x ∷ l) ∷ drop 1 (slice_split p (back (x ∷ l)))
      by true e h = rw e (rw e refl)
      by false e h = rw e (ap (onto_first x) h)

  -- what follows it has no bytes or begins with one that passes
  after-cut : (l : List ℕ) → filter has_bytes (drop 1 (slice_split p (back l))) ≡ words (back l)
  unfolding span
  after-cut [] = refl
  after-cut (x ∷ l) = by (p x) refl (after-cut l)
    where
      by : (b : Bool) → p x ≡ b → filter has_bytes (drop 1 (slice_split p (back l))) ≡ words (back l) → filter has_bytes (drop 1 (slice_split p (back (x ∷ l)))) ≡ words (back (x ∷ l))
      by true e h = rw e (rw e refl)
      by false e h = rw e h

  words-cut : (l : List ℕ) → words l ≡ cond (has_bytes (front l)) (front l ∷ words (back l)) (words (back l))
  words-cut l = ap (filter has_bytes) (cut l) ∙ ap (λ w. cond (has_bytes (front l)) (front l ∷ w) w) (after-cut l)

  -- ---- the first word of a line that begins with one, or has none

  words-first : (x : ℕ) (l : List ℕ) → p x ≡ false → words (x ∷ l) ≡ (x ∷ front l) ∷ words (back l)
  unfolding span
  words-first x l e =
      let f : front (x ∷ l) ≡ x ∷ front l = rw e refl in
      let b : back (x ∷ l) ≡ back l = rw e refl in
      words-cut (x ∷ l) ∙ rw (f, b, has x (front l)) refl

  word-zero : (l : List ℕ) → span p l ≡ 0 → unwrap_or (slice_get (words l) 0) [] ≡ front l
  unfolding span
  word-zero [] z = refl
  word-zero (x ∷ l) z = by (p x) refl z
    where
      by : (b : Bool) → p x ≡ b → span p (x ∷ l) ≡ 0 → unwrap_or (slice_get (words (x ∷ l)) 0) [] ≡ front (x ∷ l)
      by true e z = let n : suc (span p l) ≡ 0 = rw e at z in absurd (omega arith)
      by false e z =
          let f : front (x ∷ l) ≡ x ∷ front l = rw e refl in
          ap (λ w. unwrap_or (slice_get w 0) []) (words-first x l e) ∙ sym f

  word-suc : (l : List ℕ) (k : ℕ) → span p l ≡ 0 → slice_get (words l) (suc k) ≡ slice_get (words (back l)) k
  unfolding span
  word-suc [] k z = refl
  word-suc (x ∷ l) k z = by (p x) refl z
    where
      by : (b : Bool) → p x ≡ b → span p (x ∷ l) ≡ 0 → slice_get (words (x ∷ l)) (suc k) ≡ slice_get (words (back (x ∷ l))) k
      by true e z = let n : suc (span p l) ≡ 0 = rw e at z in absurd (omega arith)
      by false e z =
          let b : back (x ∷ l) ≡ back l = rw e refl in
          ap (λ w. slice_get w (suc k)) (words-first x l e) ∙ sym (ap (λ m. slice_get (words m) k) b)

  pub zeroth : (l : List ℕ) → unwrap_or (slice_get (words l) 0) [] ≡ front (from l)
  zeroth l = sym (ap (λ w. unwrap_or (slice_get w 0) []) (words-from l)) ∙ word-zero (from l) (none_left l)

  pub next : (l : List ℕ) (k : ℕ) → slice_get (words l) (suc k) ≡ slice_get (words (back (from l))) k
  next l k = sym (ap (λ w. slice_get w (suc k)) (words-from l)) ∙ word-suc (from l) k (none_left l)

word-next : (l : List ℕ) (k : ℕ) → word_of l (suc k) ≡ word_of (after_word l) k
unfolding word_of
word-next l k = ap (λ w. unwrap_or w []) (next is_space l k)

word-first : (l : List ℕ) → word_of l 0 ≡ first_word l
unfolding word_of
word-first l = zeroth is_space l

-- ---- a line past its first k words

pub word_past : (k : ℕ) (l : List ℕ) → word_of l k ≡ first_word (past_words k l)
unfolding past_words
word_past zero l = word-first l
word_past (suc k) l = word-next l k ∙ word_past k (after_word l)

past-suc : (k : ℕ) (l : List ℕ) → past_words (suc k) l ≡ after_word (past_words k l)
unfolding past_words
past-suc zero l = refl
past-suc (suc k) l = past-suc k (after_word l)

pub past-more : (k : ℕ) (l : List ℕ) {r s : List ℕ} → r ≡ past_words k l → s ≡ after_word r → s ≡ past_words (k + 1) l
past-more k l p q = let e : k + 1 ≡ suc k = omega arith in rw e (q ∙ ap after_word p ∙ sym (past-suc k l))

-- taken word by word: what the whole line is to leave is left of the rest, after as many words as turns
pub past-start : (k : ℕ) (l : List ℕ) → past_words (k - 0) l ≡ past_words k l
past-start k l = let e : k - 0 ≡ k = omega arith in rw e refl

module _ (k i : ℕ) (l : List ℕ) {z : List ℕ} (v : past_words (k - i) l ≡ z) where
  pub past-step : {m : List ℕ} → i < k → m ≡ after_word l → past_words (k - (i + 1)) m ≡ z
  unfolding past_words
  past-step h q = let e : k - i ≡ suc (k - (i + 1)) = omega arith in rw q (rw e at v)

  pub past-done : k ≤ i → l ≡ z
  unfolding past_words
  past-done h = let e : k - i ≡ 0 = omega arith in rw e at v
