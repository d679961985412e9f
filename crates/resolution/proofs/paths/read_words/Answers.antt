use Prim.Native.Nat.{ℕ, ◌≤◌, ◌<◌, ◌+◌, ◌-◌}
use mathlib.Core.Path.{◌≡◌, sym, ◌∙◌}
use mathlib.Core.Bool.{Bool, true, false, not}
use mathlib.Core.List.{List}
use native.Mathlib.Nat.{le_of_lt}
use native.Mathlib.Omega.{arith}
use borrow.Author.Tests.{not-true, not-false}
use lib.ListN.{length, take, drop}
use Rattle.std.specs.Prelude.{Option, Some, None}
use Rattle.rules.specs.Paths.{span, is_slash}
use Rattle.resolution.specs.Parse.{inner, word_ok, words_read}
use Rattle.resolution.proofs.Spans.{within}
use Rattle.resolution.proofs.Words.{words-zero, no_words, more-words}
use Rattle.resolution.proofs.paths.read_words.Goals as goal

module _ (p : List ℕ) (at k : ℕ) (z : Option ℕ) (inv : words_read (9 - k) (drop at p) k ≡ z) where
  past : 9 ≤ k → None ≡ z
  past l = let e : 9 - k ≡ 0 = omega arith in rw (e, words-zero) at inv

  module _ (s : ℕ) (a : s ≡ at + span is_slash (drop at p)) (l : k < 9) where
    end : length p ≤ s → Some k ≡ z
    end h = sym (no_words p at s a (9 - k) (9 - (k + 1)) k h (omega arith)) ∙ inv

    module _ (h : s < length p) (e : ℕ) (b : e ≡ s + span inner (drop s p)) (r : Bool) (v : r ≡ word_ok (take (e - s) (drop s p))) where
      wrong : not r ≡ true → None ≡ z
      wrong g = rw (more-words p at s a e b (9 - k) (9 - (k + 1)) k h (omega arith), ← v, not-true r g) at inv

      more : not r ≡ false → words_read (9 - (k + 1)) (drop e p) (k + 1) ≡ z
      more g = rw (more-words p at s a e b (9 - k) (9 - (k + 1)) k h (omega arith), ← v, not-false r g) at inv

pub returns-then-path-start : goal.returns-then-path-start
returns-then-path-start c = search end

pub slice_bounds-word_ok-end : goal.slice_bounds-word_ok-end
slice_bounds-word_ok-end c = search (within, le_of_lt)

pub returns-then-not-word_ok : goal.returns-then-not-word_ok
returns-then-not-word_ok c = search wrong

pub loop-k-preserved : goal.loop-k-preserved
loop-k-preserved c = search more

pub returns : goal.returns
returns c = search past
