-- A path read by its start, its words and its end is well formed just where the rules say so.
use Prim.Native.Nat.{ℕ, zero, suc, ◌+◌, ◌-◌, ◌≤◌, ◌<◌}
use mathlib.Core.Path.{◌≡◌, refl, sym, ◌∙◌}
use mathlib.Core.Bool.{Bool, true, false, cond, not}
use mathlib.Core.List.{List, [], ◌∷◌}
use native.Mathlib.Nat.{zero-add, add-zero}
use native.Mathlib.Omega.{arith}
use borrow.Author.Tests.{ltb-true, ltb-false, le-leb}
use lib.Dec.{eqb, leb, ltb, leb-zero, leb-suc-zero, leb-suc-suc}
use lib.ListN.{length, get_or, take, drop, drop_of_length-le}
use lib.Seq.{drop-drop}
use Rattle.std.specs.Prelude.{Option, Some, None, is_some}
use Rattle.rules.specs.Choice.{every, some}
use Rattle.rules.specs.Paths.{Name, span, is_slash, not_slash, names, first_names, name_ok, names_ok, no_zero, size_ok, shape_ok, end_ok, names_fit, path_ok, is_root}
use Rattle.rules.specs.Calls.{path_below_root}
use Rattle.rules.proofs.Choices.{every-last}
use Rattle.resolution.specs.Parse.{inner, word_ok, words_read, start_ok, last_ok, ended, on_read, parsed_by, has_names}
use Rattle.resolution.proofs.Names.{no_names, more-names, name-bytes}
use Rattle.resolution.proofs.Words.{words-zero, no_words, more-words, zero-past, inner-span, slash-not-zero, inner-not-zero}

-- the first m names of q, if they are fewer than m, each is one and no byte is 0
abbrev verdict : ℕ → List ℕ → ℕ → Option ℕ
verdict m q k = cond (every (no_zero q ∷ ltb (length (first_names m q)) m ∷ names_ok (first_names m q) ∷ [])) (Some (k + length (first_names m q))) None

-- a word that is not empty
word_ok_lem : (w : Name) → 1 ≤ length w → word_ok w ≡ name_ok w
unfolding word_ok name_ok every
word_ok_lem w h = rw (le-leb _ _ h)

turn : (a few rest : Bool) (x : Option ℕ) → cond a (cond (every (true ∷ few ∷ rest ∷ [])) x None) None ≡ cond (every (true ∷ few ∷ cond a rest false ∷ [])) x None
unfolding every
turn true few rest x = refl
turn false true rest x = refl
turn false false rest x = refl

no-choice : (a : Bool) → cond {A = Option ℕ} a None None ≡ None
no-choice true = refl
no-choice false = refl

module _ (m : ℕ) (q : List ℕ) (k : ℕ) (ih : (r : List ℕ) (j : ℕ) → words_read m r j ≡ verdict m r j) where
  abbrev s : ℕ
  s = span is_slash q

  abbrev e : ℕ
  e = s + span not_slash (drop s q)

  abbrev ns : List Name
  ns = first_names m (drop e q)

  at : s ≡ 0 + span is_slash (drop 0 q)
  at = sym (zero-add _)

  past : no_zero (drop s q) ≡ no_zero q
  past = zero-past is_slash slash-not-zero q

  none : length q ≤ s → words_read (suc m) q k ≡ verdict (suc m) q k
  unfolding every names_ok no_zero span
  none h =
      let z : no_zero q ≡ true = rw (drop_of_length-le q h) at (sym past) in
      rw (no_words q 0 s at (suc m) m k h refl, no_names q 0 s at (suc m) h, z, leb-suc-suc, leb-zero, add-zero)

  -- a word that no byte 0 ends is a name
  clean : s < length q → no_zero q ≡ true → words_read (suc m) q k ≡ verdict (suc m) q k
  unfolding names_ok
  clean h z =
      let i : span inner (drop s q) ≡ span not_slash (drop s q) = inner-span (drop s q) (past ∙ z) in
      let b : e ≡ s + span inner (drop s q) = rw i in
      let y : no_zero (drop e q) ≡ true = rw (drop-drop, ← b) at (zero-past inner inner-not-zero (drop s q)) ∙ past ∙ z in
      let n : k + 1 + length ns ≡ k + suc (length ns) = omega arith in
      rw (more-words q 0 s at e b (suc m) m k h refl, more-names q 0 s at e refl (suc m) m h refl, word_ok_lem _ (name-bytes q 0 s at e refl h), ih, y, z, n, leb-suc-suc) (turn (name_ok (take (e - s) (drop s q))) (ltb (length ns) m) (names_ok ns) (Some (k + suc (length ns))))

  -- a byte 0 is past the word
  unclean : s < length q → no_zero q ≡ false → words_read (suc m) q k ≡ verdict (suc m) q k
  unfolding every
  unclean h z =
      let y : no_zero (drop (s + span inner (drop s q)) q) ≡ false = rw drop-drop at (zero-past inner inner-not-zero (drop s q)) ∙ past ∙ z in
      rw (more-words q 0 s at _ refl (suc m) m k h refl, ih, y, z) (no-choice (word_ok (take (s + span inner (drop s q) - s) (drop s q))))

  both : (a b : Bool) → ltb s (length q) ≡ a → no_zero q ≡ b → words_read (suc m) q k ≡ verdict (suc m) q k
  both true true e z = clean (ltb-true _ _ e) z
  both true false e z = unclean (ltb-true _ _ e) z
  both false b e z = none (ltb-false _ _ e)

words-read : (m : ℕ) (q : List ℕ) (k : ℕ) → words_read m q k ≡ verdict m q k
unfolding every
words-read zero q k = rw (words-zero q k, leb-suc-zero) (go (no_zero q))
  where
    go : (b : Bool) → None ≡ cond (cond b false false) (Some (k + length (first_names 0 q))) None
    go true = refl
    go false = refl
words-read (suc m) q k = both m q k (words-read m) (ltb (span is_slash q) (length q)) (no_zero q) refl refl

-- ---- the path

module _ (p : List ℕ) where
  abbrev n : ℕ
  n = length (names p)

  -- parsed, by seven tests
  abbrev by : (some short slash clean few named end : Bool) → Option ℕ
  by a b d z f o e = cond (every (a ∷ b ∷ d ∷ [])) (cond (every (z ∷ f ∷ o ∷ [])) (cond e (Some n) None) None) None

  -- the rules' seven, in their groups
  abbrev path_by : (some short slash clean few named end : Bool) → Bool
  path_by a b d z f o e = every (every (every (a ∷ b ∷ []) ∷ d ∷ z ∷ []) ∷ every (f ∷ o ∷ []) ∷ e ∷ [])

  on_read_lem : (b : Bool) → on_read p (cond b (Some n) None) ≡ cond b (cond (some (eqb n 0 ∷ last_ok p ∷ [])) (Some n) None) None
  unfolding on_read ended
  on_read_lem true = refl
  on_read_lem false = refl

  parsed-by : parsed_by p ≡ by (leb 1 (length p)) (leb (length p) 64) (is_slash (get_or p 0 0)) (no_zero p) (leb n 8) (names_ok (names p)) (end_ok p)
  unfolding parsed_by start_ok end_ok
  parsed-by = rw (words-read 9 p 0, zero-add, leb-suc-suc n 8, on_read_lem)

  path-ok : is_some (parsed_by p) ≡ path_ok p
  unfolding path_ok shape_ok size_ok names_fit every
  path-ok = rw parsed-by (go (leb 1 (length p)) (leb (length p) 64) (is_slash (get_or p 0 0)) (no_zero p) (leb n 8) (names_ok (names p)) (end_ok p))
    where
      go : (a b d z f o e : Bool) → is_some (by a b d z f o e) ≡ path_by a b d z f o e
      go true true true true true true true = refl
      go true true true true true true false = refl
      go true true true true true false e = refl
      go true true true true false o e = refl
      go true true true false f o e = refl
      go true true false z f o e = refl
      go true false d z f o e = refl
      go false b d z f o e = refl

  below-root : has_names (parsed_by p) ≡ path_below_root p
  unfolding path_below_root path_ok shape_ok size_ok names_fit is_root every has_names
  below-root = rw parsed-by (go (leb 1 (length p)) (leb (length p) 64) (is_slash (get_or p 0 0)) (no_zero p) (leb n 8) (names_ok (names p)) (end_ok p))
    where
      go : (a b d z f o e : Bool) → has_names (by a b d z f o e) ≡ every (path_by a b d z f o e ∷ not (eqb n 0) ∷ [])
      go true true true true true true true = every-last _ _ refl
      go true true true true true true false = refl
      go true true true true true false e = refl
      go true true true true false o e = refl
      go true true true false f o e = refl
      go true true false z f o e = refl
      go true false d z f o e = refl
      go false b d z f o e = refl

  -- of what the code parsed
  module _ (o : Option ℕ) (e : o ≡ parsed_by p) where
    pub path_ok_is : is_some o ≡ path_ok p
    path_ok_is = rw e path-ok

    pub below_root_is : (z : Bool) → z ≡ has_names o → z ≡ path_below_root p
    below_root_is z h = h ∙ rw e below-root
