-- Names by their words: a name is all padding where both words are 0, is new where no entry before it has both words, and is absent where none has.
use mathlib.Core.Path.{◌≡◌, refl, sym, ap, ◌∙◌, fun_ext}
use mathlib.Core.Bool.{Bool, true, false, cond, not}
use mathlib.Core.List.{List, []}
use Prim.Native.Nat.{ℕ, zero, suc, ◌+◌, ◌-◌, ◌*◌, ◌≤◌, ◌<◌}
use native.Mathlib.Omega.{arith}
use borrow.Author.Tests.{lt-ltb, le-ltb}
use lib.Dec.{eqb, ltb}
use lib.ListN.{get_or}
use lib.Seq.{get_or-drop}
use Rattle.rules.specs.Choice.{some}
use Rattle.rules.specs.Scan.{all, first}
use Rattle.rules.specs.Layout.{NAME, DIRENTS}
use Rattle.rules.specs.Store.{is_dirent}
use Rattle.rules.specs.Paths.{Name, same_name}
use Rattle.rules.specs.Directories.{dirent_at, is_empty, is_padding, has_name}
use Rattle.rules.specs.Rom.{ROM_NAME}
use Rattle.rules.specs.Sound.{is_not_rom, rom_absent}
use Rattle.rules.specs.declared.ids.Dirent.{Dirent}
use Rattle.rules.proofs.Scans.{all_yes, all-no, all_done, all_same, first-yes, first-no, first_done}
use Rattle.tables.specs.NameWords.{low_word, high_word}
use Rattle.tables.proofs.SameWords.{low-apart, high-apart, word_same}
use Rattle.directories.specs.ByWords.{has_words, stored_by}
use Rattle.directories.specs.Seen.{ROM_LOW}
use Rattle.directories.proofs.ByWords.{same-entry}
use Rattle.soundness.specs.Counted.{other_than, other_words}
use Rattle.soundness.proofs.Bridge.{no_name}

-- ---- the empty name has the words 0

pub padding_by : (n : Name) → ((k : ℕ) → get_or n k 0 < 256) → all (is_padding n) 0 NAME ≡ cond (eqb (low_word n) 0) (eqb (high_word n) 0) false
unfolding low_word high_word
padding_by n bytes = by (eqb (low_word n) 0) (eqb (high_word n) 0) refl refl
  where
    by : (s t : Bool) → eqb (low_word n) 0 ≡ s → eqb (high_word n) 0 ≡ t → all (is_padding n) 0 NAME ≡ cond s t false
    by false t e f = sym (no_name n false (low-apart n [] 0 (eqb (low_word n) 0) refl refl e))
    by true true e f = sym (no_name n true (word_same n [] bytes (λ k. omega arith) 0 0 (eqb (low_word n) 0) (eqb (high_word n) 0) refl refl refl e refl f))
    by true false e f = sym (no_name n false (high-apart n [] 0 (eqb (high_word n) 0) refl refl f))

-- ---- an entry with the words of another has its name

module _ (D : List ℕ) (bytes : (k : ℕ) → get_or D k 0 < 256) where
  entry-byte : (i k : ℕ) → get_or (dirent_at D i) k 0 < 256
  entry-byte i k = rw (get_or-drop (16 * i) D k 0) (bytes (16 * i + k))

  other-by : (i j : ℕ) → other_words D (low_word (dirent_at D i)) (high_word (dirent_at D i)) j ≡ other_than D i j
  unfolding other_words other_than some
  other-by i j = by (eqb (low_word (dirent_at D i)) (low_word (dirent_at D j))) (eqb (high_word (dirent_at D i)) (high_word (dirent_at D j))) (is_empty D j) refl refl
    where
      by : (a b e : Bool) → eqb (low_word (dirent_at D i)) (low_word (dirent_at D j)) ≡ a → eqb (high_word (dirent_at D i)) (high_word (dirent_at D j)) ≡ b
          → cond (not a) true (cond (not b) true (cond e true false)) ≡ cond e true (cond (not (same_name (dirent_at D i) (dirent_at D j))) true false)
      by false b true p q = refl
      by true false true p q = refl
      by true true true p q = refl
      by false b false p q = rw (← low-apart (dirent_at D i) (dirent_at D j) (low_word (dirent_at D j)) false refl (sym p) refl)
      by true false false p q = rw (← high-apart (dirent_at D i) (dirent_at D j) (high_word (dirent_at D j)) false refl (sym q) refl)
      by true true false p q = rw (← word_same (dirent_at D i) (dirent_at D j) (entry-byte i) (entry-byte j) (low_word (dirent_at D j)) (high_word (dirent_at D j)) true true refl refl (sym p) refl (sym q) refl)

  pub others_by : (i low high : ℕ) → low ≡ low_word (dirent_at D i) → high ≡ high_word (dirent_at D i) → all (other_words D low high) 0 i ≡ all (other_than D i) 0 i
  others_by i low high a b =
      rw (a, b) (all_same (other_words D (low_word (dirent_at D i)) (high_word (dirent_at D i))) (other_than D i) i (λ j h. other-by i j))

-- ---- a name that no entry has is not found

none_from : (p : ℕ → Bool) (k i n : ℕ) → n - i ≡ k → i ≤ n → not (ltb (first p i n) n) ≡ all (λ j. not (p j)) i n
none_from p zero i n e h =
    let d : n ≡ first p i n = first_done p i n refl (omega arith) in
    rw (← d, le-ltb n n (omega arith)) (all_done (λ j. not (p j)) i n refl (omega arith))
none_from p (suc k) i n e h = by (p i) refl (none_from p k (i + 1) n (omega arith) (omega arith))
  where
    inside : i < n
    inside = omega arith

    by : (b : Bool) → p i ≡ b → not (ltb (first p (i + 1) n) n) ≡ all (λ j. not (p j)) (i + 1) n → not (ltb (first p i n) n) ≡ all (λ j. not (p j)) i n
    by true q rest = rw (← first-yes p i n refl inside q refl, lt-ltb i n inside) (all-no (λ j. not (p j)) i n refl inside (rw q) refl)
    by false q rest = rw (← first-no p i n refl inside q refl) (rest ∙ all_yes (λ j. not (p j)) i n refl inside (rw q) refl)

pub rom-absent : (D : List ℕ) → ((k : ℕ) → get_or D k 0 < 256) → (i : Dirent) (r : Bool) → i ≡ stored_by D ROM_LOW 0 → r ≡ is_dirent i → not r ≡ rom_absent D
unfolding rom_absent is_not_rom low_word high_word
rom-absent D bytes i r e q =
    let same : first (has_words D ROM_LOW 0) 0 DIRENTS ≡ first (has_name D ROM_NAME) 0 DIRENTS = ap (λ (t : ℕ → Bool). first t 0 DIRENTS) (fun_ext (same-entry D ROM_NAME bytes letters)) in
    rw (q, e, same) (none_from (has_name D ROM_NAME) DIRENTS 0 DIRENTS refl (omega arith))
  where
    letters : (k : ℕ) → get_or ROM_NAME k 0 < 256
    letters zero = omega arith
    letters (suc zero) = omega arith
    letters (suc (suc zero)) = omega arith
    letters (suc (suc (suc k))) = omega arith
