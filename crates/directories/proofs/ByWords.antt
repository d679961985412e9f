-- An entry looked for by its name's words is the one looked for by its name.
use Prim.Native.Nat.{ℕ, ◌<◌}
use mathlib.Core.Path.{◌≡◌, refl, ap, fun_ext}
use mathlib.Core.Bool.{Bool, true, false}
use mathlib.Core.List.{List, [], ◌∷◌}
use lib.Dec.{eqb}
use lib.ListN.{get_or}
use Rattle.rules.specs.Choice.{every}
use Rattle.rules.specs.Scan.{first}
use Rattle.rules.specs.Layout.{ENTRIES}
use Rattle.rules.specs.Store.{entry}
use Rattle.rules.specs.Paths.{Name}
use Rattle.rules.specs.Directories.{dirent_at, has_name, dirent_of}
use Rattle.tables.specs.NameWords.{low_word, high_word}
use Rattle.tables.proofs.SameWords.{low-apart, high-apart, words-there}
use Rattle.directories.specs.ByWords.{has_words, dirent_by}

abbrev pub Bytes : List ℕ → Type 0
Bytes xs = (k : ℕ) → get_or xs k 0 < 256

module _ (D : List ℕ) (n : Name) (bd : Bytes D) (bn : Bytes n) where
  pub same-entry : (i : ℕ) → has_words D (low_word n) (high_word n) i ≡ has_name D n i
  unfolding has_words every has_name
  same-entry i = by (eqb (low_word (dirent_at D i)) (low_word n)) refl (eqb (high_word (dirent_at D i)) (high_word n)) refl
    where
      by : (a : Bool) → a ≡ eqb (low_word (dirent_at D i)) (low_word n) → (b : Bool) → b ≡ eqb (high_word (dirent_at D i)) (high_word n) → every (a ∷ b ∷ []) ≡ has_name D n i
      by true p true q = words-there D i n bd bn (low_word n) (high_word n) true true refl refl p refl q refl
      by true p false q = high-apart (dirent_at D i) n (high_word n) false refl q refl
      by false p b q = low-apart (dirent_at D i) n (low_word n) false refl p refl

  pub same-dirent : dirent_by D (low_word n) (high_word n) ≡ dirent_of D n
  same-dirent = ap (λ (t : ℕ → Bool). entry (first t 0 ENTRIES)) (fun_ext same-entry)
