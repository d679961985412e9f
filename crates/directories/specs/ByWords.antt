-- An entry by its name's words.
use Rattle.std.specs.Prelude.{ℕ, Bool, List, [], ◌∷◌, eqb}
use Rattle.rules.specs.Choice.{every}
use Rattle.rules.specs.Scan.{first}
use Rattle.rules.specs.Layout.{DIRENTS, ENTRIES}
use Rattle.rules.specs.Store.{entry}
use Rattle.rules.specs.Directories.{dirent_at}
use Rattle.rules.specs.declared.ids.Dirent.{Dirent}
use Rattle.tables.specs.NameWords.{low_word, high_word}

-- entry i of the directory D has the name of these words
unfoldable pub has_words : List ℕ → (low high i : ℕ) → Bool
has_words D low high i = every (eqb (low_word (dirent_at D i)) low ∷ eqb (high_word (dirent_at D i)) high ∷ [])

-- of a directory's own entries
abbrev pub stored_by : List ℕ → (low high : ℕ) → Dirent
stored_by D low high = entry (first (has_words D low high) 0 DIRENTS)

-- and of those that it is seen with
abbrev pub dirent_by : List ℕ → (low high : ℕ) → Dirent
dirent_by D low high = entry (first (has_words D low high) 0 ENTRIES)
