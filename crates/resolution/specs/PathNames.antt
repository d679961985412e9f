-- The names of a path as the code reads them: their bytes as words, the first byte the lowest.
use Rattle.std.specs.Prelude.{ℕ, zero, suc, ◌+◌, ◌*◌, cond, List, [], ◌∷◌, length, take, drop}
use Rattle.rules.specs.Paths.{Name, span, not_slash}
use Rattle.tables.specs.NameWords.{low_word, high_word}
use Rattle.resolution.specs.declared.path_names.Word.{Word}
use Rattle.resolution.specs.declared.path_names.PathName.{PathName}

unfoldable pub pack : List ℕ → ℕ
pack [] = 0
pack (b ∷ bs) = b + 256 * pack bs

-- the bytes of the name that q starts with, n at most
unfoldable pub up_to : ℕ → List ℕ → List ℕ
up_to zero q = []
up_to (suc n) [] = []
up_to (suc n) (b ∷ bs) = cond (not_slash b) (b ∷ up_to n bs) []

abbrev pub word_from : ℕ → List ℕ → ℕ → Word
word_from most p at = record { word = pack (up_to most (drop at p)); end = at + length (up_to most (drop at p)) }

-- the name that starts there, up to the next slash
abbrev pub name_at : List ℕ → ℕ → Name
name_at p start = take (span not_slash (drop start p)) (drop start p)

abbrev pub name_from : List ℕ → ℕ → PathName
name_from p start = record { low = low_word (name_at p start); high = high_word (name_at p start); end = start + span not_slash (drop start p) }
