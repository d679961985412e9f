-- The rules' tests of a slot and of an open file, with the counted links L, parents P and holders H, and the number after the last prompt's; and of an
-- entry whose name is looked for.
use Rattle.std.specs.Prelude.{ℕ, zero, suc, ◌+◌, Bool, true, cond, not, List, [], ◌∷◌, eqb, ltb, get_or}
use Rattle.rules.specs.Choice.{every, some}
use Rattle.rules.specs.Layout.{NAMES, FILE_LENGTH, FILE_LINKS, OPEN_SLOT, OPEN_REFERENCES}
use Rattle.rules.specs.Store.{Tree, Table, slot}
use Rattle.rules.specs.Paths.{same_name}
use Rattle.rules.specs.Directories.{dirent_at, is_empty}
use Rattle.rules.specs.Walk.{is_directory, is_plain, is_link}
use Rattle.rules.specs.Sound.{record_sound, dirents_sound, plain_sound, link_sound, all_zero, open_free, open_used}
use Rattle.tables.specs.NameWords.{low_word, high_word}

-- entry j is empty or has another name than entry i, which is not empty
unfoldable pub other_than : List ℕ → ℕ → ℕ → Bool
other_than D i j = some (is_empty D j ∷ not (same_name (dirent_at D i) (dirent_at D j)) ∷ [])

-- entry j is empty or has another name than the one of these words
unfoldable pub other_words : List ℕ → ℕ → ℕ → ℕ → Bool
other_words D low high j = some (not (eqb low (low_word (dirent_at D j))) ∷ not (eqb high (high_word (dirent_at D j))) ∷ is_empty D j ∷ [])

unfoldable pub links_sound_by : Table → List ℕ → ℕ → Bool
links_sound_by file L s = cond (eqb s 0) (eqb (file s FILE_LINKS) 0) (eqb (file s FILE_LINKS) (get_or L s 0))

unfoldable pub climbs_by : List ℕ → ℕ → ℕ → Bool
climbs_by P zero d = eqb d 0
climbs_by P (suc n) d = cond (eqb d 0) true (climbs_by P n (get_or P d 0))

unfoldable pub directory_sound_by : Tree → List ℕ → ℕ → Bool
directory_sound_by t P d =
    every (dirents_sound t.file (t.shown d) (t.file d FILE_LENGTH) ∷ some (eqb d 0 ∷ eqb (t.file d FILE_LINKS) 1 ∷ []) ∷ climbs_by P NAMES d ∷ [])

unfoldable pub kind_sound_by : Tree → (open_files : Table) → List ℕ → ℕ → Bool
kind_sound_by t open_files P s =
    cond (is_directory t.file (slot s)) (directory_sound_by t P s)
    (cond (is_plain t.file (slot s)) (plain_sound t open_files s)
    (cond (is_link t.file (slot s)) (link_sound t s) (all_zero (t.shown s))))

unfoldable pub slot_sound_by : Tree → (open_files : Table) → List ℕ → List ℕ → ℕ → Bool
slot_sound_by t open_files L P s = every (record_sound t.file s ∷ links_sound_by t.file L s ∷ kind_sound_by t open_files P s ∷ [])

unfoldable pub open_sound_by : (file open_files : Table) → List ℕ → ℕ → Bool
open_sound_by file open_files H e =
    every (eqb (open_files e OPEN_REFERENCES) (get_or H (e + 1) 0) ∷ cond (eqb (open_files e OPEN_REFERENCES) 0) (open_free open_files e) (open_used file open_files e) ∷ [])

-- the file of open file e has a number below `end`
unfoldable pub open_below : (open_files : Table) → (end : ℕ) → ℕ → Bool
open_below open_files end e = ltb (open_files e OPEN_SLOT) end
