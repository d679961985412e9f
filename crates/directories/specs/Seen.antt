-- An entry that is looked for among those that a directory is seen with, and the slot that it names.
use Rattle.std.specs.Prelude.{ℕ, cond, List, eqb}
use Rattle.rules.specs.Layout.{DIRENTS, ROM}
use Rattle.rules.specs.Store.{slot, is_dirent}
use Rattle.rules.specs.Directories.{dirent_slot}
use Rattle.rules.specs.Rom.{with_rom}
use Rattle.rules.specs.declared.ids.Slot.{Slot}
use Rattle.rules.specs.declared.ids.Dirent.{Dirent}
use Rattle.directories.specs.ByWords.{dirent_by}
use Rattle.directories.specs.declared.seen.Found.{Found}

-- the first eight bytes of "rom"
abbrev pub ROM_LOW : ℕ
ROM_LOW = 7171954

abbrev pub found : List ℕ → Dirent → Found
found D i = record { dirent = i; slot = slot (dirent_slot D i.0) }

abbrev pub found_in : List ℕ → (low high : ℕ) → Found
found_in D low high = found D (dirent_by D low high)

-- what an entry names of the root, whose own bytes are D
unfoldable pub root_slot : List ℕ → Dirent → Slot
root_slot D i = cond (is_dirent i) (slot (dirent_slot D i.0)) (cond (eqb i.0 DIRENTS) (slot ROM) (slot 0))

-- what directory s of the store is seen with, whose own bytes are D
abbrev pub store_dirents : List ℕ → ℕ → List ℕ
store_dirents D s = cond (eqb s 0) (with_rom D) D
