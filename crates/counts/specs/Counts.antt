-- One pass over the entries of all directories counts the links of every slot and finds its parent; one over the descriptors counts the holders of
-- every open file. A pass goes from the last to the first, so that the lowest directory is the last to claim a slot.
use Rattle.std.specs.Prelude.{ℕ, ◌+◌, cond, List, eqb, get_or, set, replicate}
use Rattle.rules.specs.Scan.{fold}
use Rattle.rules.specs.Layout.{SLOTS, DIRENTS, OPEN_FILES, PROCESSES, DESCRIPTORS}
use Rattle.rules.specs.Store.{Tree, slot, up}
use Rattle.rules.specs.Directories.{dirent_slot}
use Rattle.rules.specs.Walk.{is_directory}

-- One more at k. An empty entry names slot 0, a descriptor that holds nothing is 0: that is not counted.
unfoldable pub counted : ℕ → List ℕ → List ℕ
counted k L = cond (eqb k 0) L (set L k (up (get_or L k 0)))

-- d stands at k
unfoldable pub claimed : ℕ → ℕ → List ℕ → List ℕ
claimed k d P = cond (eqb k 0) P (set P k d)

unfoldable pub entry_counted : List ℕ → ℕ → List ℕ → List ℕ
entry_counted D i L = counted (dirent_slot D i) L

unfoldable pub slot_counted : Tree → ℕ → List ℕ → List ℕ
slot_counted t d L = cond (is_directory t.file (slot d)) (fold (entry_counted (t.shown d)) 0 DIRENTS L) L

-- directory d claims the slot that its entry i names
unfoldable pub entry_claimed : List ℕ → ℕ → ℕ → List ℕ → List ℕ
entry_claimed D d i P = claimed (dirent_slot D i) d P

unfoldable pub slot_claimed : Tree → ℕ → List ℕ → List ℕ
slot_claimed t d P = cond (is_directory t.file (slot d)) (fold (entry_claimed (t.shown d) d) 0 DIRENTS P) P

-- The slots, and one past the last: the way up from a directory that nothing names leads there.
abbrev pub SLOTS_AND_NONE : ℕ
SLOTS_AND_NONE = SLOTS + 1

abbrev pub no_links : List ℕ
no_links = replicate SLOTS_AND_NONE 0

abbrev pub no_parents : List ℕ
no_parents = replicate SLOTS_AND_NONE SLOTS

abbrev pub links : Tree → List ℕ
links t = fold (slot_counted t) 0 SLOTS no_links

abbrev pub parents : Tree → List ℕ
parents t = fold (slot_claimed t) 0 SLOTS no_parents

-- what descriptor i of process p holds: 0 nothing, e + 1 open file e
unfoldable pub desc_counted : (ℕ → ℕ → ℕ) → ℕ → ℕ → List ℕ → List ℕ
desc_counted desc p i H = counted (desc p i) H

unfoldable pub proc_counted : (ℕ → ℕ → ℕ) → ℕ → List ℕ → List ℕ
proc_counted desc p H = fold (desc_counted desc p) 0 DESCRIPTORS H

-- what descriptors hold: nothing, or one of the open files
abbrev pub HELD : ℕ
HELD = OPEN_FILES + 1

abbrev pub no_holders : List ℕ
no_holders = replicate HELD 0

abbrev pub held : (ℕ → ℕ → ℕ) → List ℕ
held desc = fold (proc_counted desc) 0 PROCESSES no_holders
