-- The lent tables, as the rules see them.
use Rattle.std.specs.Prelude.{ℕ, List}
use Rattle.rules.specs.Layout.{FILE_WIDTH, OPEN_FILE_WIDTH}
use Rattle.rules.specs.Store.{Store, Fixed, Table, Tree, View, store, fixed, view, tab, desc_of, proc_of, shown_of, tree}
use Rattle.rules.specs.Rom.{files_in, tree_in, seen}
use Rattle.rules.specs.Calls as rules
use Rattle.rules.specs.Calls.{call_of}
use Rattle.tables.specs.declared.lent.Tables.{Tables}
use Rattle.tables.specs.declared.lent.Call.{Call}

abbrev pub store_in : Tables → Store
store_in t = store t.files.now t.contents.now t.open_files.now t.processes.now

abbrev pub fixed_in : Tables → Fixed
fixed_in t = fixed t.policy.now t.rom.now

-- the files that are stored; and with those of the factory part
abbrev pub stored : Tables → Table
stored t = tab FILE_WIDTH t.files.now

abbrev pub file_in : Tables → Table
file_in t = files_in t.files.now

abbrev pub open_in : Tables → Table
open_in t = tab OPEN_FILE_WIDTH t.open_files.now

abbrev pub proc_in : Tables → Table
proc_in t = proc_of t.processes.now

abbrev pub desc_in : Tables → Table
desc_in t = desc_of t.processes.now

-- what is shown of the slots' bytes
abbrev pub shown_in : Tables → ℕ → List ℕ
shown_in t = shown_of t.files.now t.contents.now

-- the tree as it is stored; and with the factory part
abbrev pub stored_tree : Tables → Tree
stored_tree t = tree t.files.now t.contents.now

abbrev pub tree_seen : Tables → Tree
tree_seen t = tree_in t.rom.now t.files.now t.contents.now

-- what every rule takes
abbrev pub view_in : Tables → View
view_in t = seen t.rom.now (view (store_in t))

-- ---- a call, with the reader's buffer

abbrev pub asked : Call → (buffer : List ℕ) → rules.Call
asked c buffer = call_of c.request c.path.now c.«data».now buffer
