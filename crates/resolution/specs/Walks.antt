-- How the code goes along a path or a link's text: each name is looked for by its words.
use Rattle.std.specs.Prelude.{ℕ, ◌+◌, ◌-◌, ◌≤◌, ◌≡◌, Bool, List, [], ◌∷◌, leb, ltb, length, drop}
use Rattle.rules.specs.Choice.{some}
use Rattle.rules.specs.Layout.{NAMES}
use Rattle.rules.specs.Store.{Tree, is_entry}
use Rattle.rules.specs.Paths.{Name, span, is_slash, first_names}
use Rattle.rules.specs.Walk.{need_at, searched, deeper}
use Rattle.rules.specs.declared.request.Subject.{Subject}
use Rattle.rules.specs.declared.decision.Location.{Location}
use Rattle.rules.specs.declared.refusal.Refusal.TheVariants.{NameMissing}
use Rattle.rules.specs.declared.decision.Intent.{Intent}
use Rattle.rules.specs.declared.decision.Intent.TheVariants.{Find, Follow, Create}
use Rattle.rules.specs.Decisions.{Walk, Reached}
use Rattle.directories.specs.Seen.{found_in}
use Rattle.directories.specs.declared.seen.Found.{Found}
use Rattle.resolution.specs.declared.walk.Rest.{Rest}

-- an entry that was found, in the directory at a location
abbrev pub location_by : Location → Found → Location
location_by at found = record { dir = at.slot; dirent = found.dirent; slot = found.slot; depth = deeper at.depth; follows = at.follows }

abbrev pub reached_by : Location → Found → Walk
reached_by at found = Reached (location_by at found)

unfoldable pub entered_by : Intent → Location → ℕ → Found → Walk
entered_by Find at k found = need_at (is_entry found.dirent) NameMissing k (reached_by at found)
entered_by Follow at k found = need_at (is_entry found.dirent) NameMissing k (reached_by at found)
entered_by Create at k found = reached_by at found

-- the k-th name, by its words, is looked for in the directory at a location
abbrev pub found_by : Intent → Tree → Location → (low high k : ℕ) → Walk
found_by intent t at low high k = entered_by intent at k (found_in (t.dirents at.slot.0) low high)

unfoldable pub lookup_by : Intent → Tree → List ℕ → Subject → Location → (low high k : ℕ) → Walk
lookup_by intent t Q who at low high k = searched t.file Q who at.slot k (found_by intent t at low high k)

-- ---- what is left of a path

-- from `at` on, past the slashes there
abbrev pub rest_from : List ℕ → (at k : ℕ) → Rest
rest_from p at k = record { start = at + span is_slash (drop at p); k = k }

-- the path ends, or as many names were read as tell
abbrev pub none_left : List ℕ → Rest → Bool
none_left p rest = some (leb (length p) rest.start ∷ ltb (NAMES + 1) rest.k ∷ [])

abbrev pub names_left : List ℕ → Rest → List Name
names_left p rest = first_names (NAMES + 2 - rest.k) (drop rest.start p)

-- no slash stands there, and the numbers of the names are small
pub record RestOf (p : List ℕ) (rest : Rest) : Type 0 where
  pub no_slash : span is_slash (drop rest.start p) ≡ 0
  pub few : rest.k ≤ 10
