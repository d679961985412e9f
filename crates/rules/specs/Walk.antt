-- "A path is resolved one name at a time, from the root".
use Rattle.std.specs.Prelude.{ℕ, zero, suc, ◌+◌, ◌-◌, Bool, true, false, cond, Ok, Err, List, [], ◌∷◌, eqb, ltb, leb, take}
use Rattle.rules.specs.Choice.{every, implies}
use Rattle.rules.specs.Decisions.{Walk, Reached, Stopped}
use Rattle.rules.specs.Layout.{FILE_KIND, FILE_OWNER, FILE_GROUP, FILE_BITS, FILE_LABEL, FILE_LENGTH, DIRECTORY, PLAIN, LINK, NAMES, FOLLOWS}
use Rattle.rules.specs.Store.{Table, Tree, slot, is_slot, entry, is_entry, bits_at}
use Rattle.rules.specs.Rights.{EXECUTE, bits_grant, asks_write, label_grants}
use Rattle.rules.specs.Paths.{Name, names}
use Rattle.rules.specs.Directories.{dirent_of, dirent_slot}
use Rattle.rules.specs.declared.ids.Slot.{Slot}
use Rattle.rules.specs.declared.ids.Dirent.{Dirent}
use Rattle.rules.specs.declared.rights.Rights.{Rights}
use Rattle.rules.specs.declared.request.Subject.{Subject}
use Rattle.rules.specs.declared.refusal.Refusal.{Refusal}
use Rattle.rules.specs.declared.refusal.Refusal.TheVariants.{NameMissing, NotADirectory, BitsForbid, LabelForbids, TooDeep}
use Rattle.rules.specs.declared.decision.Location.{Location}
use Rattle.rules.specs.declared.decision.Intent.{Intent}
use Rattle.rules.specs.declared.decision.Intent.TheVariants.{Find, Follow, Create}

abbrev pub is_directory : Table → Slot → Bool
is_directory file s = eqb (file s.0 FILE_KIND) DIRECTORY

abbrev pub is_plain : Table → Slot → Bool
is_plain file s = eqb (file s.0 FILE_KIND) PLAIN

-- a symbolic link
abbrev pub is_link : Table → Slot → Bool
is_link file s = eqb (file s.0 FILE_KIND) LINK

-- the subject has the rights over slot s, by its bits and by its label. "Whatever would change /rom or its files .. gets 9 for user 0 too, where bits are
-- asked"
unfoldable pub bits_allow : Table → Subject → Slot → Rights → Bool
bits_allow file who s want =
    every (bits_grant who (file s.0 FILE_OWNER) (file s.0 FILE_GROUP) (bits_at (file s.0 FILE_BITS)) want ∷ implies (asks_write want) (is_slot s) ∷ [])

abbrev pub label_allows : Table → List ℕ → Subject → Slot → Rights → Bool
label_allows file Q who s want = label_grants Q who (file s.0 FILE_LABEL) want

-- a check at the k-th name: what follows, or the refusal with the name's number
unfoldable pub need_at : Bool → Refusal → ℕ → Walk → Walk
need_at true r k w = w
need_at false r k w = Stopped r k

unfoldable pub on_reached : Walk → (Location → Walk) → Walk
on_reached (Ok at) f = f at
on_reached (Err stop) f = Err stop

-- "the directory at hand must be a directory (7), searchable by bits (9), by label (10)", and then what follows
abbrev pub searched : Table → List ℕ → Subject → Slot → ℕ → Walk → Walk
searched file Q who d k rest =
    need_at (is_directory file d) NotADirectory k
    (need_at (bits_allow file who d EXECUTE) BitsForbid k
    (need_at (label_allows file Q who d EXECUTE) LabelForbids k rest))

-- one name deeper; past 8 it stays, since no directory lies deeper
unfoldable pub deeper : ℕ → ℕ
deeper d = cond (leb d NAMES) (d + 1) d

-- entry i of the directory at a location, whose bytes are D
abbrev pub reached : List ℕ → Location → Dirent → Walk
reached D at i = Reached (record { dir = at.slot; dirent = i; slot = slot (dirent_slot D i.0); depth = deeper at.depth; follows = at.follows })

-- "and hold the name (6)", but for a new name, whose entry is 17 where it is missing
unfoldable pub entered : Intent → List ℕ → Location → ℕ → Dirent → Walk
entered Find D at k i = need_at (is_entry i) NameMissing k (reached D at i)
entered Follow D at k i = need_at (is_entry i) NameMissing k (reached D at i)
entered Create D at k i = reached D at i

abbrev pub found : Intent → Tree → Location → Name → ℕ → Walk
found intent t at name k = entered intent (t.dirents at.slot.0) at k (dirent_of (t.dirents at.slot.0) name)

-- the k-th name is looked for in the directory at a location
unfoldable pub lookup : Intent → Tree → List ℕ → Subject → Name → ℕ → Location → Walk
lookup intent t Q who name k at = searched t.file Q who at.slot k (found intent t at name k)

-- ---- symbolic links: "Resolving a path and following a link call for each other, at most 8 follows in one walk; a ninth is refusal 15"

-- the root, where so many links may still be followed
abbrev pub start : ℕ → Location
start follows = record { dir = slot 0; dirent = entry 0; slot = slot 0; depth = 0; follows = follows }

-- a link's text
abbrev pub link_text : Tree → Slot → List ℕ
link_text t s = take (t.file s.0 FILE_LENGTH) (t.shown s.0)

-- "Stop numbers count names of the caller's path": a refusal out of a text counts at the name that met the link
unfoldable pub stop_at : ℕ → Walk → Walk
stop_at k (Ok at) = Reached at
stop_at k (Err stop) = Stopped stop.refusal k

-- what is looked up to be followed
unfoldable pub follows : Intent → Bool
follows Find = false
follows Follow = true
follows Create = false

-- a link met at the k-th name, if it is to be followed; `text` is the walk along its text, from the root
unfoldable pub follow_by : (text : Location → Walk) → Table → Intent → ℕ → Location → Walk
follow_by text file intent k at =
    cond (every (follows intent ∷ is_link file at.slot ∷ []))
    (need_at (ltb 0 at.follows) TooDeep k (stop_at k (text (start (at.follows - 1)))))
    (Reached at)

-- "A link met before the last name is always followed": the intent is that of the last name
unfoldable pub here : (after : List Name) → Intent → Intent
here [] intent = intent
here (n ∷ ns) intent = Follow

-- from a location along the names, of which the first is the k-th of the path; `follow` takes each location that a lookup finds
unfoldable pub walk_by : (follow : Intent → ℕ → Location → Walk) → Intent → Tree → List ℕ → Subject → Location → ℕ → List Name → Walk
walk_by follow intent t Q who at k [] = Reached at
walk_by follow intent t Q who at k (n ∷ ns) =
    on_reached (on_reached (lookup (here ns intent) t Q who n k at) (follow (here ns intent) k)) (λ next. walk_by follow intent t Q who next (k + 1) ns)

-- a link's text is walked along to its last name, which is followed too. That d is at least the follows left makes the definition end
unfoldable pub follower : (d : ℕ) → Tree → List ℕ → Subject → Intent → ℕ → Location → Walk
follower zero t Q who intent k at = follow_by (λ from. Stopped TooDeep k) t.file intent k at
follower (suc d) t Q who intent k at = follow_by (λ from. walk_by (follower d t Q who) Follow t Q who from 1 (names (link_text t at.slot))) t.file intent k at

abbrev pub walk : Intent → Tree → List ℕ → Subject → Location → ℕ → List Name → Walk
walk intent t Q who at k ns = walk_by (follower FOLLOWS t Q who) intent t Q who at k ns

-- ---- a path, from the root

abbrev pub ROOT : Location
ROOT = start FOLLOWS

-- "at the last name only by open, execute, list and change bits": to the link itself
abbrev pub walk_path : Tree → List ℕ → Subject → List ℕ → Walk
walk_path t Q who path = walk Find t Q who ROOT 1 (names path)

-- and to where it leads
abbrev pub follow_path : Tree → List ℕ → Subject → List ℕ → Walk
follow_path t Q who path = walk Follow t Q who ROOT 1 (names path)

-- "The three checks of a directory count at the name looked for in it, also where a call walks only to the parent": into the parent of the last
-- name, and to that name's entry there
abbrev pub walk_new : Tree → List ℕ → Subject → List ℕ → Walk
walk_new t Q who path = walk Create t Q who ROOT 1 (names path)
