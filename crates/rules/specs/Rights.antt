-- Rights, permission bits and open modes: their numbers, and when the bits and the labels grant a right.
use Rattle.std.specs.Prelude.{ℕ, ◌+◌, ◌-◌, ◌*◌, ◌/◌, ◌%◌, Bool, true, false, cond, not, Option, Some, None, is_some, List, [], ◌∷◌, eqb, leb, get_or}
use Rattle.rules.specs.Choice.{every, some, implies}
use Rattle.rules.specs.Decisions.{Keep, Truncate}
use Rattle.rules.specs.Layout.{LABELS, RIGHTS_SIZE, NO_TRANSITION, RIGHTS_MAX, BITS_MAX, MODE_MAX}
use Rattle.rules.specs.declared.rights.Rights.{Rights}
use Rattle.rules.specs.declared.rights.Bits.{Bits}
use Rattle.rules.specs.declared.rights.OpenMode.{OpenMode}
use Rattle.rules.specs.declared.rights.OpenFlags.{OpenFlags}
use Rattle.rules.specs.declared.request.Subject.{Subject}

-- ---- "Rights are read 4, write 2, search or execute 1"

abbrev pub READ : Rights
READ = record { 0 = 4 }

abbrev pub WRITE : Rights
WRITE = record { 0 = 2 }

abbrev pub READ_WRITE : Rights
READ_WRITE = record { 0 = 6 }

-- of a plain file, execute it; of a directory, search it
abbrev pub EXECUTE : Rights
EXECUTE = record { 0 = 1 }

-- a set of rights, 0 to 7
unfoldable pub rights_of : ℕ → Option Rights
rights_of n = cond (leb n RIGHTS_MAX) (Some (record { 0 = n })) None

abbrev pub rights_known : ℕ → Bool
rights_known n = is_some (rights_of n)

-- permission bits, 0 to 511
unfoldable pub bits_of : ℕ → Option Bits
bits_of n = cond (leb n BITS_MAX) (Some (record { 0 = n })) None

abbrev pub bits_known : ℕ → Bool
bits_known n = is_some (bits_of n)

-- ---- "mode 1 read, 2 write, 3 both, 4 append, plus 8 to cut to empty (not with 1)"

abbrev pub MODE_READ : OpenMode
MODE_READ = record { 0 = 1 }

abbrev pub MODE_WRITE : OpenMode
MODE_WRITE = record { 0 = 2 }

abbrev pub MODE_BOTH : OpenMode
MODE_BOTH = record { 0 = 3 }

abbrev pub MODE_APPEND : OpenMode
MODE_APPEND = record { 0 = 4 }

-- what is added to a mode's number to cut the file
abbrev pub TRUNCATE : ℕ
TRUNCATE = 8

unfoldable pub mode_of : ℕ → Option OpenFlags
mode_of n =
    cond (every (leb 1 n ∷ leb n MODE_MAX ∷ [])) (Keep (record { 0 = n }))
    (cond (every (leb (TRUNCATE + 2) n ∷ leb n (TRUNCATE + MODE_MAX) ∷ [])) (Truncate (record { 0 = n - TRUNCATE }))
    None)

abbrev pub mode_known : Option OpenFlags → Bool
mode_known m = is_some m

-- the mode of an open file: "1 to 4; the 8 of a cutting open is not kept"
unfoldable pub mode_kept : Option OpenFlags → Bool
mode_kept (Some flags) = not flags.truncates
mode_kept None = false

-- the rights that an open asks: "write for append too"
unfoldable pub mode_rights : OpenMode → Rights
mode_rights m = cond (eqb m.0 MODE_READ.0) READ (cond (eqb m.0 MODE_BOTH.0) READ_WRITE WRITE)

-- a file is open for reading in modes 1 and 3, for writing in all but 1
unfoldable pub reads : OpenMode → Bool
reads m = some (eqb m.0 MODE_READ.0 ∷ eqb m.0 MODE_BOTH.0 ∷ [])

unfoldable pub writes : OpenMode → Bool
writes m = cond (eqb m.0 MODE_READ.0) false true

unfoldable pub appends : OpenMode → Bool
appends m = eqb m.0 MODE_APPEND.0

-- ---- who may

-- the lowest right of want, if wanted, stands in held
unfoldable pub stands : ℕ → ℕ → Bool
stands held want = implies (eqb (want % 2) 1) (eqb (held % 2) 1)

-- all wanted rights, each its own bit, stand in those held: right 4, right 2, right 1
unfoldable pub covers : Rights → Rights → Bool
covers held want = every (stands (held.0 / 4) (want.0 / 4) ∷ stands (held.0 / 2) (want.0 / 2) ∷ stands held.0 want.0 ∷ [])

-- "POSIX judges the owner by the owner's bits, else a member of the file's group by the group's, else by the others'": the first that fits decides
-- alone. Only the lowest three digits of what it gives are looked at
unfoldable pub rights_in : Subject → (owner group : ℕ) → Bits → Rights
rights_in who owner group b = cond (eqb who.user owner) (record { 0 = b.0 / 64 }) (cond (eqb who.group group) (record { 0 = b.0 / 8 }) (record { 0 = b.0 }))

-- "User 0 passes"; anyone else if all wanted rights stand in the bits
unfoldable pub bits_grant : Subject → (owner group : ℕ) → Bits → Rights → Bool
bits_grant who owner group b want = some (eqb who.user 0 ∷ covers (rights_in who owner group b) want ∷ [])

-- write is among the rights asked
unfoldable pub asks_write : Rights → Bool
asks_write want = eqb (want.0 / 2 % 2) 1

-- one of the three execute bits is set
unfoldable pub executable : Bits → Bool
executable b = some (stands (b.0 / 64) EXECUTE.0 ∷ stands (b.0 / 8) EXECUTE.0 ∷ stands b.0 EXECUTE.0 ∷ [])

-- "User 0 passes, but executing needs at least one execute bit set"
unfoldable pub bits_execute : Subject → (owner group : ℕ) → Bits → Bool
bits_execute who owner group b = cond (eqb who.user 0) (executable b) (covers (rights_in who owner group b) EXECUTE)

-- "owner or user 0"
unfoldable pub owns : Subject → (owner : ℕ) → Bool
owns who owner = some (eqb who.user 0 ∷ eqb who.user owner ∷ [])

-- the policy's rights of process label l over file label m
unfoldable pub policy_rights : List ℕ → ℕ → ℕ → Rights
policy_rights Q l m = record { 0 = get_or Q (LABELS * l + m) 0 }

-- "The labels grant it if the policy row holds all wanted rights; this binds user 0 too"
unfoldable pub label_grants : List ℕ → Subject → (label : ℕ) → Rights → Bool
label_grants Q who label want = covers (policy_rights Q who.label label) want

-- the transition from process label l by program label m: a label, or 255 for none
unfoldable pub transition : List ℕ → ℕ → ℕ → ℕ
transition Q l m = get_or Q (RIGHTS_SIZE + (LABELS * l + m)) 0

-- "The label moves by the transition, if any"
unfoldable pub moved : List ℕ → ℕ → ℕ → ℕ
moved Q l m = cond (eqb (transition Q l m) NO_TRANSITION) l (transition Q l m)
