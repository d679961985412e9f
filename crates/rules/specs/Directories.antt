-- "Directories": 16 entries (the paper's places) of 16 bytes: the name padded to 14 with 0, the slot, then 0.
-- D is what is seen of a directory: its entries. The root is seen with one more.
use Rattle.std.specs.Prelude.{ℕ, zero, suc, ◌*◌, ◌%◌, Bool, not, List, [], ◌∷◌, ◌++◌, eqb, ltb, get_or, take, drop}
use Rattle.rules.specs.Choice.{every}
use Rattle.rules.specs.Scan.{count, first}
use Rattle.rules.specs.Layout.{NAME, DIRENT_WIDTH, DIRENTS, ENTRIES}
use Rattle.rules.specs.Store.{entry}
use Rattle.rules.specs.Paths.{Name, same_name}
use Rattle.rules.specs.declared.ids.Slot.{Slot}
use Rattle.rules.specs.declared.ids.Dirent.{Dirent}

-- entry i from its first byte on
abbrev pub dirent_at : List ℕ → ℕ → List ℕ
dirent_at D i = drop (DIRENT_WIDTH * i) D

unfoldable pub dirent_slot : List ℕ → ℕ → ℕ
dirent_slot D i = get_or (dirent_at D i) NAME 0

-- no entry names the root, slot 0: an entry with slot 0 is empty
unfoldable pub is_empty : List ℕ → ℕ → Bool
is_empty D i = eqb (dirent_slot D i) 0

unfoldable pub has_name : List ℕ → Name → ℕ → Bool
has_name D name i = same_name (dirent_at D i) name

-- the entry that has the name, 17 where none has
abbrev pub dirent_of : List ℕ → Name → Dirent
dirent_of D name = entry (first (has_name D name) 0 ENTRIES)

-- the lowest free entry, 16 where there is none
abbrev pub free_dirent : List ℕ → Dirent
free_dirent D = entry (first (is_empty D) 0 DIRENTS)

-- ---- "The k-th name in byte order, from 0"

unfoldable pub differs_at : Name → Name → ℕ → Bool
differs_at m n k = not (eqb (get_or m k 0) (get_or n k 0))

-- where two names, padded with 0, first differ; 14 where they do not
abbrev pub difference : Name → Name → ℕ
difference m n = first (differs_at m n) 0 NAME

-- m comes before n: a name comes before its own continuations, since it is padded with 0
unfoldable pub precedes : Name → Name → Bool
precedes m n = every (ltb (difference m n) NAME ∷ ltb (get_or m (difference m n) 0) (get_or n (difference m n) 0) ∷ [])

-- entry j has a name that comes before that of entry i
unfoldable pub is_before : List ℕ → ℕ → ℕ → Bool
is_before D i j = every (not (is_empty D j) ∷ precedes (dirent_at D j) (dirent_at D i) ∷ [])

-- entry i has the k-th name
unfoldable pub is_ranked : List ℕ → ℕ → ℕ → Bool
is_ranked D k i = every (not (is_empty D i) ∷ eqb (count (is_before D i) 0 ENTRIES) k ∷ [])

-- the entry of the k-th name, 17 where there are not so many
abbrev pub dirent_ranked : List ℕ → ℕ → Dirent
dirent_ranked D k = entry (first (is_ranked D k) 0 ENTRIES)

unfoldable pub is_padding : Name → ℕ → Bool
is_padding n k = eqb (get_or n k 0) 0

-- the name of entry i, without its padding
unfoldable pub dirent_name : List ℕ → Dirent → Name
dirent_name D i = take (first (is_padding (dirent_at D i.0)) 0 NAME) (dirent_at D i.0)

-- ---- an entry as it is written

-- the first n elements, 0 past the end
unfoldable pub padded : ℕ → List ℕ → List ℕ
padded zero l = []
padded (suc n) l = get_or l 0 0 ∷ padded n (drop 1 l)

unfoldable pub dirent : Name → Slot → List ℕ
dirent name s = padded NAME name ++ (s.0 % 256 ∷ 0 ∷ [])
