-- "Paths": 1 to 64 bytes from a slash on, 0 to 8 names of 1 to 14 bytes between runs of slashes.
use Rattle.std.specs.Prelude.{ℕ, zero, suc, ◌+◌, ◌-◌, Bool, true, false, cond, not, List, [], ◌∷◌, eqb, leb, length, get_or, take, drop}
use Rattle.rules.specs.Choice.{every, some}
use Rattle.rules.specs.Scan.{all}
use Rattle.rules.specs.Layout.{NAME, NAMES, PATH, SLASH, POINT}

abbrev pub Name : Type 0
Name = List ℕ

unfoldable pub is_slash : ℕ → Bool
is_slash b = eqb b SLASH

unfoldable pub not_slash : ℕ → Bool
not_slash b = not (eqb b SLASH)

unfoldable pub not_zero : ℕ → Bool
not_zero b = not (eqb b 0)

-- how many elements, from the front on, pass the test
unfoldable pub span : (ℕ → Bool) → List ℕ → ℕ
span t [] = 0
span t (b ∷ bs) = cond (t b) (suc (span t bs)) 0

-- "Runs of slashes count as one, also two at the start": the path after its leading slashes
unfoldable pub skip : List ℕ → List ℕ
skip p = drop (span is_slash p) p

-- the first name of p: what stands between its leading slashes and the next slash; empty where there is none
unfoldable pub next_name : List ℕ → Name
next_name p = take (span not_slash (skip p)) (skip p)

-- where the first name of p ends
unfoldable pub name_end : List ℕ → ℕ
name_end p = span is_slash p + span not_slash (skip p)

-- the first n names of p
unfoldable pub first_names : ℕ → List ℕ → List Name
first_names zero p = []
first_names (suc n) p = cond (eqb (length (next_name p)) 0) [] (next_name p ∷ first_names n (drop (name_end p) p))

-- the names of a path: a path holds at most 8, so the first 9 tell. Slashes alone mean the root: no names
abbrev pub names : List ℕ → List Name
names p = first_names (NAMES + 1) p

-- ---- names: "any byte but 0 and slash; "." and ".." are not names"

-- byte k of two names is the same, each 0 past its end
unfoldable pub same_at : Name → Name → ℕ → Bool
same_at m n k = eqb (get_or m k 0) (get_or n k 0)

-- two names, padded to 14 bytes with 0, are the same
unfoldable pub same_name : Name → Name → Bool
same_name m n = all (same_at m n) 0 NAME

unfoldable pub is_dots : Name → Bool
is_dots n = some (same_name n (POINT ∷ []) ∷ same_name n (POINT ∷ POINT ∷ []) ∷ [])

-- a name of a path, of which no byte is 0: at most 14 bytes, neither "." nor ".."
unfoldable pub name_ok : Name → Bool
name_ok n = every (leb (length n) NAME ∷ not (is_dots n) ∷ [])

unfoldable pub names_ok : List Name → Bool
names_ok [] = true
names_ok (n ∷ ns) = cond (name_ok n) (names_ok ns) false

-- ---- paths

unfoldable pub no_zero : List ℕ → Bool
no_zero p = eqb (span not_zero p) (length p)

-- 1 to 64 bytes
unfoldable pub size_ok : List ℕ → Bool
size_ok p = every (leb 1 (length p) ∷ leb (length p) PATH ∷ [])

-- the first a slash, none 0
unfoldable pub shape_ok : List ℕ → Bool
shape_ok p = every (size_ok p ∷ is_slash (get_or p 0 0) ∷ no_zero p ∷ [])

-- "a slash after the last name is refused": no names, or the last byte is no slash
unfoldable pub end_ok : List ℕ → Bool
end_ok p = some (eqb (length (names p)) 0 ∷ not_slash (get_or p (length p - 1) 0) ∷ [])

-- at most 8 names, each a name
unfoldable pub names_fit : List Name → Bool
names_fit ns = every (leb (length ns) NAMES ∷ names_ok ns ∷ [])

unfoldable pub path_ok : List ℕ → Bool
path_ok p = every (shape_ok p ∷ names_fit (names p) ∷ end_ok p ∷ [])

unfoldable pub is_root : List ℕ → Bool
is_root p = eqb (length (names p)) 0

abbrev pub last_name : List Name → Name
last_name ns = get_or ns (length ns - 1) []
