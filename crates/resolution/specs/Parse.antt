-- How the code reads a path: in one pass, by tests of bytes.
use Rattle.std.specs.Prelude.{ℕ, zero, suc, ◌+◌, ◌-◌, ◌<◌, ◌≡◌, Option, Some, None, Bool, false, cond, not, List, [], ◌∷◌, eqb, leb, length, get_or, take, drop}
use Rattle.rules.specs.Choice.{every, some}
use Rattle.rules.specs.Layout.{NAME, NAMES, PATH}
use Rattle.rules.specs.Paths.{Name, is_slash, not_slash, not_zero, span, skip, is_dots}

-- a byte that may stand in a name
unfoldable pub inner : ℕ → Bool
inner b = every (not_slash b ∷ not_zero b ∷ [])

-- each answer of a test is that of t
abbrev pub Tests : (ℕ → Bool → Type 0) → (ℕ → Bool) → Type 0
Tests post t = (x : ℕ) (r : Bool) → x < 256 → post x r → r ≡ t x

-- ---- words: a word ends at a slash or at a 0, so that after a 0 there is an empty one

unfoldable pub word : List ℕ → Name
word q = take (span inner (skip q)) (skip q)

unfoldable pub word_end : List ℕ → ℕ
word_end q = span is_slash q + span inner (skip q)

-- a word that is a name
unfoldable pub word_ok : Name → Bool
word_ok w = every (leb 1 (length w) ∷ leb (length w) NAME ∷ not (is_dots w) ∷ [])

-- the words of q, fewer than n and each a name, after k others
unfoldable pub words_read : ℕ → List ℕ → ℕ → Option ℕ
words_read zero q k = None
words_read (suc n) q k = cond (eqb (length (skip q)) 0) (Some k) (cond (word_ok (word q)) (words_read n (drop (word_end q) q) (k + 1)) None)

-- ---- the path: its start, its words, its end

-- 1 to 64 bytes, of which the first is a slash
unfoldable pub start_ok : List ℕ → Bool
start_ok p = every (leb 1 (length p) ∷ leb (length p) PATH ∷ is_slash (get_or p 0 0) ∷ [])

-- the last byte is no slash
abbrev pub last_ok : List ℕ → Bool
last_ok p = not_slash (get_or p (length p - 1) 0)

-- k names, and no slash after the last
unfoldable pub ended : List ℕ → ℕ → Option ℕ
ended p k = cond (some (eqb k 0 ∷ last_ok p ∷ [])) (Some k) None

unfoldable pub on_read : List ℕ → Option ℕ → Option ℕ
on_read p (Some k) = ended p k
on_read p None = None

unfoldable pub parsed_by : List ℕ → Option ℕ
parsed_by p = cond (start_ok p) (on_read p (words_read (NAMES + 1) p 0)) None

-- a parsed path has names
unfoldable pub has_names : Option ℕ → Bool
has_names None = false
has_names (Some k) = not (eqb k 0)
