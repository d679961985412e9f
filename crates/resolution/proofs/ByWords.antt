-- A name looked for by its words is the name looked for by its bytes.
use Prim.Native.Nat.{ℕ, zero, suc, ◌+◌, ◌*◌}
use mathlib.Core.Path.{◌≡◌, refl, ap, ◌∙◌}
use mathlib.Core.Bool.{Bool, true, false, cond}
use mathlib.Core.List.{List, [], ◌∷◌}
use native.Mathlib.Omega.{arith}
use borrow.Author.Tests.{ltb-true}
use lib.Dec.{eqb, ltb}
use lib.ListN.{take, drop}
use lib.Seq.{get_or-drop}
use Rattle.rules.specs.Layout.{PROMPTS, ROM}
use Rattle.rules.specs.Store.{slot, block, hidden, shown_of}
use Rattle.rules.specs.Directories.{dirent_of, padded, dirent}
use Rattle.rules.specs.Rom.{ROM_NAME, prompt_count, prompt_dirents, rom_dirents, with_rom, seen_dirents, files_in, tree_in}
use Rattle.rules.specs.Paths.{Name, span, not_slash}
use Rattle.rules.specs.Walk.{searched, entered, lookup}
use Rattle.rules.specs.declared.ids.Dirent.{Dirent}
use Rattle.rules.specs.declared.request.Subject.{Subject}
use Rattle.rules.specs.declared.decision.Location.{Location}
use Rattle.rules.specs.declared.decision.Intent.{Intent}
use Rattle.rules.specs.declared.decision.Intent.TheVariants.{Find, Follow, Create}
use Rattle.rules.proofs.Tests.{both}
use Rattle.rules.proofs.Written.{bytes-append}
use Rattle.tables.specs.NameWords.{low_word, high_word}
use Rattle.directories.specs.Seen.{found}
use Rattle.directories.proofs.ByWords.{Bytes, same-dirent}
use Rattle.resolution.specs.PathNames.{name_at}
use Rattle.resolution.specs.Walks.{entered_by, lookup_by}

-- ---- bytes of parts

drop-bytes : (n : ℕ) (xs : List ℕ) → Bytes xs → Bytes (drop n xs)
drop-bytes n xs h k = rw (get_or-drop n xs k 0) (h (n + k))

take-bytes : (n : ℕ) (xs : List ℕ) → Bytes xs → Bytes (take n xs)
take-bytes zero xs h k = omega arith
take-bytes (suc n) [] h k = omega arith
take-bytes (suc n) (x ∷ xs) h zero = h 0
take-bytes (suc n) (x ∷ xs) h (suc k) = take-bytes n xs (λ j. h (suc j)) k

shown-bytes : (F C : List ℕ) (s : ℕ) → Bytes C → Bytes (shown_of F C s)
unfolding shown_of
shown-bytes F C s h = drop-bytes (hidden F s) (block C s) (take-bytes 512 (drop (512 * s) C) (drop-bytes (512 * s) C h))

padded-bytes : (n : ℕ) (xs : List ℕ) → Bytes xs → Bytes (padded n xs)
unfolding padded
padded-bytes zero xs h k = omega arith
padded-bytes (suc n) xs h zero = h 0
padded-bytes (suc n) xs h (suc k) = padded-bytes n (drop 1 xs) (drop-bytes 1 xs h) k

-- a list that is written out
unfoldable are_bytes : List ℕ → Bool
are_bytes [] = true
are_bytes (x ∷ xs) = cond (ltb x 256) (are_bytes xs) false

are-bytes : (xs : List ℕ) → are_bytes xs ≡ true → Bytes xs
unfolding are_bytes
are-bytes [] e k = omega arith
are-bytes (x ∷ xs) e zero = ltb-true x 256 (both (ltb x 256) (are_bytes xs) e).0
are-bytes (x ∷ xs) e (suc k) = are-bytes xs (both (ltb x 256) (are_bytes xs) e).1 k

-- those that a directory is seen with
seen_bytes : (R : List ℕ) (dirents : ℕ → List ℕ) (s : ℕ) → ((d : ℕ) → Bytes (dirents d)) → Bytes (seen_dirents R dirents s)
unfolding seen_dirents
seen_bytes R dirents s h = by (eqb s 0) (eqb s ROM)
  where
    by : (a b : Bool) → Bytes (cond a (with_rom (dirents 0)) (cond b (rom_dirents R) (dirents s)))
    by true b = unfold with_rom in bytes-append (padded 256 (dirents 0)) (dirent ROM_NAME (slot ROM)) (padded-bytes 256 (dirents 0) (h 0)) (are-bytes (dirent ROM_NAME (slot ROM)) (unfold are_bytes dirent padded in refl))
    by false true = take-bytes (16 * prompt_count PROMPTS R) (prompt_dirents 0 PROMPTS) (are-bytes (prompt_dirents 0 PROMPTS) (unfold are_bytes prompt_dirents dirent padded in refl))
    by false false = h s

pub name-bytes : (p : List ℕ) (start : ℕ) → Bytes p → Bytes (name_at p start)
name-bytes p start h = take-bytes (span not_slash (drop start p)) (drop start p) (drop-bytes start p h)

-- an entry that was found by its words
entered-same : (intent : Intent) (D : List ℕ) (at : Location) (k : ℕ) (i : Dirent) → entered_by intent at k (found D i) ≡ entered intent D at k i
unfolding entered_by entered
entered-same Find D at k i = refl
entered-same Follow D at k i = refl
entered-same Create D at k i = refl

abbrev dirents : (R F C : List ℕ) → Location → List ℕ
dirents R F C at = seen_dirents R (shown_of F C) at.slot.0

-- the k-th name is looked for in the directory at a location
pub by-words : (intent : Intent) (R F C Q : List ℕ) (who : Subject) (at : Location) (n : Name) (k : ℕ) → Bytes C → Bytes n
    → lookup_by intent (tree_in R F C) Q who at (low_word n) (high_word n) k ≡ lookup intent (tree_in R F C) Q who n k at
unfolding lookup_by lookup
by-words intent R F C Q who at n k bc bn =
    ap (searched (files_in F) Q who at.slot k)
    (ap (λ i. entered_by intent at k (found (dirents R F C at) i)) (same-dirent (dirents R F C at) n (seen_bytes R (shown_of F C) at.slot.0 (λ d. shown-bytes F C d bc)) bn)
    ∙ entered-same intent (dirents R F C at) at k (dirent_of (dirents R F C at) n))
