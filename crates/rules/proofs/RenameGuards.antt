-- What the rules of rename are held to, by computation (paper 02, R-10), on the test console: slot 1 is /fares of user 10, slot 2 /fares/now, slot 3 /key.
-- Each fact is named after a way in which a rule could be wrong.
use Prim.Native.Nat.{ℕ, zero, suc, ◌+◌, ◌*◌}
use mathlib.Core.Path.{◌≡◌, refl}
use mathlib.Core.List.{List, [], ◌∷◌, ◌++◌}
use lib.ListN.{take, set}
use lib.Seq.{sets}
use Rattle.rules.specs.Computing.{computing}
use Rattle.rules.specs.Layout.{BLOCK, FILE_WIDTH, FILE_LENGTH, FILE_LINKS, FILE_VERSION, SLASH}
use Rattle.rules.specs.Store.{Store, fixed, store, tab, block, slot, zeros}
use Rattle.rules.specs.Directories.{dirent}
use Rattle.rules.specs.Rom.{ROM_NAME}
use Rattle.rules.specs.Calls.{Call}
use Rattle.rules.specs.Step.{act}
use Rattle.rules.specs.Console.{console, console_fixed, console_policy, FARES, KEY}
use Rattle.rules.proofs.Guards.{call, FARES_PATH, FARES_NOW, after_from, after, answer}

abbrev X : List ℕ
X = 120 ∷ []

-- /x, /fares/x, /key, /fares/fares, /today
abbrev ROOT_X : List ℕ
ROOT_X = SLASH ∷ X

abbrev FARES_X : List ℕ
FARES_X = FARES_PATH ++ ROOT_X

abbrev KEY_PATH : List ℕ
KEY_PATH = SLASH ∷ KEY

abbrev INSIDE : List ℕ
INSIDE = FARES_PATH ++ SLASH ∷ FARES

abbrev TODAY : List ℕ
TODAY = SLASH ∷ 116 ∷ []

abbrev renames : (process : ℕ) (old new : List ℕ) → Call
renames p old new = record { process = record { 0 = p }; call = 20; fd = record { 0 = 0 }; number = 0; path = old; «data» = new; buffer = [] }

-- a link by the name /t
abbrev symlinks : (text : List ℕ) → Call
symlinks text = record { process = record { 0 = 0 }; call = 18; fd = record { 0 = 0 }; number = 0; path = TODAY; «data» = text; buffer = [] }

-- three words of a record: length, links, version
abbrev counted : Store → ℕ → List ℕ
counted s d = tab FILE_WIDTH s.files d FILE_LENGTH ∷ tab FILE_WIDTH s.files d FILE_LINKS ∷ tab FILE_WIDTH s.files d FILE_VERSION ∷ []

-- ---- "both well formed and neither the root (3)"

root-renamed : (answer [] (renames 0 (SLASH ∷ []) ROOT_X)).refusal ≡ 3
unfolding computing after_from
root-renamed = refl

root-as-the-new-name : (answer [] (renames 0 FARES_NOW (SLASH ∷ []))).refusal ≡ 3
unfolding computing after_from
root-as-the-new-name = refl

-- ---- "Within one parent the place is kept"; "Slot, label, bytes and file stamp stay; each affected parent's stamp goes up once"

-- entry 1 of the root is kept, and its first stays
place-not-kept : take 48 (block (after (renames 0 KEY_PATH ROOT_X ∷ [])).contents 0) ≡ dirent FARES (slot 1) ++ dirent X (slot 3) ++ zeros 16
unfolding computing after_from
place-not-kept = refl

length-changed-by-a-rename : counted (after (renames 1 FARES_NOW FARES_X ∷ [])) 1 ≡ 1 ∷ 1 ∷ 1 ∷ []
unfolding computing after_from
length-changed-by-a-rename = refl

file-version-up : counted (after (renames 1 FARES_NOW FARES_X ∷ [])) 2 ≡ 5 ∷ 1 ∷ 0 ∷ []
unfolding computing after_from
file-version-up = refl

-- a directory may be renamed there
directory-renamed : (answer [] (renames 0 FARES_PATH ROOT_X)).refusal ≡ 0
unfolding computing after_from
directory-renamed = refl

-- ---- between two parents

old-entry-left : take 16 (block (after (renames 0 FARES_NOW ROOT_X ∷ [])).contents 1) ≡ zeros 16
unfolding computing after_from
old-entry-left = refl

-- the lowest free entry of the new parent
lowest-entry-not-taken : take 48 (block (after (renames 0 FARES_NOW ROOT_X ∷ [])).contents 0) ≡ dirent FARES (slot 1) ++ dirent KEY (slot 3) ++ dirent X (slot 2)
unfolding computing after_from
lowest-entry-not-taken = refl

parents-counted : counted (after (renames 0 FARES_NOW ROOT_X ∷ [])) 0 ++ counted (after (renames 0 FARES_NOW ROOT_X ∷ [])) 1 ≡ 3 ∷ 0 ∷ 1 ∷ 0 ∷ 1 ∷ 1 ∷ []
unfolding computing after_from
parents-counted = refl

-- "a directory may move only within its own parent, else 8", here into itself
directory-moved : (answer [] (renames 0 FARES_PATH INSIDE)).refusal ≡ 8
unfolding computing after_from
directory-moved = refl

-- "a free place (13) only where the parents differ": sixteen names of /fares/now in /fares, "A" the last
sixteen : ℕ → List ℕ
sixteen zero = []
sixteen (suc n) = dirent ((65 + n) ∷ []) (slot 2) ++ sixteen n

full : Store
full = store console.files (sets console.contents BLOCK (sixteen 16)) console.open_files console.processes

abbrev FARES_A : List ℕ
FARES_A = FARES_PATH ++ SLASH ∷ 65 ∷ []

room-asked-within : (act console_fixed full (renames 0 FARES_A FARES_X)).reply.refusal ≡ 0
unfolding computing full sixteen
room-asked-within = refl

room-not-asked : (act console_fixed full (renames 0 KEY_PATH FARES_X)).reply.refusal ≡ 13
unfolding computing full sixteen
room-not-asked = refl

-- ---- the order

-- "even if both paths are equal"
same-path-granted : (answer [] (renames 1 FARES_NOW FARES_NOW)).refusal ≡ 11
unfolding computing after_from
same-path-granted = refl

-- 11 before 8: /fares to /fares/now, which is there
kind-before-name : (answer [] (renames 0 FARES_PATH FARES_NOW)).refusal ≡ 11
unfolding computing after_from
kind-before-name = refl

-- 11 before 9
rights-before-name : (answer [] (renames 2 FARES_NOW KEY_PATH)).refusal ≡ 11
unfolding computing after_from
rights-before-name = refl

-- the old parent's label, 10, before the new parent's bits, 9: process 1 may write /fares no more by its label
relabelled : Store
relabelled = store (set console.files (FILE_WIDTH * 1 + 4) 3) console.contents console.open_files console.processes

new-parent-first : (act (fixed (set console_policy 19 5) []) relabelled (renames 1 FARES_NOW ROOT_X)).reply.refusal ≡ 10
unfolding computing relabelled
new-parent-first = refl

-- the new parent's write is asked: user 10 has none in the root
new-parent-not-asked : (answer [] (renames 1 FARES_NOW ROOT_X)).refusal ≡ 9
unfolding computing after_from
new-parent-not-asked = refl

-- 9 before 8
kind-before-rights : (answer [] (renames 1 FARES_PATH INSIDE)).refusal ≡ 9
unfolding computing after_from
kind-before-rights = refl

-- ---- "Links themselves are renamed"

link-followed : (answer (symlinks FARES_NOW ∷ renames 0 TODAY ROOT_X ∷ []) (call 0 9 0 0 ROOT_X)).fields ≡ 3 ∷ 0 ∷ 1 ∷ 0 ∷ 0 ∷ 10 ∷ 1 ∷ 0 ∷ []
unfolding computing after_from
link-followed = refl

-- "new name there", also where it is a link that leads nowhere
dangling-link-replaced : (answer (symlinks FARES_X ∷ []) (renames 0 KEY_PATH TODAY)).refusal ≡ 11
unfolding computing after_from
dangling-link-replaced = refl

-- ---- /rom and its files

rom-renamed : (act console_fixed console (renames 0 (SLASH ∷ ROM_NAME) ROOT_X)).reply.refusal ≡ 9
unfolding computing
rom-renamed = refl

moved-into-rom : (act console_fixed console (renames 0 KEY_PATH ((SLASH ∷ ROM_NAME) ++ ROOT_X))).reply.refusal ≡ 9
unfolding computing
moved-into-rom = refl
