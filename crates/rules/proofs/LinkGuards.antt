-- What the rules of symbolic links are held to, by computation (paper 02, R-5): walks on a small tree, and calls on the test console. Each fact is named
-- after a way in which a rule could be wrong.
use Prim.Native.Nat.{ℕ}
use mathlib.Core.Path.{◌≡◌, refl}
use mathlib.Core.List.{List, [], ◌∷◌, ◌++◌}
use lib.ListN.{take}
use Rattle.rules.specs.Computing.{computing}
use Rattle.rules.specs.Layout.{BLOCK, FILE_WIDTH, FILE_BITS, ENTRIES, PLAIN, DIRECTORY, SLASH}
use Rattle.rules.specs.Store.{Tree, tree, slot, entry, bits_at, tab}
use Rattle.rules.specs.Directories.{dirent}
use Rattle.rules.specs.Walk.{walk_path, follow_path}
use Rattle.rules.specs.Calls.{Call}
use Rattle.rules.specs.DecidePaths.{new_file, create_at}
use Rattle.rules.specs.Console.{filled}
use Rattle.rules.specs.declared.request.Subject.{Subject}
use Rattle.rules.specs.declared.refusal.Refusal.TheVariants.{NameMissing, TooDeep, TableFull}
use Rattle.rules.specs.declared.decision.Location.{Location}
use Rattle.rules.specs.Decisions.{Reached, Stopped, Decision, Refused}
use Rattle.rules.proofs.Guards.{call, opens, answer, after, after_from, FARES_NOW}

-- ---- a small tree. Its root is full: /f is plain; /0 leads to /f, and each of /1 to /8 to the one before; /d is a directory; /z leads to
-- /d/u/u/u/u/u/u/u; four more names are /f's. In /d, u leads to /d, and w nowhere.

abbrev plain : List ℕ
plain = PLAIN ∷ 0 ∷ 0 ∷ 0 ∷ 0 ∷ 0 ∷ 5 ∷ 0 ∷ []

-- of n names
abbrev directory : ℕ → List ℕ
directory n = DIRECTORY ∷ 0 ∷ 0 ∷ 0 ∷ 0 ∷ n ∷ 1 ∷ 0 ∷ []

-- of n bytes
abbrev link : ℕ → List ℕ
link n = 3 ∷ 0 ∷ 0 ∷ 0 ∷ 0 ∷ n ∷ 1 ∷ 0 ∷ []

-- a name of one letter, and a path of one such name
abbrev name : (letter target : ℕ) → List ℕ
name c s = dirent (c ∷ []) (slot s)

abbrev path : ℕ → List ℕ
path c = SLASH ∷ c ∷ []

-- /d/u .. with seven names u
abbrev IN_TURN : List ℕ
IN_TURN = path 100 ++ path 117 ++ path 117 ++ path 117 ++ path 117 ++ path 117 ++ path 117 ++ path 117

abbrev files : List ℕ
files =
    directory 16 ++ plain ++ link 2 ++ link 2 ++ link 2 ++ link 2 ++ link 2 ++ link 2 ++ link 2 ++ link 2 ++ link 2 ++ directory 2 ++ link 2 ++ link 16 ++ link 2

abbrev chained : List ℕ
chained =
    filled BLOCK (path 102) ++ filled BLOCK (path 48) ++ filled BLOCK (path 49) ++ filled BLOCK (path 50) ++ filled BLOCK (path 51) ++ filled BLOCK (path 52) ++ filled BLOCK (path 53)
    ++ filled BLOCK (path 54) ++ filled BLOCK (path 55)

abbrev root : List ℕ
root =
    name 102 1 ++ name 48 2 ++ name 49 3 ++ name 50 4 ++ name 51 5 ++ name 52 6 ++ name 53 7 ++ name 54 8 ++ name 55 9 ++ name 56 10 ++ name 100 11 ++ name 122 13
    ++ name 65 1 ++ name 66 1 ++ name 67 1 ++ name 68 1

abbrev contents : List ℕ
contents =
    filled BLOCK root ++ filled BLOCK [] ++ chained ++ filled BLOCK (name 117 12 ++ name 119 14) ++ filled BLOCK (path 100) ++ filled BLOCK IN_TURN ++ filled BLOCK (path 110)

abbrev small : Tree
small = tree files contents

-- user 0, by a policy that lets label 0 do all to label 0
abbrev who : Subject
who = record { user = 0; group = 0; label = 0 }

abbrev policy : List ℕ
policy = 7 ∷ []

-- ---- walks

-- /8 itself
followed-at-the-last-name : walk_path small policy who (path 56) ≡ Reached (record { dir = slot 0; dirent = entry 9; slot = slot 10; depth = 1; follows = 8 })
unfolding computing
followed-at-the-last-name = refl

-- /7, eight links to /f; and /8
eight-in-a-chain : follow_path small policy who (path 55) ≡ Reached (record { dir = slot 0; dirent = entry 0; slot = slot 1; depth = 1; follows = 0 })
unfolding computing
eight-in-a-chain = refl

nine-in-a-chain : follow_path small policy who (path 56) ≡ Stopped TooDeep 1
unfolding computing
nine-in-a-chain = refl

-- "at most 8 follows in one walk": /z, itself and seven in its text; and one more at the second name
eight-in-turn : follow_path small policy who (path 122) ≡ Reached (record { dir = slot 0; dirent = entry 10; slot = slot 11; depth = 1; follows = 0 })
unfolding computing
eight-in-turn = refl

nine-in-turn : follow_path small policy who (path 122 ++ path 117) ≡ Stopped TooDeep 2
unfolding computing
nine-in-turn = refl

-- "Stop numbers count names of the caller's path": the text's own name is the first
stop-in-the-text : follow_path small policy who (path 100 ++ path 119) ≡ Stopped NameMissing 2
unfolding computing
stop-in-the-text = refl

-- a text starts at the root again: /d/u/u lies two names deep by its path, and one by the walk
depth-of-the-path : follow_path small policy who (path 100 ++ path 117 ++ path 117) ≡ Reached (record { dir = slot 0; dirent = entry 10; slot = slot 11; depth = 1; follows = 6 })
unfolding computing
depth-of-the-path = refl

-- ---- "A directory that would lie over 8 names deep through links is refused with 15, before 13": a new name in the root, which is full, and in /d

abbrev new_at : (dir depth : ℕ) → Location
new_at d n = record { dir = slot d; dirent = entry ENTRIES; slot = slot 0; depth = n; follows = 8 }

abbrev made : (kind : ℕ) → Location → Decision
made kind at = create_at policy small.file small.shown who (new_file kind (bits_at 7)) at

depth-not-asked : made DIRECTORY (new_at 11 9) ≡ Refused TooDeep 0
unfolding computing
depth-not-asked = refl

depth-after-room : made DIRECTORY (new_at 0 9) ≡ Refused TooDeep 0
unfolding computing
depth-after-room = refl

depth-of-a-file : made PLAIN (new_at 0 9) ≡ Refused TableFull 0
unfolding computing
depth-of-a-file = refl

-- ---- calls: /t leads to /fares/now

abbrev TODAY : List ℕ
TODAY = path 116

-- its number, which is not looked at, is 7
abbrev symlinks : Call
symlinks = record { process = record { 0 = 0 }; call = 18; fd = record { 0 = 0 }; number = 7; path = TODAY; «data» = FARES_NOW; buffer = [] }

abbrev hard_links : Call
hard_links = record { process = record { 0 = 0 }; call = 6; fd = record { 0 = 0 }; number = 0; path = TODAY; «data» = path 104; buffer = [] }

link-bits-as-given : tab FILE_WIDTH (after (symlinks ∷ [])).files 4 FILE_BITS ≡ 0
unfolding computing after_from
link-bits-as-given = refl

-- "Stat shows the link itself": its kind
stat-follows : take 1 (answer (symlinks ∷ []) (call 2 9 0 0 TODAY)).fields ≡ 3 ∷ []
unfolding computing after_from
stat-follows = refl

open-does-not-follow : (answer (symlinks ∷ []) (opens 2 TODAY 1)).refusal ≡ 0
unfolding computing after_from
open-does-not-follow = refl

-- "and one to read its text": the ten bytes of /fares/now
text-one-short : take 11 (answer (symlinks ∷ []) (call 2 19 0 0 TODAY)).buffer ≡ FARES_NOW ++ 255 ∷ []
unfolding computing after_from
text-one-short = refl

-- "hard-linking it is 8"
hard-link-to-a-link : (answer (symlinks ∷ []) hard_links).refusal ≡ 8
unfolding computing after_from
hard-link-to-a-link = refl
