-- What the rules are held to, by computation on the test console: one fact for each way in which a rule could be wrong, named after it. Each has an
-- edit of specs/ in must-fail/ that breaks it. The calls are made by `act`, with no soundness test.
use Prim.Native.Nat.{ℕ, ◌*◌, ◌+◌}
use mathlib.Core.Path.{◌≡◌, refl}
use mathlib.Core.Bool.{true, false}
use mathlib.Core.List.{List, [], ◌∷◌, ◌++◌}
use lib.ListN.{take, set, replicate}
use Rattle.rules.specs.Computing.{computing}
use Rattle.rules.specs.Layout.{FILE_WIDTH, FILE_KIND, FILE_GROUP, FILE_VERSION, PLAIN, PROCESS_LABEL, WORD_MAX, SLASH}
use Rattle.rules.specs.Store.{Store, store, tab, proc_of, block}
use Rattle.rules.specs.Sound.{policy_sound, sizes_sound}
use Rattle.rules.specs.Calls.{Call}
use Rattle.rules.specs.Step.{Reply, act}
use Rattle.rules.specs.Console.{console, console_fixed, console_policy, FARES, NOW, KEY}

console-sizes : sizes_sound console ≡ true
unfolding computing
console-sizes = refl

console-policy : policy_sound console_policy ≡ true
unfolding computing
console-policy = refl

-- ---- calls, with a buffer of 16 bytes

abbrev pub call : (process call fd number : ℕ) (path : List ℕ) → Call
call p n i number path = record { process = record { 0 = p }; call = n; fd = record { 0 = i }; number = number; path = path; «data» = []; buffer = replicate 16 255 }

abbrev pub opens : (process : ℕ) (path : List ℕ) (mode : ℕ) → Call
opens p path mode = call p 1 0 mode path

abbrev pub creates : (process : ℕ) (path : List ℕ) → Call
creates p path = call p 2 0 7 path

abbrev unlinks : (process : ℕ) (path : List ℕ) → Call
unlinks p path = call p 4 0 0 path

abbrev changes_bits : (process : ℕ) (path : List ℕ) (bits : ℕ) → Call
changes_bits p path bits = call p 8 0 bits path

abbrev pub reads : (process fd : ℕ) → Call
reads p i = call p 11 i 0 []

abbrev executes : (process : ℕ) (path : List ℕ) → Call
executes p path = call p 17 0 0 path

abbrev forks : (process : ℕ) → Call
forks p = call p 15 0 0 []

-- /fares, /fares/now, /fares/x, /key
abbrev pub FARES_PATH : List ℕ
FARES_PATH = SLASH ∷ FARES

abbrev pub FARES_NOW : List ℕ
FARES_NOW = FARES_PATH ++ SLASH ∷ NOW

abbrev FARES_X : List ℕ
FARES_X = FARES_PATH ++ SLASH ∷ 120 ∷ []

abbrev KEY_PATH : List ℕ
KEY_PATH = SLASH ∷ KEY

-- the store after the calls, and the answer to one more
unfoldable pub after_from : Store → List Call → Store
after_from s [] = s
after_from s (c ∷ cs) = after_from (act console_fixed s c).store cs

abbrev pub after : List Call → Store
after cs = after_from console cs

abbrev pub answer : List Call → Call → Reply
answer cs c = (act console_fixed (after cs) c).reply

-- the bytes of /fares/now, slot 2
abbrev fare_bytes : Store → List ℕ
fare_bytes s = take 5 (block s.contents 2)

-- ---- who may

-- "this binds user 0 too"
user-0-past-the-labels : (answer [] (opens 0 KEY_PATH 1)).refusal ≡ 10
unfolding computing after_from
user-0-past-the-labels = refl

-- "Bits are asked before labels"
labels-before-bits : (answer [] (opens 2 KEY_PATH 2)).refusal ≡ 9
unfolding computing after_from
labels-before-bits = refl

-- "searchable by bits (9), by label (10), and hold the name (6)"
missing-before-bits-in-the-walk : (answer (changes_bits 1 FARES_PATH 4 ∷ []) (opens 2 FARES_X 1)).refusal ≡ 9
unfolding computing after_from
missing-before-bits-in-the-walk = refl

-- "3 both": right 2 over a label is not enough
both-asks-only-write : (answer [] (opens 1 KEY_PATH 3)).refusal ≡ 10
unfolding computing after_from
both-asks-only-write = refl

-- "not open for that direction"
read-in-mode-2 : (answer (opens 1 KEY_PATH 2 ∷ []) (reads 1 0)).refusal ≡ 5
unfolding computing after_from
read-in-mode-2 = refl

-- ---- owner, group and others (paper 02, R-4). /fares/now belongs to user 10 and to group 1; process 2 is user 20 of group 1

-- "Document 01 followed source document 001, where an owner always passes": bits 044 shut the owner out
owner-passes : (answer (changes_bits 1 FARES_NOW 36 ∷ []) (opens 1 FARES_NOW 1)).refusal ≡ 9
unfolding computing after_from
owner-passes = refl

-- "else": bits 0704 shut the group out, though others may read
group-or-others : (answer (changes_bits 1 FARES_NOW 452 ∷ []) (opens 2 FARES_NOW 1)).refusal ≡ 9
unfolding computing after_from
group-or-others = refl

-- "the owner by the owner's bits": bits 0470 do not let the owner write
owner-and-group-swapped : (answer (changes_bits 1 FARES_NOW 312 ∷ []) (opens 1 FARES_NOW 2)).refusal ≡ 9
unfolding computing after_from
owner-and-group-swapped = refl

-- "executing needs at least one execute bit set": bits 0644
user-0-executes-anything : (answer (changes_bits 1 FARES_NOW 420 ∷ []) (executes 0 FARES_NOW)).refusal ≡ 9
unfolding computing after_from
user-0-executes-anything = refl

-- "User 0 passes": it searches a directory of bits 0
user-0-needs-a-bit-to-search : (answer (changes_bits 1 FARES_PATH 0 ∷ []) (opens 0 FARES_NOW 1)).refusal ≡ 0
unfolding computing after_from
user-0-needs-a-bit-to-search = refl

-- rights of the policy stay 0 to 7
policy-rights-to-511 : policy_sound (set console_policy 0 8) ≡ false
unfolding computing
policy-rights-to-511 = refl

-- "A new file takes its caller's" group
new-file-group-0 : tab FILE_WIDTH (after (creates 1 FARES_X ∷ [])).files 4 FILE_GROUP ≡ 1
unfolding computing after_from
new-file-group-0 = refl

-- ---- files that outlive their names

-- "Freeing a slot when the last name goes, though a descriptor remains"
freed-though-open : tab FILE_WIDTH (after (opens 2 FARES_NOW 1 ∷ unlinks 1 FARES_NOW ∷ [])).files 2 FILE_KIND ≡ PLAIN
unfolding computing after_from
freed-though-open = refl

-- "A free slot's [bytes] are 0"
freed-slot-keeps-its-bytes : fare_bytes (after (unlinks 1 FARES_NOW ∷ [])) ≡ 0 ∷ 0 ∷ 0 ∷ 0 ∷ 0 ∷ []
unfolding computing after_from
freed-slot-keeps-its-bytes = refl

-- ---- truncating

-- "Leaving old bytes past a cut"
bytes-left-past-a-truncation : fare_bytes (after (opens 0 FARES_NOW 10 ∷ [])) ≡ 0 ∷ 0 ∷ 0 ∷ 0 ∷ 0 ∷ []
unfolding computing after_from
bytes-left-past-a-truncation = refl

-- "Cutting a file before finding that no descriptor is free"
truncated-before-a-descriptor-is-found : fare_bytes (after (replicate 8 (opens 0 FARES_NOW 1) ++ opens 0 FARES_NOW 10 ∷ [])) ≡ 50 ∷ 46 ∷ 52 ∷ 48 ∷ 10 ∷ []
unfolding computing after_from
truncated-before-a-descriptor-is-found = refl

-- ---- fork

-- "Copying the position at fork, so that parent and child read the same line twice": the child, process 3, has read it all
offset-copied-at-fork : (answer (opens 2 FARES_NOW 1 ∷ forks 2 ∷ reads 3 0 ∷ []) (reads 2 0)).value ≡ 0
unfolding computing after_from
offset-copied-at-fork = refl

-- "same user, label and entries"
child-label-0 : proc_of (after (forks 2 ∷ [])).processes 3 PROCESS_LABEL ≡ 2
unfolding computing after_from
child-label-0 = refl

-- ---- numbers

-- "always the lowest free"
highest-free-slot : (answer [] (creates 1 FARES_X)).value ≡ 4
unfolding computing after_from
highest-free-slot = refl

-- "a stamp of 4,294,967,295 is followed by 0"
worn : Store
worn = store (set console.files (FILE_WIDTH * 1 + FILE_VERSION) WORD_MAX) console.contents console.open_files console.processes

version-saturates : tab FILE_WIDTH (after_from worn (creates 1 FARES_X ∷ [])).files 1 FILE_VERSION ≡ 0
unfolding computing after_from worn
version-saturates = refl
