-- What the rules of factory prompts are held to, by computation (paper 02, R-6): calls and borrowing reads on the test console beside a part of three
-- prompts. Each fact is named after a way in which a rule could be wrong.
use Prim.Native.Nat.{ℕ}
use mathlib.Core.Path.{◌≡◌, refl}
use mathlib.Core.Bool.{true, false}
use mathlib.Core.List.{List, [], ◌∷◌, ◌++◌}
use lib.ListN.{get_or, take, replicate}
use lib.Seq.{sets}
use Rattle.rules.specs.Computing.{computing}
use Rattle.rules.specs.Layout.{OPEN_FILE_WIDTH, OPEN_OFFSET, FILE_LENGTH, SLASH}
use Rattle.rules.specs.Store.{Fixed, fixed, Store, store, view, slot, ofd_of, tab}
use Rattle.rules.specs.Directories.{dirent}
use Rattle.rules.specs.Rom.{ROM_NAME, prompt_name, rom_sound}
use Rattle.rules.specs.Sound.{open_used, opens_within, rom_absent}
use Rattle.rules.specs.Calls.{Call}
use Rattle.rules.specs.Checks.{closing}
use Rattle.rules.specs.Step.{Reply, Outcome, act, act_borrow}
use Rattle.rules.specs.Console.{console, console_policy, KEY}
use Rattle.rules.specs.declared.decision.Release.TheVariants as release
use Rattle.rules.proofs.Guards.{call, opens, creates, reads, FARES_NOW}

-- "hi", an empty prompt, "!"
abbrev FACTORY : List ℕ
FACTORY = 2 ∷ 0 ∷ 104 ∷ 105 ∷ 0 ∷ 0 ∷ 1 ∷ 0 ∷ 33 ∷ []

abbrev beside : Fixed
beside = fixed console_policy FACTORY

unfoldable after_these : List Call → Store → Store
after_these [] s = s
after_these (c ∷ cs) s = after_these cs (act beside s c).store

abbrev answer : List Call → Call → Reply
answer cs c = (act beside (after_these cs console) c).reply

-- /rom, /rom/00, /rom/03, /x, /key
abbrev ROM_PATH : List ℕ
ROM_PATH = SLASH ∷ ROM_NAME

abbrev FIRST : List ℕ
FIRST = ROM_PATH ++ SLASH ∷ prompt_name 0

abbrev FOURTH : List ℕ
FOURTH = ROM_PATH ++ SLASH ∷ prompt_name 3

abbrev X : List ℕ
X = SLASH ∷ 120 ∷ []

abbrev links : (old new : List ℕ) → Call
links old new = record { process = record { 0 = 0 }; call = 6; fd = record { 0 = 0 }; number = 0; path = old; «data» = new; buffer = [] }

-- ---- "Whatever would change /rom or its files, link included, gets 9 for user 0 too"

user-0-writes-a-prompt : (answer [] (opens 0 FIRST 2)).refusal ≡ 9
unfolding computing after_these
user-0-writes-a-prompt = refl

made-in-rom : (answer [] (creates 0 (ROM_PATH ++ X))).refusal ≡ 9
unfolding computing after_these
made-in-rom = refl

rom-removed : (answer [] (call 0 5 0 0 ROM_PATH)).refusal ≡ 9
unfolding computing after_these
rom-removed = refl

prompt-linked : (answer [] (links FIRST X)).refusal ≡ 9
unfolding computing after_these
prompt-linked = refl

-- "where bits are asked": 11 comes first
prompt-linked-over-a-name : (answer [] (links FIRST (SLASH ∷ KEY))).refusal ≡ 11
unfolding computing after_these
prompt-linked-over-a-name = refl

prompt-bits-changed : (answer [] (call 0 8 0 511 FIRST)).refusal ≡ 9
unfolding computing after_these
prompt-bits-changed = refl

-- ""rom" in the root is reserved: creating it is 11"
rom-created : (answer [] (creates 0 ROM_PATH)).refusal ≡ 11
unfolding computing after_these
rom-created = refl

-- ---- what is seen: kind, owner, group, bits, label, length, names, stamp

prompt-described : (answer [] (call 2 9 0 0 FIRST)).fields ≡ 1 ∷ 0 ∷ 0 ∷ 292 ∷ 0 ∷ 2 ∷ 1 ∷ 0 ∷ []
unfolding computing after_these
prompt-described = refl

rom-described : (answer [] (call 2 9 0 0 ROM_PATH)).fields ≡ 2 ∷ 0 ∷ 0 ∷ 365 ∷ 0 ∷ 3 ∷ 1 ∷ 0 ∷ []
unfolding computing after_these
rom-described = refl

past-the-last-prompt : (answer [] (opens 2 FOURTH 1)).refusal ≡ 6
unfolding computing after_these
past-the-last-prompt = refl

-- "listed in the root but not in its length"
rom-not-listed : (answer [] (call 2 7 0 2 (SLASH ∷ []))).name ≡ ROM_NAME
unfolding computing after_these
rom-not-listed = refl

rom-counted-in-the-root : get_or (answer [] (call 2 9 0 0 (SLASH ∷ []))).fields FILE_LENGTH 0 ≡ 2
unfolding computing after_these
rom-counted-in-the-root = refl

prompt-listed : (answer [] (call 2 7 0 2 ROM_PATH)).name ≡ prompt_name 2
unfolding computing after_these
prompt-listed = refl

prompt-read : take 3 (answer (opens 2 FIRST 1 ∷ []) (reads 2 0)).buffer ≡ 104 ∷ 105 ∷ 255 ∷ []
unfolding computing after_these
prompt-read = refl

-- a store has no slot 128 to free
prompt-freed-at-close : closing (view console).tree.file (view console).open_files (ofd_of 0) (slot 128) ≡ release.Gone (ofd_of 0)
unfolding computing
prompt-freed-at-close = refl

-- ---- the borrowing read: "handed back as the bytes themselves .. up to a given count (over 512 is 3); checks, value and position are as in read"

abbrev borrows : List Call → (fd n : ℕ) → Outcome
borrows cs i n = act_borrow beside (after_these cs console) (record { 0 = 2 }) (record { 0 = i }) n

borrow-of-a-prompt : (borrows (opens 2 FIRST 1 ∷ []) 0 512).reply.buffer ≡ 104 ∷ 105 ∷ []
unfolding computing after_these
borrow-of-a-prompt = refl

borrow-of-a-file : (borrows (opens 2 FARES_NOW 1 ∷ []) 0 3).reply.buffer ≡ 50 ∷ 46 ∷ 52 ∷ []
unfolding computing after_these
borrow-of-a-file = refl

borrow-moves : tab OPEN_FILE_WIDTH (borrows (opens 2 FARES_NOW 1 ∷ []) 0 3).store.open_files 0 OPEN_OFFSET ≡ 3
unfolding computing after_these
borrow-moves = refl

-- before 4
borrow-of-513 : (borrows [] 5 513).reply.refusal ≡ 3
unfolding computing after_these
borrow-of-513 = refl

-- ---- "A short or overlong part, a prompt over 512 bytes .. is refusal 1"

short-part : rom_sound (1 ∷ 0 ∷ []) ≡ false
unfolding computing
short-part = refl

prompt-of-513 : rom_sound (1 ∷ 2 ∷ replicate 513 0) ≡ false
unfolding computing
prompt-of-513 = refl

-- 256 bytes, and not one
big-end-first : rom_sound (0 ∷ 1 ∷ replicate 256 0) ≡ true
unfolding computing
big-end-first = refl

sixteen-prompts : rom_sound (replicate 32 0) ≡ true
unfolding computing
sixteen-prompts = refl

seventeen-prompts : rom_sound (replicate 34 0) ≡ false
unfolding computing
seventeen-prompts = refl

-- "or an open entry there not in mode 1 or past the last prompt"
abbrev opened : (slot mode : ℕ) → Store
opened s mode = store console.files console.contents (sets console.open_files 0 (s ∷ mode ∷ 0 ∷ 1 ∷ [])) console.processes

open-prompt : open_used (view (opened 130 1)).tree.file (view (opened 130 1)).open_files 0 ≡ true
unfolding computing
open-prompt = refl

open-prompt-in-mode-3 : open_used (view (opened 130 3)).tree.file (view (opened 130 3)).open_files 0 ≡ false
unfolding computing
open-prompt-in-mode-3 = refl

open-past-the-last-prompt : opens_within FACTORY (view (opened 131 1)).open_files ≡ false
unfolding computing
open-past-the-last-prompt = refl

-- "a store that holds it is unsound"
rom-stored-in-the-root : rom_absent (dirent KEY (slot 3) ++ dirent ROM_NAME (slot 1)) ≡ false
unfolding computing
rom-stored-in-the-root = refl
