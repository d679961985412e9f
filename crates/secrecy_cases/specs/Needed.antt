-- That each supposition is needed: runs that leave one out, and whose answers give the file's bytes, to a read and to a borrowing read; and runs on stores
-- where the file is open for reading, which nothing is supposed about. The file is /key of the test console, slot 3, label 3.
use Rattle.std.specs.Prelude.{ℕ, ◌+◌, ◌*◌, ◌≡◌, List, [], ◌∷◌, ◌++◌, get_or, set}
use Rattle.rules.specs.Layout.{SLASH, LABELS, RIGHTS_SIZE, OPEN_FILE_WIDTH, OPEN_FILES, PROCESS_WIDTH, PROCESS_DESCRIPTOR}
use Rattle.rules.specs.Rights.{READ, MODE_READ}
use Rattle.rules.specs.Store.{Store, Fixed, fixed, store, pid_of, fd_of}
use Rattle.rules.specs.Step.{Reply, Action, Calls, Borrows, answers}
use Rattle.rules.specs.Console.{FARES, NOW, KEY, filled, console_with, console_policy, console_fixed}

-- two keys
abbrev pub KEY_ONE : List ℕ
KEY_ONE = 1 ∷ 2 ∷ 3 ∷ 4 ∷ []

abbrev pub KEY_OTHER : List ℕ
KEY_OTHER = 5 ∷ 6 ∷ 7 ∷ 8 ∷ []

-- ---- the calls of process p

abbrev pub key_path : List ℕ
key_path = SLASH ∷ KEY

abbrev pub now_path : List ℕ
now_path = (SLASH ∷ FARES) ++ (SLASH ∷ NOW)

-- open /key for reading, execute /fares/now, read one byte by descriptor 0, borrow it
abbrev pub opens_key : ℕ → Action
opens_key p = Calls (record { process = pid_of p; call = 1; fd = fd_of 0; number = MODE_READ.0; path = key_path; «data» = []; buffer = [] })

abbrev pub executes_now : ℕ → Action
executes_now p = Calls (record { process = pid_of p; call = 17; fd = fd_of 0; number = 0; path = now_path; «data» = []; buffer = [] })

abbrev pub reads_byte : ℕ → Action
reads_byte p = Calls (record { process = pid_of p; call = 11; fd = fd_of 0; number = 0; path = []; «data» = []; buffer = 0 ∷ [] })

abbrev pub borrows_byte : ℕ → Action
borrows_byte p = Borrows (pid_of p) (fd_of 0) 1

-- the first byte of each buffer afterwards, or of what is handed back; 0 where there is none
unfoldable pub first_bytes : List Reply → List ℕ
first_bytes [] = []
first_bytes (r ∷ rs) = get_or r.buffer 0 0 ∷ first_bytes rs

-- ---- policies

-- the policy with other rights of process label l over file label m, and with another transition from l by m
abbrev pub with_rights : List ℕ → (l m rights : ℕ) → List ℕ
with_rights Q l m rights = set Q (LABELS * l + m) rights

abbrev pub with_transition : List ℕ → (l m label : ℕ) → List ℕ
with_transition Q l m label = set Q (RIGHTS_SIZE + (LABELS * l + m)) label

-- ---- a held label may read: label 1, of process 1, has right 4 over label 3

unfoldable pub held_policy : List ℕ
held_policy = with_rights console_policy 1 3 READ.0

-- the factory part is empty, as the console's is
abbrev pub held_fixed : Fixed
held_fixed = fixed held_policy []

abbrev pub held_calls : List Action
held_calls = opens_key 1 ∷ reads_byte 1 ∷ []

abbrev pub held_borrows : List Action
held_borrows = opens_key 1 ∷ borrows_byte 1 ∷ []

-- ---- a label that two transitions give may read, and none that is held or that one transition gives: executing /fares/now, whose label is 0,
-- takes label 1 to label 4, and that to label 5, which has right 4 over label 3

unfoldable pub reached_policy : List ℕ
reached_policy =
    with_transition (with_transition (with_rights (with_rights (with_rights console_policy 4 0 7) 5 0 7) 5 3 READ.0) 1 0 4) 4 0 5

abbrev pub reached_fixed : Fixed
reached_fixed = fixed reached_policy []

abbrev pub reached_calls : List Action
reached_calls = executes_now 1 ∷ executes_now 1 ∷ opens_key 1 ∷ reads_byte 1 ∷ []

-- ---- /key is open, and nothing is supposed about that: descriptor 0 of process 2, whose label may not read it, holds open file 0

unfoldable pub opened : (mode : ℕ) → (key : List ℕ) → Store
opened mode key =
    store (console_with key).files (console_with key).contents (filled (OPEN_FILES * OPEN_FILE_WIDTH) (3 ∷ mode ∷ 0 ∷ 1 ∷ []))
    (set (console_with key).processes (PROCESS_WIDTH * 2 + PROCESS_DESCRIPTOR) 1)

abbrev pub opened_calls : List Action
opened_calls = reads_byte 2 ∷ borrows_byte 2 ∷ []

unfoldable pub refusals : List Reply → List ℕ
refusals [] = []
refusals (r ∷ rs) = r.refusal ∷ refusals rs

-- both are refused with 10, whatever the key is: an open file is no right (paper 02, R-8)
abbrev pub StaleRefused : (mode : ℕ) (key : List ℕ) → Type 0
StaleRefused mode key = refusals (answers console_fixed (opened mode key) opened_calls) ≡ 10 ∷ 10 ∷ []
