-- "The test console". Rows of zeros fill each table to its size.
use Rattle.std.specs.Prelude.{ℕ, ◌-◌, ◌*◌, List, [], ◌∷◌, ◌++◌, length, replicate}
use Rattle.rules.specs.Layout.{SLOTS, BLOCK, FILE_WIDTH, OPEN_FILE_WIDTH, OPEN_FILES, PROCESS_WIDTH, PROCESSES, LABELS, RIGHTS_SIZE, NO_TRANSITION}
use Rattle.rules.specs.Store.{Store, store, Fixed, fixed, zeros, slot}
use Rattle.rules.specs.Paths.{Name}
use Rattle.rules.specs.Directories.{dirent}

-- "fares", "now", "key"
abbrev pub FARES : Name
FARES = 102 ∷ 97 ∷ 114 ∷ 101 ∷ 115 ∷ []

abbrev pub NOW : Name
NOW = 110 ∷ 111 ∷ 119 ∷ []

abbrev pub KEY : Name
KEY = 107 ∷ 101 ∷ 121 ∷ []

-- a list, and 0 up to n elements
abbrev pub filled : ℕ → List ℕ → List ℕ
filled n l = l ++ zeros (n - length l)

-- 0 root, owner 0, bits 0755; 1 /fares, owner 10, bits 0755; 2 /fares/now, owner 10, bits 0744; 3 /key, owner 10, bits 0700, label 3; all groups 1
abbrev pub console_files : List ℕ
console_files =
    filled (SLOTS * FILE_WIDTH)
    (2 ∷ 0 ∷ 1 ∷ 493 ∷ 0 ∷ 2 ∷ 0 ∷ 0 ∷
    2 ∷ 10 ∷ 1 ∷ 493 ∷ 0 ∷ 1 ∷ 1 ∷ 0 ∷
    1 ∷ 10 ∷ 1 ∷ 484 ∷ 0 ∷ 5 ∷ 1 ∷ 0 ∷
    1 ∷ 10 ∷ 1 ∷ 448 ∷ 3 ∷ 4 ∷ 1 ∷ 0 ∷ [])

-- /fares/now holds "2.40" and byte 10; the four bytes of /key are a parameter
abbrev pub console_contents : List ℕ → List ℕ
console_contents key =
    filled BLOCK (dirent FARES (slot 1) ++ dirent KEY (slot 3))
    ++ filled BLOCK (dirent NOW (slot 2))
    ++ filled BLOCK (50 ∷ 46 ∷ 52 ∷ 48 ∷ 10 ∷ [])
    ++ filled BLOCK key
    ++ zeros ((SLOTS - 4) * BLOCK)

-- processes 0, 1, 2: users 0, 10, 20, group 1, labels 0, 1, 2, holding nothing
abbrev pub console_processes : List ℕ
console_processes = filled (PROCESSES * PROCESS_WIDTH) (filled PROCESS_WIDTH (1 ∷ 0 ∷ 1 ∷ 0 ∷ []) ++ filled PROCESS_WIDTH (1 ∷ 10 ∷ 1 ∷ 1 ∷ []) ++ filled PROCESS_WIDTH (1 ∷ 20 ∷ 1 ∷ 2 ∷ []))

unfoldable pub console_with : (key : List ℕ) → Store
console_with key = store console_files (console_contents key) (zeros (OPEN_FILES * OPEN_FILE_WIDTH)) console_processes

unfoldable pub console : Store
console = console_with (1 ∷ 2 ∷ 3 ∷ 4 ∷ [])

-- "Rights over label 0: 7, 7, 5; over label 3: 0, 2, 0; all else 0. No transitions"
unfoldable pub console_policy : List ℕ
console_policy = filled RIGHTS_SIZE (filled LABELS (7 ∷ []) ++ filled LABELS (7 ∷ 0 ∷ 0 ∷ 2 ∷ []) ++ filled LABELS (5 ∷ [])) ++ replicate RIGHTS_SIZE NO_TRANSITION

-- the factory part is empty
abbrev pub console_fixed : Fixed
console_fixed = fixed console_policy []
