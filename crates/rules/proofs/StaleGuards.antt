-- What the rules of open files are held to, by computation (paper 02, R-8): reads and writes by a process whose label may not read, or write, what it holds
-- open. Each fact is named after a way in which a rule could be wrong.
use Prim.Native.Nat.{ℕ, ◌+◌, ◌*◌}
use mathlib.Core.Path.{◌≡◌, refl}
use mathlib.Core.List.{List, [], ◌∷◌}
use lib.ListN.{set, replicate}
use Rattle.rules.specs.Computing.{computing}
use Rattle.rules.specs.Layout.{OPEN_FILE_WIDTH, OPEN_OFFSET, PROCESS_WIDTH, PROCESS_LABEL}
use Rattle.rules.specs.Store.{Store, store, tab, pid_of, fd_of}
use Rattle.rules.specs.Calls.{Call}
use Rattle.rules.specs.Step.{Reply, act, act_borrow}
use Rattle.rules.specs.Console.{console_fixed}
use Rattle.rules.proofs.Guards.{call, opens, reads, FARES_NOW, after_from, after, answer}

-- process p has another label. Over /fares/now, whose label is 0, label 2 has the rights 5, and label 4 none
relabelled : Store → (p label : ℕ) → Store
relabelled s p label = store s.files s.contents s.open_files (set s.processes (PROCESS_WIDTH * p + PROCESS_LABEL) label)

-- process 2 has /fares/now open in mode 1, and may not read it; process 1 has it open in mode 3, and may read it alone
abbrev reader : Store
reader = relabelled (after (opens 2 FARES_NOW 1 ∷ [])) 2 4

abbrev writer : Store
writer = relabelled (after (opens 1 FARES_NOW 3 ∷ [])) 1 2

abbrev answered : Store → Call → Reply
answered s c = (act console_fixed s c).reply

abbrev reads_nothing : (process : ℕ) → Call
reads_nothing p = record { process = pid_of p; call = 11; fd = fd_of 0; number = 0; path = []; «data» = []; buffer = [] }

abbrev writes : (process : ℕ) (bytes : List ℕ) → Call
writes p bytes = record { process = pid_of p; call = 12; fd = fd_of 0; number = 0; path = []; «data» = bytes; buffer = [] }

-- ---- "calls 11, 12 and the borrowing read ask the caller's present label each time: 10"

read-asks-no-label : (answered reader (reads 2 0)).refusal ≡ 10
unfolding computing after_from relabelled
read-asks-no-label = refl

size-0-asks-nothing : (answered reader (reads_nothing 2)).refusal ≡ 10
unfolding computing after_from relabelled
size-0-asks-nothing = refl

borrow-asks-no-label : (act_borrow console_fixed reader (pid_of 2) (fd_of 0) 5).reply.refusal ≡ 10
unfolding computing after_from relabelled
borrow-asks-no-label = refl

-- a refused read moves nothing
offset-moved-by-a-refused-read : tab OPEN_FILE_WIDTH (act console_fixed reader (reads 2 0)).store.open_files 0 OPEN_OFFSET ≡ 0
unfolding computing after_from relabelled
offset-moved-by-a-refused-read = refl

write-asks-read : (answered writer (writes 1 (120 ∷ []))).refusal ≡ 10
unfolding computing after_from relabelled
write-asks-read = refl

zero-bytes-ask-nothing : (answered writer (writes 1 [])).refusal ≡ 10
unfolding computing after_from relabelled
zero-bytes-ask-nothing = refl

-- in mode 3 each direction asks its own right
read-asks-write : (answered writer (reads 1 0)).value ≡ 5
unfolding computing after_from relabelled
read-asks-write = refl

-- ---- "after 5 and before 14"

label-before-direction : (answer (opens 2 FARES_NOW 1 ∷ []) (writes 2 (120 ∷ []))).refusal ≡ 5
unfolding computing after_from
label-before-direction = refl

room-before-label : (answered writer (writes 1 (replicate 600 120))).refusal ≡ 10
unfolding computing after_from relabelled
room-before-label = refl

-- ---- the label alone: bits are not asked again

bits-asked-again : (answer (opens 2 FARES_NOW 1 ∷ call 1 8 0 0 FARES_NOW ∷ []) (reads 2 0)).value ≡ 5
unfolding computing after_from
bits-asked-again = refl
