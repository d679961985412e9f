-- Demand 3, stated: what it supposes where the list of calls and borrowing reads starts, and what it claims of the list. `secrecy` of proofs/Secrecy.antt
-- proves it. What none of them changes, K, stands beside the store: policy and factory part are one and the same for both stores.
use Rattle.std.specs.Prelude.{ℕ, ◌<◌, ◌≡◌, Bool, true, false, ◌⊎◌, ◌≢◌, List, [], ◌∷◌, length, drop}
use Rattle.rules.specs.Choice.{some}
use Rattle.rules.specs.Layout.{LABELS, NO_TRANSITION, FILE_KIND, FILE_LABEL, FILE_LENGTH, PLAIN}
use Rattle.rules.specs.Rights.{READ, covers, policy_rights, transition}
use Rattle.rules.specs.Store.{Store, Fixed, view, block, subject_of}
use Rattle.rules.specs.Checks.{in_use, slot_free}
use Rattle.rules.specs.Sound.{sound}
use Rattle.rules.specs.Step.{Action, serve, answers, final}
use Rattle.rules.specs.declared.ids.Pid.{Pid}

-- ---- the file in slot f

-- a field of its record
abbrev pub record_field : Store → ℕ → ℕ → ℕ
record_field s f k = (view s).tree.file f k

-- "Two stores differ only in a file's bytes if its slot has the same plain record in both, and everything else, policy included, is equal
-- except the slot's bytes before the record's length". `others` speaks of the other slots' bytes, `rest` of the slot's own from that length on
pub record DifferInBytes (f : ℕ) (s s' : Store) : Type 0 where
  pub plain : record_field s f FILE_KIND ≡ PLAIN
  pub files : s.files ≡ s'.files
  pub open_files : s.open_files ≡ s'.open_files
  pub processes : s.processes ≡ s'.processes
  pub size : length s.contents ≡ length s'.contents
  pub others : (d : ℕ) → d ≢ f → block s.contents d ≡ block s'.contents d
  pub rest : drop (record_field s f FILE_LENGTH) (block s.contents f) ≡ drop (record_field s f FILE_LENGTH) (block s'.contents f)

-- ---- who may read it

-- a process in use has label l
pub record Held (s : Store) (l : ℕ) : Type 0 where
  pub process : Pid
  pub used : in_use (view s).proc process ≡ true
  pub has : (subject_of (view s).proc process).label ≡ l

-- "A label is held or can be reached if a process in use has it, or if the transition from such a label by any program label gives it":
-- from a label that is held or can be reached, so any number of transitions on
pub data Reached (Q : List ℕ) (s : Store) : ℕ → Type 0 where
  held : (l : ℕ) → Held s l → Reached Q s l
  given : (l m : ℕ) → m < LABELS → transition Q l m ≢ NO_TRANSITION → Reached Q s l → Reached Q s (transition Q l m)

-- "It may read a file's label if the policy gives it right 4 over that"
abbrev pub may_read : List ℕ → (l m : ℕ) → Bool
may_read Q l m = covers (policy_rights Q l m) READ

-- ---- "What the demand supposes is supposed where the list starts"

-- two sound stores that differ only in the file's bytes; no label that is held or can be reached may read the file's label. The records are equal, so what is
-- said of labels of the one store holds of the other. "Demand 3 then needs no premise about files already open" (paper 02, R-8)
pub record Supposed (K : Fixed) (f : ℕ) (s s' : Store) : Type 0 where
  pub sound-one : sound K s ≡ true
  pub sound-other : sound K s' ≡ true
  pub differ : DifferInBytes f s s'
  pub no_reader : (l : ℕ) → Reached K.policy s l → may_read K.policy l (record_field s f FILE_LABEL) ≡ false

-- ---- what is claimed of the list

-- a call of the list has freed slot f. "The file is freed by the first call that frees its slot"
unfoldable pub freed : Fixed → ℕ → Store → List Action → Bool
freed K f s [] = false
freed K f s (a ∷ xs) = some (slot_free (view (serve K s a).store).tree.file f ∷ freed K f (serve K s a).store xs ∷ [])

-- "a single claim about the list and not one for each call: all the answers in order, and both stores at the end"; "the stores are equal from
-- then on, also where the slot is given out again": after every list in which the file is freed, whatever comes after that call
pub record Claimed (K : Fixed) (f : ℕ) (s s' : Store) (xs : List Action) : Type 0 where
  pub same-answers : answers K s xs ≡ answers K s' xs
  pub same-stores : (final K s xs ≡ final K s' xs) ⊎ DifferInBytes f (final K s xs) (final K s' xs)
  pub equal-once-freed : freed K f s xs ≡ true → final K s xs ≡ final K s' xs

-- "Demand 3's list may hold any of the seventeen calls, in any order and by any processes, refused and unknown ones included", and borrowing reads: any list.
-- The answer of a borrowing read has the bytes that it hands back, as a call's has its buffer
abbrev pub Secrecy : Type 0
Secrecy = (K : Fixed) (f : ℕ) (s s' : Store) → Supposed K f s s' → (xs : List Action) → Claimed K f s s' xs
