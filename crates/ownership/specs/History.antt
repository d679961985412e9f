-- The history of a list of calls and borrowing reads, those that were granted, and what is read from it alone: no store is looked at but where the list
-- starts.
use Rattle.std.specs.Prelude.{ℕ, ◌+◌, ◌-◌, Bool, cond, List, [], ◌∷◌, eqb}
use Rattle.rules.specs.Choice.{every, some}
use Rattle.rules.specs.Store.{Store, Fixed}
use Rattle.rules.specs.Refusals.{GRANTED}
use Rattle.rules.specs.Calls.{Call}
use Rattle.rules.specs.Step.{Reply, read_of, Action, Calls, Borrows, serve}

-- ---- the history

-- the call that an action is: a borrowing read is the read that it is when it is written down
unfoldable pub as_call : Action → Call
as_call (Calls c) = c
as_call (Borrows p i n) = read_of p i n

unfoldable pub is_granted : Reply → Bool
is_granted r = eqb r.refusal GRANTED

-- a granted call: who made it, its number, and the value that it was answered
pub record Event : Type 0 where
  pub process : ℕ
  pub call : ℕ
  pub value : ℕ

abbrev pub event_of : Action → Reply → Event
event_of a r = record { process = (as_call a).process.0; call = (as_call a).call; value = r.value }

-- "each term read from the history": the granted actions of a list, in order
unfoldable pub history : Fixed → Store → List Action → List Event
history K s [] = []
history K s (a ∷ xs) =
    cond (is_granted (serve K s a).reply) (event_of a (serve K s a).reply ∷ history K (serve K s a).store xs)
    (history K (serve K s a).store xs)

-- ---- what each process has, by the history

-- the calls that give and take descriptors, by the paper's numbers
abbrev pub OPEN : ℕ
OPEN = 1

abbrev pub CLOSE : ℕ
CLOSE = 10

abbrev pub DUPLICATE : ℕ
DUPLICATE = 14

abbrev pub FORK : ℕ
FORK = 15

abbrev pub EXIT : ℕ
EXIT = 16

-- who had n and makes the call
unfoldable pub after_own : (call n : ℕ) → ℕ
after_own call n =
    cond (some (eqb call OPEN ∷ eqb call DUPLICATE ∷ [])) (n + 1)
    (cond (eqb call CLOSE) (n - 1)
    (cond (eqb call EXIT) 0 n))

-- the child of a fork has what its parent had; who makes the call, what that leaves; any other, what it had
unfoldable pub after_event : Event → (ℕ → ℕ) → ℕ → ℕ
after_event e had p =
    cond (every (eqb e.call FORK ∷ eqb p e.value ∷ [])) (had e.process)
    (cond (eqb p e.process) (after_own e.call (had p)) (had p))

-- "what that process had at the start or its own fork, and its opens, duplicates and closes since"
unfoldable pub ledger : (start : ℕ → ℕ) → List Event → ℕ → ℕ
ledger had [] = had
ledger had (e ∷ es) = ledger (after_event e had) es

-- ---- the terms

-- how many calls there are of that number
unfoldable pub made : (call : ℕ) → List Event → ℕ
made n [] = 0
made n (e ∷ es) = cond (eqb e.call n) 1 0 + made n es

-- what the callers of that number had, each by the ledger just before: of forks the descriptors copied, of exits those dropped
unfoldable pub had : (call : ℕ) (start : ℕ → ℕ) → List Event → ℕ
had n start [] = 0
had n start (e ∷ es) = cond (eqb e.call n) (start e.process) 0 + had n (after_event e start) es
