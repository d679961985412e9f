-- Who is in use after a call: each such process has the user and the group of one that was in use before it.
use mathlib.Core.Path.{◌≡◌, refl, sym, subst}
use mathlib.Core.Bool.{true, false, false≢true}
use mathlib.Core.List.{[], ◌∷◌}
use Prim.Native.Nat.{ℕ, ◌<◌}
use lib.Dec.{eqb}
use borrow.Author.Tests.{eq-eqb, lt-ltb}
use Rattle.rules.specs.Choice.{every}
use Rattle.rules.specs.Layout.{PROCESSES, PROCESS_USED, PROCESS_USER, PROCESS_GROUP, PROCESS_LABEL}
use Rattle.rules.specs.Store.{Table, pid_of, is_pid, subject_of}
use Rattle.rules.specs.Checks.{in_use}
use Rattle.rules.specs.declared.ids.Pid.{Pid}
use Rattle.rules.proofs.Tests.{test}
use Rattle.preservation.proofs.Tests.{upd, upd-elim, upd_row}
use Rattle.preservation.proofs.Processes.{proc_row}

-- a process with the words `row`, and one in use of table f
pub record Ancestor (f : Table) (row : ℕ → ℕ) : Type 0 where
  pub process : Pid
  pub used : in_use f process ≡ true
  pub same-user : row PROCESS_USER ≡ f process.0 PROCESS_USER
  pub same-group : row PROCESS_GROUP ≡ f process.0 PROCESS_GROUP

abbrev pub Ancestors : Table → Table → Type 0
Ancestors f g = (q : Pid) → in_use g q ≡ true → Ancestor f (g q.0)

itself : (f : Table) (q : Pid) → in_use f q ≡ true → Ancestor f (f q.0)
itself f q u = record { process = q; used = u; same-user = refl; same-group = refl }

pub same-processes : (f g : Table) → g ≡ f → Ancestors f g
same-processes f g e = subst (λ (t : Table). Ancestors f t) (sym e) (itself f)

-- the words of process j change
one-process : (f : Table) (j : ℕ) (row : ℕ → ℕ) → ((q : Pid) → q.0 ≡ j → every (is_pid q ∷ eqb (row PROCESS_USED) 1 ∷ []) ≡ true → Ancestor f row) → Ancestors f (upd f j row)
unfolding in_use
one-process f j row w q = upd-elim (λ r. every (is_pid q ∷ eqb (r PROCESS_USED) 1 ∷ []) ≡ true → Ancestor f r) f j row q.0 (w q) (λ _. unfold in_use in itself f q)

-- execute: a label moves
pub relabelled : (f : Table) (p l : ℕ) → Ancestors f (upd_row f p PROCESS_LABEL l)
unfolding in_use
relabelled f p l = one-process f p (upd (f p) PROCESS_LABEL l) (λ q e u. record { process = pid_of p; used = rw e at u; same-user = refl; same-group = refl })

-- fork: process q gets its parent's user and group, and is in use
pub forked : (f : Table) (p q : Pid) → in_use f p ≡ true → Ancestors f (upd f q.0 (proc_row (subject_of f p)))
forked f p q u = one-process f q.0 (proc_row (subject_of f p)) (λ _ _ _. record { process = p; used = u; same-user = refl; same-group = refl })

pub child-used : (f : Table) (p q : Pid) → q.0 < PROCESSES → in_use (upd f q.0 (proc_row (subject_of f p))) q ≡ true
unfolding in_use every
child-used f p q h = rw (eq-eqb q.0 q.0 refl, lt-ltb q.0 PROCESSES h)

-- exit: process p is free
pub exited : (f : Table) (p : ℕ) → Ancestors f (upd f p (λ _. 0))
exited f p = one-process f p (λ _. 0) (λ q _ u. absurd (false≢true (test 1 (is_pid q ∷ false ∷ []) u)))
