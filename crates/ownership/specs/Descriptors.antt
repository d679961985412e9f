-- Paper 02, R-9: where descriptors come from and go. `descriptors-counted` of proofs/Descriptors.antt proves it.
use Rattle.std.specs.Prelude.{ℕ, ◌+◌, ◌≡◌, Bool, List}
use Rattle.rules.specs.Layout.{PROCESSES, DESCRIPTORS}
use Rattle.rules.specs.Scan.{count, total}
use Rattle.rules.specs.Store.{Store, Fixed, view, pid_of, fd_of}
use Rattle.rules.specs.Checks.{held}
use Rattle.rules.specs.Step.{Action, final}
use Rattle.ownership.specs.History.{OPEN, CLOSE, DUPLICATE, FORK, EXIT, history, ledger, made, had}

-- process p holds descriptor i
unfoldable pub holds : Store → ℕ → ℕ → Bool
holds s p i = held (view s).desc (pid_of p) (fd_of i)

-- how many it holds, and how many all hold
unfoldable pub held_by : Store → ℕ → ℕ
held_by s p = count (holds s p) 0 DESCRIPTORS

unfoldable pub held_in : Store → ℕ
held_in s = total (held_by s) 0 PROCESSES

-- "descriptors held equal those at the start, plus opens, duplicates and copies at fork, less closes and those dropped at exit": each process holds what
-- the ledger says; and the sum, with what is taken off on the left, so that no difference is cut off at 0
pub record Counted (K : Fixed) (s : Store) (xs : List Action) : Type 0 where
  pub each : (p : ℕ) → held_by (final K s xs) p ≡ ledger (held_by s) (history K s xs) p
  pub together : let h = history K s xs in
      held_in (final K s xs) + made CLOSE h + had EXIT (held_by s) h ≡ held_in s + made OPEN h + made DUPLICATE h + had FORK (held_by s) h

-- "over any sequence of granted calls": over any list, whose refused calls leave no event
abbrev pub DescriptorsCounted : Type 0
DescriptorsCounted = (K : Fixed) (s : Store) (xs : List Action) → Counted K s xs
