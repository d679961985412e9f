-- A run on the test console's tables is a run on the test console.
use Prim.Native.Nat.{ℕ, ◌*◌}
use mathlib.Core.Path.{◌≡◌, ap}
use mathlib.Core.List.{List, [], ◌∷◌}
use lib.ListN.{length, replicate}
use Rattle.rules.specs.Layout.{OPEN_FILES, OPEN_FILE_WIDTH}
use Rattle.rules.specs.Store.{fixed, store}
use Rattle.rules.specs.Console.{console_files, console_contents, console_processes, console_policy, console_with, console}
use Rattle.script_rules.specs.Replay.{replay}
use Rattle.replay.specs.Runs.{Left, left_by}
use Rattle.day.specs.Day.{ALLOWANCE, day}

module _ (script output F C P Q : List ℕ) {l : Left} (f : F ≡ console_files) (c : C ≡ console_contents (1 ∷ 2 ∷ 3 ∷ 4 ∷ [])) (p : P ≡ console_processes) (q : Q ≡ console_policy)
    (e : l ≡ left_by 0 0 output (replay ALLOWANCE (fixed Q []) script (length output) (store F C (replicate (OPEN_FILES * OPEN_FILE_WIDTH) 0) P))) where
  same : l ≡ day script output
  unfolding day console console_with
  same = rw (f, c, p, q) at e

  pub on-console : (l.replayed ≡ (day script output).replayed) × (l.output ≡ (day script output).output)
  on-console = (ap (λ (x : Left). x.replayed) same, ap (λ (x : Left). x.output) same)
