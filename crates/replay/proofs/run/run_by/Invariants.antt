-- The invariant: the run of what is left of the script, after the calls answered, leaves what the whole run leaves.
use Prim.Native.Nat.{◌-◌, ◌≤◌}
use mathlib.Core.Path.{◌≡◌}
use lib.ListN.{length, drop}
use Rattle.rules.specs.Store.{fixed, store}
use Rattle.replay.specs.Runs.{left_by}
use Rattle.replay.specs.Once.{run_if}
use Rattle.replay.proofs.run.run_by.Given as goal

abbrev pub invariant-loop-why : goal.invariant-loop-why
invariant-loop-why l = record {
  calls : l.allowed ≤ l.allowance;
  in_script : l.at ≤ length l.script;
  in_output : l.written ≤ length l.output;
  run :
      left_by (l.allowance - l.allowed) l.written l.output (run_if l.fit l.allowed (fixed l.policy l.rom) (drop l.at l.script) l.at (length l.output - l.written) (store l.files l.contents l.open_files l.processes))
      ≡ left_by 0 0 l.initial.output (run_if l.fit l.allowance (fixed l.policy l.rom) l.script 0 (length l.initial.output) (store l.initial.files l.initial.contents l.initial.open_files l.initial.processes));
}

abbrev pub decreases-loop-why : goal.decreases-loop-why
decreases-loop-why l = l.allowed
