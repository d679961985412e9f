-- A test and a run of a script as they cross to C.
use Rattle.std.specs.Prelude.{ℕ, Bool, cond, List}
use Rattle.rules.specs.Store.{Store}
use Rattle.script_rules.specs.Reasons.{reason_number}
use Rattle.script_rules.specs.declared.replayed.Replayed.{Replayed}
use Rattle.replay.specs.Runs.{Left}
use Rattle.abi.specs.declared.Report.{Report}

-- a test as a number
unfoldable pub flag : Bool → ℕ
flag b = cond b 1 0

-- a run's result, with its reason as a number
abbrev pub reported : Replayed → Report
reported r = record { next = r.next; written = r.written; calls = r.calls; reason = reason_number r.reason }

-- what a run leaves
pub record Crossed : Type 0 where
  pub report : Report
  pub output : List ℕ
  pub store : Store

abbrev pub crossed : Report → List ℕ → Store → Crossed
crossed r out s = record { report = r; output = out; store = s }

abbrev pub crossed_by : Left → Crossed
crossed_by l = crossed (reported l.replayed) l.output l.store
