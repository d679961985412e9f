-- Why a run of a script stopped: "script's end, allowance spent, block broken, answer too long for the output".
use Rattle.std.specs.Prelude.{ℕ}
use Rattle.script_rules.specs.declared.replayed.Reason.{Reason}
use Rattle.script_rules.specs.declared.replayed.Reason.TheVariants as reason

unfoldable pub reason_number : Reason → ℕ
reason_number reason.End = 1
reason_number reason.Allowance = 2
reason_number reason.Broken = 3
reason_number reason.Room = 4
