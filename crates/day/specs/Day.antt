-- A run of a script on the test console, with as many calls as a word of 32 bits can allow.
use Rattle.std.specs.Prelude.{ℕ, List, length}
use Rattle.rules.specs.Console.{console, console_fixed}
use Rattle.script_rules.specs.Replay.{replay}
use Rattle.replay.specs.Runs.{Left, left_by}

abbrev pub ALLOWANCE : ℕ
ALLOWANCE = 4294967295

unfoldable pub day : (script output : List ℕ) → Left
day script output = left_by 0 0 output (replay ALLOWANCE console_fixed script (length output) console)
