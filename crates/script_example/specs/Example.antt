-- R-1's example: a script, and what it gives on the test console. It stands alone: to compute it takes as long as all the claims about scripts.
use Rattle.std.specs.Prelude.{ℕ, ◌≡◌, List, [], ◌∷◌, length}
use Prim.Native.Char.{code}
use Prim.Native.String.{String}
use Rattle.rules.specs.Console.{console, console_fixed}
use Rattle.script_rules.specs.Reasons.{reason_number}
use Rattle.script_rules.specs.Replay.{Run, replay}

-- the bytes of a text
abbrev pub bytes : String → List ℕ
bytes String.[] = []
bytes (String.◌∷◌ c s) = code c ∷ bytes s

abbrev pub SCRIPT : List ℕ
SCRIPT = bytes "proc=2\ncall=1\nfd=0\narg=1\npath=/fares/now\ndata=\nproc=2\ncall=11\nfd=0\narg=16\npath=\ndata=\n"

abbrev pub OUTPUT : List ℕ
OUTPUT = bytes "answer=0\nvalue=0\ndata=\nanswer=0\nvalue=5\ndata=322e34300a\n"

-- how many calls, where the next would begin, why it stopped, and the text
abbrev pub shown : Run → List ℕ
shown r = length r.calls ∷ r.next ∷ reason_number r.reason ∷ r.text

-- two calls, all the script, its end; in just the room that the output takes
abbrev pub Example : Type 0
Example = shown (replay 2 console_fixed SCRIPT (length OUTPUT) console) ≡ 2 ∷ length SCRIPT ∷ 1 ∷ OUTPUT
