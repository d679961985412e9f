-- The shapes of what is decided: a value, or why there is none. A refusal is said with the number of the path's name that met it, 0 where none did.
use Rattle.std.specs.Prelude.{ℕ, Bool, true, false, Option, Some, Result, Ok, Err}
use Rattle.rules.specs.declared.refusal.Refusal.{Refusal}
use Rattle.rules.specs.declared.rights.OpenMode.{OpenMode}
use Rattle.rules.specs.declared.rights.OpenFlags.{OpenFlags}
use Rattle.rules.specs.declared.ids.Ofd.{Ofd}
use Rattle.rules.specs.declared.decision.Location.{Location}
use Rattle.rules.specs.declared.decision.Stop.{Stop}
use Rattle.rules.specs.declared.decision.Shared.{Shared}
use Rattle.rules.specs.declared.decision.Output.{Output}
use Rattle.rules.specs.declared.decision.Effect.{Effect}
use Rattle.rules.specs.declared.decision.Grant.{Grant}

abbrev pub stop : Refusal → (name : ℕ) → Stop
stop r k = record { refusal = r; name = k }

-- "every other answer says 0" for the name's number
abbrev pub at_no_name : Refusal → Stop
at_no_name r = stop r 0

-- ---- a walk reaches a location, or stops

abbrev pub Walk : Type 0
Walk = Result Location Stop

pattern abbrev pub Reached : Location → Walk
Reached at = Ok at

abbrev pub Stopped : Refusal → (name : ℕ) → Walk
Stopped r k = Err (stop r k)

-- ---- a call is granted, or refused

abbrev pub Decision : Type 0
Decision = Result Grant Stop

abbrev pub Granted : (value : ℕ) → Output → Effect → Decision
Granted n o e = Ok (record { value = n; output = o; effect = e })

abbrev pub Refused : Refusal → (name : ℕ) → Decision
Refused r k = Err (stop r k)

-- ---- how a file is opened

abbrev pub open_flags : OpenMode → (truncates : Bool) → OpenFlags
open_flags m truncates = record { mode = m; truncates = truncates }

-- the file is opened as it is
abbrev pub Keep : OpenMode → Option OpenFlags
Keep m = Some (open_flags m false)

-- the file is truncated
abbrev pub Truncate : OpenMode → Option OpenFlags
Truncate m = Some (open_flags m true)

-- ---- what a child gets of one of its parent's descriptors

abbrev pub Share : Type 0
Share = Option Shared

abbrev pub Held : Ofd → (references : ℕ) → Share
Held e n = Some (record { ofd = e; references = n })
