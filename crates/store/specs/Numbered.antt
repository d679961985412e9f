-- A call as it crosses to C.
use Rattle.std.specs.Prelude.{ℕ, List}
use Rattle.rules.specs.Calls.{Call}

-- a call from the numbers and bytes of its parts
abbrev pub numbered : (process call fd number : ℕ) → (path bytes buffer : List ℕ) → Call
numbered p c i n path bytes buffer = record { process = record { 0 = p }; call = c; fd = record { 0 = i }; number = n; path = path; «data» = bytes; buffer = buffer }
