-- "When the store says no": the paper's number of each refusal. Granted is 0.
use Rattle.std.specs.Prelude.{ℕ}
use Rattle.rules.specs.declared.refusal.Refusal.{Refusal}
use Rattle.rules.specs.declared.refusal.Refusal.TheVariants.{Unsound, NoProcess, Malformed, NotHeld, WrongDirection, NameMissing, NotADirectory, WrongKind, BitsForbid, LabelForbids, NameThere, NotEmpty, TableFull, TooLong, TooDeep}

abbrev pub GRANTED : ℕ
GRANTED = 0

unfoldable pub refusal_number : Refusal → ℕ
refusal_number Unsound = 1
refusal_number NoProcess = 2
refusal_number Malformed = 3
refusal_number NotHeld = 4
refusal_number WrongDirection = 5
refusal_number NameMissing = 6
refusal_number NotADirectory = 7
refusal_number WrongKind = 8
refusal_number BitsForbid = 9
refusal_number LabelForbids = 10
refusal_number NameThere = 11
refusal_number NotEmpty = 12
refusal_number TableFull = 13
refusal_number TooLong = 14
refusal_number TooDeep = 15
