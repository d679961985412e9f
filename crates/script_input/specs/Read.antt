-- A block as the code reads it: its numbers, none where the line of one is broken, and the lines of its texts.
use Rattle.std.specs.Prelude.{ℕ, Bool, false, cond, List, [], ◌∷◌, eqb, leb, Option, Some, None}
use Rattle.rules.specs.Choice.{every, implies}
use Rattle.rules.specs.Layout.{NUMBER_MAX}
use Rattle.rules.specs.Calls.{operation_of, uses}
use Rattle.rules.specs.Written.{Written, capped}
use Rattle.rules.specs.declared.request.Parts.{Parts}
use Rattle.rules.specs.declared.request.Request.{Request}
use Rattle.script_rules.specs.Text.{bytes_of}
use Rattle.script_rules.specs.Blocks.{text_of, number_in, number_line_ok, number_lines_ok, text_lines_ok, parts_ok, from_call, from_fd, from_arg}
use Rattle.script_rules.specs.Replay.{as_byte, call_for}
use Rattle.script_rules.specs.declared.line.Line.{Line}
use Rattle.script_rules.specs.declared.line.Line.TheVariants as line
use Rattle.script_input.specs.declared.blocks.Numbers.{Numbers}

unfoldable pub number_read : Line → List ℕ → Option ℕ
number_read l S = cond (number_line_ok l S) (Some (number_in l S)) None

abbrev pub numbers_in : List ℕ → Numbers
numbers_in S = record { process = number_in line.Proc S; call = number_in line.Call (from_call S); fd = number_in line.Fd (from_fd S); number = number_in line.Arg (from_arg S) }

abbrev pub numbers_read : List ℕ → Option Numbers
numbers_read S = cond (number_lines_ok S) (Some (numbers_in S)) None

-- the call with these numbers
abbrev pub numbered : Numbers → (path bytes : List ℕ) → Written
numbered n path bytes = record { process = record { 0 = n.process }; call = n.call; fd = record { 0 = n.fd }; number = n.number; path = path; «data» = bytes }

-- a script has no larger numbers
unfoldable pub head_ok : Numbers → Bool
head_ok n = every (leb n.process NUMBER_MAX ∷ leb n.call NUMBER_MAX ∷ [])

unfoldable pub operands_ok : Numbers → Bool
operands_ok n = every (leb n.fd NUMBER_MAX ∷ leb n.number NUMBER_MAX ∷ [])

unfoldable pub numbers_ok : Numbers → Bool
numbers_ok n = every (head_ok n ∷ operands_ok n ∷ [])

-- a text that is unused is empty: p and b are the lengths of the texts
unfoldable pub lengths_used : Parts → (p b : ℕ) → Bool
lengths_used u p b = every (implies (eqb u.path 0) (eqb p 0) ∷ implies (eqb u.«data» 0) (eqb b 0) ∷ [])

-- a block with the numbers n, from its path's line on, from its data's line on
unfoldable pub read_ok : Numbers → (P D : List ℕ) → Bool
read_ok n P D =
    every
    (numbers_ok n
    ∷ text_lines_ok P D
    ∷ parts_ok (uses (operation_of n.call)) (numbered n (text_of line.Path P) (bytes_of (text_of line.Data D)))
    ∷ [])

-- a block of which these numbers were read, none where the line of one is broken
unfoldable pub block_read_ok : Option Numbers → (P D : List ℕ) → Bool
block_read_ok (Some n) P D = read_ok n P D
block_read_ok None P D = false

-- the numbers of the call that it asks for
abbrev pub request_for : Numbers → Request
request_for n = record { process = record { 0 = as_byte n.process }; call = call_for (numbered n [] []); fd = record { 0 = as_byte n.fd }; number = capped n.number }
