-- One block of a script, as it leaves the output and the store; `fit` says whether the store is sound.
use Rattle.std.specs.Prelude.{ℕ, ◌+◌, ◌-◌, Bool, cond, List, [], eqb, leb, length, take, Option, Some, None, Result, Ok, Err}
use Rattle.std.proofs.lemmas.List.Edits.{sets}
use Rattle.rules.specs.Layout.{BLOCK}
use Rattle.rules.specs.Store.{Store, Fixed, zeros}
use Rattle.rules.specs.Calls.{Call, call_of}
use Rattle.stages.specs.Judged.{act_if}
use Rattle.script_rules.specs.Text.{bytes_of}
use Rattle.script_rules.specs.Blocks.{text_of, block_ok, after_line, after_block}
use Rattle.script_rules.specs.Replay.{room_for, next_call, reply_text}
use Rattle.script_rules.specs.declared.line.Line.TheVariants as line
use Rattle.script_rules.specs.declared.replayed.Reason.{Reason}
use Rattle.script_rules.specs.declared.replayed.Reason.TheVariants as reason
use Rattle.script_input.specs.Read.{numbered, read_ok, request_for}
use Rattle.script_input.specs.declared.blocks.Numbers.{Numbers}
use Rattle.script_turn.specs.declared.turn.Answered.{Answered}

-- ---- a call, if its answer has room

pub record Served : Type 0 where
  pub length : Option ℕ  -- of the answer, none where it has no room
  pub output : List ℕ
  pub store : Store

abbrev pub served : Option ℕ → List ℕ → Store → Served
served n out s = record { length = n; output = out; store = s }

unfoldable pub served_by : (fit : Bool) → Fixed → (out : List ℕ) (at : ℕ) → Store → Call → Served
served_by fit K out at s c =
    cond (leb (length (reply_text (act_if fit K s c).reply)) (length out - at))
    (served (Some (length (reply_text (act_if fit K s c).reply))) (sets out at (reply_text (act_if fit K s c).reply)) (act_if fit K s c).store)
    (served None out s)

-- the call with the numbers n, whose path's line P begins with and whose data's line D begins with
abbrev pub call_in : Numbers → (P D : List ℕ) → Call
call_in n P D = call_of (request_for n) (text_of line.Path P) (take (BLOCK + 1) (bytes_of (text_of line.Data D))) (zeros (room_for (numbered n [] [])))

abbrev pub block_served : (fit : Bool) → Fixed → Numbers → (P D out : List ℕ) (at : ℕ) → Store → Served
block_served fit K n P D out at s = served_by fit K out at s (call_in n P D)

-- ---- a turn: n calls are still allowed, S is left of the script, the output is written up to `at`

pub record Turned : Type 0 where
  pub turn : Result Answered Reason
  pub output : List ℕ
  pub store : Store

abbrev pub turned : Result Answered Reason → List ℕ → Store → Turned
turned t out s = record { turn = t; output = out; store = s }

-- what is written for the call that S begins with
abbrev pub text_if : (fit : Bool) → Fixed → (S : List ℕ) → Store → List ℕ
text_if fit K S s = reply_text (act_if fit K s (next_call S)).reply

unfoldable pub turn_of : (fit : Bool) (n : ℕ) → Fixed → (S out : List ℕ) (at : ℕ) → Store → Turned
turn_of fit n K S out at s =
    cond (eqb (length S) 0) (turned (Err reason.End) out s)
    (cond (eqb n 0) (turned (Err reason.Allowance) out s)
    (cond (block_ok S)
    (cond (leb (length (text_if fit K S s)) (length out - at))
    (turned (Ok (record { size = length S - length (after_block S); length = length (text_if fit K S s) })) (sets out at (text_if fit K S s)) (act_if fit K s (next_call S)).store)
    (turned (Err reason.Room) out s))
    (turned (Err reason.Broken) out s)))

-- what a block of so many bytes comes to, whose answer has the length n
abbrev pub answered_of : (size : ℕ) → Option ℕ → Result Answered Reason
answered_of size None = Err reason.Room
answered_of size (Some n) = Ok (record { size = size; length = n })

-- the turn of a block whose numbers were read: its numbers, its path's line on, its data's line on
unfoldable pub block_turn : (fit : Bool) → Fixed → (S : List ℕ) → Numbers → (P D out : List ℕ) (at : ℕ) → Store → Turned
block_turn fit K S n P D out at s =
    cond (read_ok n P D)
    (turned (answered_of (length S - length (after_line line.Data D)) (block_served fit K n P D out at s).length) (block_served fit K n P D out at s).output (block_served fit K n P D out at s).store)
    (turned (Err reason.Broken) out s)
