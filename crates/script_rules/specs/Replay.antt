-- A run of a script: which calls it takes, what it writes, where the next begins and why it stopped.
use Rattle.std.specs.Prelude.{ℕ, zero, suc, ◌+◌, ◌-◌, Bool, cond, not, List, [], ◌∷◌, ◌++◌, eqb, ltb, leb, length, take}
use Rattle.rules.specs.Choice.{every}
use Rattle.rules.specs.Layout.{BLOCK}
use Rattle.rules.specs.Store.{Store, Fixed, pid_of, fd_of, zeros}
use Rattle.rules.specs.Calls.{Call}
use Rattle.rules.specs.Written.{Written, parts_of}
use Rattle.rules.specs.Step.{Reply, step, answer_of}
use Rattle.script_rules.specs.Blocks.{block_ok, block_of, after_block}
use Rattle.script_rules.specs.Answers.{answer_text}
use Rattle.script_rules.specs.declared.replayed.Reason.{Reason}
use Rattle.script_rules.specs.declared.replayed.Reason.TheVariants as reason

-- ---- the call that a block asks for

-- No process, call or descriptor has a number over 255: all such are as 255, and never taken modulo 256
abbrev pub BYTE_MAX : ℕ
BYTE_MAX = 255

unfoldable pub as_byte : ℕ → ℕ
as_byte n = cond (leb n BYTE_MAX) n BYTE_MAX

abbrev pub reads : Written → Bool
reads w = (parts_of w).reads

-- "read size (at most 512, else 3)", of a link's text too
unfoldable pub reads_too_much : Written → Bool
reads_too_much w = every (reads w ∷ ltb BLOCK w.number ∷ [])

-- a read of too much is malformed, as an unknown call is: 3, after 2
abbrev pub UNKNOWN : ℕ
UNKNOWN = 0

unfoldable pub call_for : Written → ℕ
call_for w = cond (reads_too_much w) UNKNOWN (as_byte w.call)

-- how many bytes are lent for a read, of a file or of a link; no other call is lent any
unfoldable pub room_for : Written → ℕ
room_for w = cond (every (reads w ∷ leb w.number BLOCK ∷ [])) w.number 0

-- No call takes more than 512 bytes: of more, one too many is enough to be refused for it
unfoldable pub bytes_for : Written → List ℕ
bytes_for w = take (BLOCK + 1) w.«data»

unfoldable pub asked_by : Written → Call
asked_by w = record {
  process = pid_of (as_byte w.process.0);
  call = call_for w;
  fd = fd_of (as_byte w.fd.0);
  number = w.number;
  path = w.path;
  «data» = bytes_for w;
  buffer = zeros (room_for w);
}

-- the call of the block that S begins with
abbrev pub next_call : List ℕ → Call
next_call S = asked_by (block_of S)

abbrev pub reply_text : Reply → List ℕ
reply_text r = answer_text (answer_of r) r.buffer

-- what is written for it
abbrev pub next_text : Fixed → (S : List ℕ) → Store → List ℕ
next_text K S s = reply_text (step K s (next_call S)).reply

-- ---- the run

pub record Run : Type 0 where
  pub calls : List Call  -- those taken, in order
  pub text : List ℕ  -- their answers
  pub next : ℕ  -- where the next block begins
  pub reason : Reason
  pub store : Store

-- nothing more is taken
abbrev pub stopped : Reason → ℕ → Store → Run
stopped why at s = record { calls = []; text = []; next = at; reason = why; store = s }

-- a call is taken, and then the others
abbrev pub took : Call → (text : List ℕ) → Run → Run
took c text r = record { calls = c ∷ r.calls; text = text ++ r.text; next = r.next; reason = r.reason; store = r.store }

-- "It stops before the first of these that holds": n calls are still allowed, S is left of the script and begins at `at`, and so many bytes of the
-- output are left
unfoldable pub run : (n : ℕ) → Fixed → (S : List ℕ) (at room : ℕ) → Store → Run
run zero K S at room s = cond (eqb (length S) 0) (stopped reason.End at s) (stopped reason.Allowance at s)
run (suc n) K S at room s =
    cond (eqb (length S) 0) (stopped reason.End at s)
    (cond (not (block_ok S)) (stopped reason.Broken at s)
    (cond (ltb room (length (next_text K S s))) (stopped reason.Room at s)
    (took (next_call S) (next_text K S s)
    (run n K (after_block S) (at + (length S - length (after_block S))) (room - length (next_text K S s)) (step K s (next_call S)).store))))

-- "The runner is allowed a number of calls": a script from its start, with an output of so many bytes
abbrev pub replay : (allowance : ℕ) → Fixed → (S : List ℕ) (room : ℕ) → Store → Run
replay allowance K S room s = run allowance K S 0 room s
