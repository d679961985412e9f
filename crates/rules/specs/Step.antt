-- The answer of a call; `act`, a call on tables that are known to be sound; `step`, which tests that first; `act_borrow` and `step_borrow`, the same of a
-- borrowing read; `run`, a list of both.
use Rattle.std.specs.Prelude.{ℕ, ◌-◌, cond, Ok, Err, List, [], ◌∷◌, length, take, drop}
use Rattle.std.proofs.lemmas.List.Edits.{sets}
use Rattle.rules.specs.Layout.{SLOTS}
use Rattle.rules.specs.Store.{Store, Fixed, Tree, view, block, is_slot, words, zeros}
use Rattle.rules.specs.Refusals.{refusal_number, GRANTED}
use Rattle.rules.specs.Directories.{dirent_name, padded}
use Rattle.rules.specs.Rom.{prompt, seen_tree, seen}
use Rattle.rules.specs.Calls.{Call}
use Rattle.rules.specs.Written.{served, borrow_written}
use Rattle.rules.specs.Decide.{decide, decide_borrow}
use Rattle.rules.specs.Effects.{carry_out}
use Rattle.rules.specs.Sound.{sound}
use Rattle.rules.specs.declared.ids.Slot.{Slot}
use Rattle.rules.specs.declared.ids.Pid.{Pid}
use Rattle.rules.specs.declared.ids.Fd.{Fd}
use Rattle.rules.specs.declared.refusal.Refusal.{Refusal}
use Rattle.rules.specs.declared.refusal.Refusal.TheVariants.{Unsound}
use Rattle.rules.specs.declared.decision.Output.{Output}
use Rattle.rules.specs.declared.decision.Output.TheVariants as output
use Rattle.rules.specs.Decisions.{Decision}
use Rattle.rules.specs.declared.answer.Answer.{Answer}

-- "its answer is the refusal, stop number, value, the listed name or stat's fields .. and that buffer afterwards"
pub record Reply : Type 0 where
  pub refusal : ℕ
  pub stop : ℕ
  pub value : ℕ
  pub name : List ℕ
  pub fields : List ℕ
  pub buffer : List ℕ

unfoldable pub name_out : Tree → Output → List ℕ
name_out t output.Nothing = []
name_out t (output.Name d i) = dirent_name (t.dirents d.0) i
name_out t (output.Fields r) = []
name_out t (output.Bytes s from n) = []

unfoldable pub fields_out : Output → List ℕ
fields_out output.Nothing = []
fields_out (output.Name d i) = []
fields_out (output.Fields r) = words r
fields_out (output.Bytes s from n) = []

-- the bytes of any file: "from the factory part or the store, whichever has the file"
unfoldable pub bytes_of : List ℕ → (contents : List ℕ) → Slot → List ℕ
bytes_of R C s = cond (is_slot s) (block C s.0) (prompt R (s.0 - SLOTS))

-- what a read gives. The only place where a plain file's own bytes are looked at
unfoldable pub bytes_out : List ℕ → (contents : List ℕ) → Output → List ℕ
bytes_out R C output.Nothing = []
bytes_out R C (output.Name d i) = []
bytes_out R C (output.Fields r) = []
bytes_out R C (output.Bytes s from n) = take n (drop from (bytes_of R C s))

-- "A refusal has value 0, no bytes, and changes nothing lent"
abbrev pub refused_reply : Refusal → ℕ → (buffer : List ℕ) → Reply
refused_reply r k buffer = record { refusal = refusal_number r; stop = k; value = 0; name = []; fields = []; buffer = buffer }

-- `put` says what becomes of the bytes that are read
unfoldable pub reply_to : List ℕ → Store → (put : List ℕ → List ℕ) → Decision → Reply
reply_to R s put (Err stop) = refused_reply stop.refusal stop.name (put [])
reply_to R s put (Ok grant) =
    record { refusal = GRANTED; stop = 0; value = grant.value; name = name_out (seen_tree R (view s).tree) grant.output; fields = fields_out grant.output; buffer = put (bytes_out R s.contents grant.output) }

unfoldable pub store_after : Store → Call → Decision → Store
store_after s c (Err stop) = s
store_after s c (Ok grant) = carry_out c grant.effect s

pub record Outcome : Type 0 where
  pub reply : Reply
  pub store : Store

unfoldable pub outcome_of : List ℕ → Store → Call → (put : List ℕ → List ℕ) → Decision → Outcome
outcome_of R s c put d = record { reply = reply_to R s put d; store = store_after s c d }

-- "Bytes past it in the buffer stay"
abbrev pub into : (buffer bytes : List ℕ) → List ℕ
into buffer bytes = sets buffer 0 bytes

-- a call on a store, a policy and a factory part that are known to be sound
unfoldable pub act : Fixed → Store → Call → Outcome
act K s c = outcome_of K.rom s c (into c.buffer) (decide K (seen K.rom (view s)) c)

-- a call: refused with 1 where one of them is not sound
unfoldable pub step : Fixed → Store → Call → Outcome
step K s c = cond (sound K s) (act K s c) (record { reply = refused_reply Unsound 0 c.buffer; store = s })

-- ---- the borrowing read (paper 02, R-6): its bytes are "handed back as the bytes themselves", where a call has its buffer

abbrev pub handed : (bytes : List ℕ) → List ℕ
handed bytes = bytes

-- the read that it is when it is written down, into n bytes
abbrev pub read_of : Pid → Fd → (n : ℕ) → Call
read_of p i n = served (borrow_written p i n) (zeros n)

unfoldable pub act_borrow : Fixed → Store → Pid → Fd → (n : ℕ) → Outcome
act_borrow K s p i n = outcome_of K.rom s (read_of p i n) handed (decide_borrow K (seen K.rom (view s)) p i n)

unfoldable pub step_borrow : Fixed → Store → Pid → Fd → (n : ℕ) → Outcome
step_borrow K s p i n = cond (sound K s) (act_borrow K s p i n) (record { reply = refused_reply Unsound 0 []; store = s })

-- ---- a list of calls and borrowing reads: all the answers in order, and the last store

pub data Action : Type 0 where
  Calls : Call → Action
  Borrows : Pid → Fd → ℕ → Action

unfoldable pub serve : Fixed → Store → Action → Outcome
serve K s (Calls c) = step K s c
serve K s (Borrows p i n) = step_borrow K s p i n

unfoldable pub answers : Fixed → Store → List Action → List Reply
answers K s [] = []
answers K s (a ∷ xs) = (serve K s a).reply ∷ answers K (serve K s a).store xs

unfoldable pub final : Fixed → Store → List Action → Store
final K s [] = s
final K s (a ∷ xs) = final K (serve K s a).store xs

pub record Session : Type 0 where
  pub replies : List Reply
  pub store : Store

abbrev pub run : Fixed → Store → List Action → Session
run K s xs = record { replies = answers K s xs; store = final K s xs }

-- ---- the answer as it crosses to C: the name and the fields padded with 0

abbrev pub answer_of : Reply → Answer
answer_of r = record { refusal = r.refusal; stop = r.stop; value = r.value; name_length = length r.name; name = padded 16 r.name; fields = padded 8 r.fields }
