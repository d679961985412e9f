-- "Written down, a call is process, call and descriptor .. its number .. the path's length, the path; then a write's bytes or a second path", or a link's text.
use Rattle.std.specs.Prelude.{ℕ, ◌+◌, ◌*◌, ◌/◌, ◌%◌, ◌<◌, Bool, cond, not, List, [], ◌∷◌, ◌++◌, eqb, leb, length, get_or, take, drop}
use Rattle.rules.specs.Choice.{every, implies}
use Rattle.rules.specs.Layout.{NUMBER_MAX}
use Rattle.rules.specs.Calls.{Call, operation_of, uses}
use Rattle.rules.specs.declared.ids.Pid.{Pid}
use Rattle.rules.specs.declared.ids.Fd.{Fd}
use Rattle.rules.specs.declared.refusal.Refusal.{Refusal}
use Rattle.rules.specs.declared.refusal.Refusal.TheVariants.{Malformed}
use Rattle.rules.specs.declared.request.Parts.{Parts}

-- how many values a byte has
abbrev pub BYTE : ℕ
BYTE = 256

-- a list of bytes; past its end `get_or` gives 0
abbrev pub Bytes : List ℕ → Type 0
Bytes bs = (i : ℕ) → get_or bs i 0 < BYTE

-- ---- a call without the reader's buffer: "It gets the reader's buffer when it is served"

pub record Written : Type 0 where
  pub process : Pid
  pub call : ℕ
  pub fd : Fd
  pub number : ℕ
  pub path : List ℕ
  pub «data» : List ℕ

-- "its number, that is mode, bits, index, position or size of the buffer to read into"
unfoldable pub number_of : Call → ℕ
number_of c = cond (uses (operation_of c.call)).reads (length c.buffer) c.number

abbrev pub written : Call → Written
written c = record { process = c.process; call = c.call; fd = c.fd; number = number_of c; path = c.path; «data» = c.«data» }

abbrev pub served : Written → (buffer : List ℕ) → Call
served w buffer = record { process = w.process; call = w.call; fd = w.fd; number = w.number; path = w.path; «data» = w.«data»; buffer = buffer }

-- the number of read
abbrev pub READ_CALL : ℕ
READ_CALL = 11

-- a borrowing read (paper 02, R-6): "written down, it is a read"
abbrev pub borrow_written : Pid → Fd → (n : ℕ) → Written
borrow_written p i n = record { process = p; call = READ_CALL; fd = i; number = n; path = []; «data» = [] }

-- the parts that it uses
abbrev pub parts_of : Written → Parts
parts_of w = uses (operation_of w.call)

-- ---- the normal form

-- "What is unused is 0 or empty"
unfoldable pub number_if : Bool → ℕ → ℕ
number_if used n = cond used n 0

unfoldable pub text_if : ℕ → List ℕ → List ℕ
text_if most t = cond (eqb most 0) [] t

-- "larger ones as 65,535"
unfoldable pub capped : ℕ → ℕ
capped n = cond (leb n NUMBER_MAX) n NUMBER_MAX

unfoldable pub normal_by : Parts → Written → Written
normal_by u w = record {
  process = w.process;
  call = w.call;
  fd = record { 0 = number_if u.fd w.fd.0 };
  number = number_if u.number (capped w.number);
  path = text_if u.path w.path;
  «data» = text_if u.«data» w.«data»;
}

abbrev pub normal : Written → Written
normal w = normal_by (parts_of w) w

-- ---- what can be kept

-- no text is longer than a kept call's; one that is unused is empty
unfoldable pub texts_fit : Parts → Written → Bool
texts_fit u w = every (leb (length w.path) u.path ∷ leb (length w.«data») u.«data» ∷ [])

-- "A call kept for later holds paths of at most 64 bytes and data of at most 512". What is unused does not count
abbrev pub can_keep : Written → Bool
can_keep w = texts_fit (parts_of w) (normal w)

-- ---- the bytes

-- "process, call and descriptor (1 byte each); its number (2 bytes, little end first); the path's length (1 byte), the path; then .."
unfoldable pub layout : Written → List ℕ
layout w = w.process.0 ∷ w.call ∷ w.fd.0 ∷ w.number % BYTE ∷ w.number / BYTE ∷ length w.path ∷ (w.path ++ w.«data»)

abbrev pub encode : Written → List ℕ
encode w = layout (normal w)

-- what keeping a call gives: the bytes that are kept, or a refusal
pub data Keeping : Type 0 where
  Keeps : List ℕ → Keeping
  Refuses : Refusal → Keeping

-- "keeping a longer one is 3"
unfoldable pub keep : Written → Keeping
keep w = cond (can_keep w) (Keeps (encode w)) (Refuses Malformed)

pub data Decoded : Type 0 where
  Kept : Written → Decoded
  NotWritten : Decoded

-- a number that is unused is 0
unfoldable pub numbers_fit : Parts → Written → Bool
numbers_fit u w = every (implies (not u.fd) (eqb w.fd.0 0) ∷ implies (not u.number) (eqb w.number 0) ∷ [])

-- the call w, if its path is there in full and it is in the normal form of a call that can be kept
unfoldable pub accepted : (full : Bool) → Written → Decoded
accepted full w = cond (every (full ∷ numbers_fit (parts_of w) w ∷ texts_fit (parts_of w) w ∷ [])) (Kept w) NotWritten

-- n is the path's length, and `rest` what stands after it
abbrev pub parsed : (process call fd low high n : ℕ) (rest : List ℕ) → Written
parsed process call fd low high n rest = record { process = record { 0 = process }; call = call; fd = record { 0 = fd }; number = low + high * BYTE; path = take n rest; «data» = drop n rest }

unfoldable pub decode : List ℕ → Decoded
decode [] = NotWritten
decode (process ∷ []) = NotWritten
decode (process ∷ call ∷ []) = NotWritten
decode (process ∷ call ∷ fd ∷ []) = NotWritten
decode (process ∷ call ∷ fd ∷ low ∷ []) = NotWritten
decode (process ∷ call ∷ fd ∷ low ∷ high ∷ []) = NotWritten
decode (process ∷ call ∷ fd ∷ low ∷ high ∷ n ∷ rest) = accepted (leb n (length rest)) (parsed process call fd low high n rest)
