-- What a row of the table says, and when it holds.
use Rattle.std.specs.Prelude.{ℕ, ◌+◌, ◌*◌, Bool, true, false, cond, List, [], ◌∷◌, ◌++◌, eqb, length, take, drop, replicate}
use Rattle.rules.specs.Choice.{every}
use Rattle.rules.specs.Layout.{BLOCK, FILE_WIDTH, OPEN_FILE_WIDTH, PROCESS_WIDTH, PROCESS_DESCRIPTOR}
use Rattle.rules.specs.Store.{Store, store, pid_of, fd_of}
use Rattle.rules.specs.Refusals.{GRANTED}
use Rattle.rules.specs.Calls.{Call}
use Rattle.rules.specs.Step.{Reply, Outcome, step}
use Rattle.rules.specs.Console.{console, console_fixed}

-- ---- a row: a call, the answer that it must be given, and all that the store after it has other than the store before it

pub data Now : Type 0 where
  file : (slot kind owner group bits label length links version : ℕ) → Now
  bytes : (slot from : ℕ) → List ℕ → Now
  open_file : (ofd slot mode offset references : ℕ) → Now
  descriptor : (process fd word : ℕ) → Now  -- 0 for nothing, e + 1 for open file e

pub record Row : Type 0 where
  pub call : Call
  pub reply : Reply
  pub leaves : List Now

-- ---- the store that a row leaves

abbrev pub over : List ℕ → ℕ → List ℕ → List ℕ
over xs at new = take at xs ++ new ++ drop (at + length new) xs

abbrev pub with : Now → Store → Store
with (file s k o g b l n m v) t = store (over t.files (FILE_WIDTH * s) (k ∷ o ∷ g ∷ b ∷ l ∷ n ∷ m ∷ v ∷ [])) t.contents t.open_files t.processes
with (bytes s at new) t = store t.files (over t.contents (BLOCK * s + at) new) t.open_files t.processes
with (open_file e s m n r) t = store t.files t.contents (over t.open_files (OPEN_FILE_WIDTH * e) (s ∷ m ∷ n ∷ r ∷ [])) t.processes
with (descriptor p i w) t = store t.files t.contents t.open_files (over t.processes (PROCESS_WIDTH * p + PROCESS_DESCRIPTOR + i) (w ∷ []))

unfoldable pub with_all : List Now → Store → Store
with_all [] t = t
with_all (n ∷ ns) t = with_all ns (with n t)

-- ---- what is compared: the whole answer and the whole store

unfoldable pub same : List ℕ → List ℕ → Bool
same [] [] = true
same [] (y ∷ ys) = false
same (x ∷ xs) [] = false
same (x ∷ xs) (y ∷ ys) = cond (eqb x y) (same xs ys) false

unfoldable pub same_numbers : Reply → Reply → Bool
same_numbers a b = every (eqb a.refusal b.refusal ∷ eqb a.stop b.stop ∷ eqb a.value b.value ∷ [])

unfoldable pub same_out : Reply → Reply → Bool
same_out a b = every (same a.name b.name ∷ same a.fields b.fields ∷ same a.buffer b.buffer ∷ [])

unfoldable pub same_reply : Reply → Reply → Bool
same_reply a b = every (same_numbers a b ∷ same_out a b ∷ [])

unfoldable pub same_slots : Store → Store → Bool
same_slots s t = every (same s.files t.files ∷ same s.contents t.contents ∷ [])

unfoldable pub same_store : Store → Store → Bool
same_store s t = every (same_slots s t ∷ same s.open_files t.open_files ∷ same s.processes t.processes ∷ [])

unfoldable pub row_holds : Store → Outcome → Row → Bool
row_holds before x r = every (same_reply x.reply r.reply ∷ same_store x.store (with_all r.leaves before) ∷ [])

-- within a line each call finds the store that the one before it left. `step` begins with the soundness test
unfoldable pub line_holds : Store → List Row → Bool
line_holds s [] = true
line_holds s (r ∷ rs) = let x = step console_fixed s r.call in every (row_holds s x r ∷ line_holds x.store rs ∷ [])

-- "Each line starts afresh"
unfoldable pub holds : List (List Row) → Bool
holds [] = true
holds (l ∷ ls) = every (line_holds console l ∷ holds ls ∷ [])

-- ---- the calls. Each is lent a buffer of 16 bytes 255, so that it shows which bytes stay

abbrev pub BUFFER : List ℕ
BUFFER = replicate 16 255

abbrev pub calls : (process call fd number : ℕ) (path «data» : List ℕ) → Call
calls p n i number path bs = record { process = pid_of p; call = n; fd = fd_of i; number = number; path = path; «data» = bs; buffer = BUFFER }

abbrev pub opens : (process : ℕ) (path : List ℕ) (mode : ℕ) → Call
opens p path mode = calls p 1 0 mode path []

abbrev pub creates : (process : ℕ) (path : List ℕ) (bits : ℕ) → Call
creates p path bits = calls p 2 0 bits path []

abbrev pub unlinks : (process : ℕ) (path : List ℕ) → Call
unlinks p path = calls p 4 0 0 path []

abbrev pub changes-bits : (process : ℕ) (path : List ℕ) (bits : ℕ) → Call
changes-bits p path bits = calls p 8 0 bits path []

abbrev pub stats : (process : ℕ) (path : List ℕ) → Call
stats p path = calls p 9 0 0 path []

abbrev pub closes : (process fd : ℕ) → Call
closes p i = calls p 10 i 0 [] []

abbrev pub reads : (process fd : ℕ) → Call
reads p i = calls p 11 i 0 [] []

abbrev pub writes : (process fd : ℕ) («data» : List ℕ) → Call
writes p i bs = calls p 12 i 0 [] bs

abbrev pub seeks : (process fd offset : ℕ) → Call
seeks p i n = calls p 13 i n [] []

-- ---- the answers: granted with a value, with a value and bytes read, refused at a name of the path

abbrev pub answer : (refusal stop value : ℕ) (buffer : List ℕ) → Reply
answer r k n buffer = record { refusal = r; stop = k; value = n; name = []; fields = []; buffer = buffer }

abbrev pub grants : Call → (value : ℕ) → List Now → Row
grants c n now = record { call = c; reply = answer GRANTED 0 n BUFFER; leaves = now }

abbrev pub grants_bytes : Call → (value : ℕ) → List ℕ → List Now → Row
grants_bytes c n bs now = record { call = c; reply = answer GRANTED 0 n (bs ++ drop n BUFFER); leaves = now }

-- "A refusal has value 0, no bytes, and changes nothing lent"
abbrev pub refuses : Call → (refusal stop : ℕ) → Row
refuses c r k = record { call = c; reply = answer r k 0 BUFFER; leaves = [] }
