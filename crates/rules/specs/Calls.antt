-- "The seventeen calls", and two for symbolic links: a call, its number, and its form.
use Rattle.std.specs.Prelude.{ℕ, ◌≡◌, Bool, true, false, cond, not, List, [], ◌∷◌, eqb, leb}
use Rattle.rules.specs.Choice.{every}
use Rattle.rules.specs.Layout.{BLOCK, PATH}
use Rattle.rules.specs.Rights.{bits_known, mode_of, mode_known}
use Rattle.rules.specs.Paths.{path_ok, is_root}
use Rattle.rules.specs.declared.ids.Pid.{Pid}
use Rattle.rules.specs.declared.ids.Fd.{Fd}
use Rattle.rules.specs.declared.request.Request.{Request}
use Rattle.rules.specs.declared.request.Parts.{Parts}
use Rattle.rules.specs.declared.request.Operation.{Operation}
use Rattle.rules.specs.declared.request.Operation.TheVariants as op

-- "its numbers, paths and bytes with the reader's buffer as lent". The number is a mode, bits, an index or a position; `data` is a write's
-- bytes, a second path or a link's text. A read's size is the buffer's. Parts that a call does not use (`uses`) are not looked at.
pub record Call : Type 0 where
  pub process : Pid
  pub call : ℕ
  pub fd : Fd
  pub number : ℕ
  pub path : List ℕ
  pub «data» : List ℕ
  pub buffer : List ℕ

-- a call as it is lent: its numbers, and its path, bytes and buffer beside them
abbrev pub call_of : Request → (path «data» buffer : List ℕ) → Call
call_of c path «data» buffer = record { process = c.process; call = c.call; fd = c.fd; number = c.number; path = path; «data» = «data»; buffer = buffer }

-- the calls by their numbers
unfoldable pub operation_of : ℕ → Operation
operation_of n =
    cond (eqb n 1) op.Open
    (cond (eqb n 2) op.Create
    (cond (eqb n 3) op.MakeDirectory
    (cond (eqb n 4) op.Unlink
    (cond (eqb n 5) op.RemoveDirectory
    (cond (eqb n 6) op.Link
    (cond (eqb n 7) op.List
    (cond (eqb n 8) op.ChangeBits
    (cond (eqb n 9) op.Stat
    (cond (eqb n 10) op.Close
    (cond (eqb n 11) op.Read
    (cond (eqb n 12) op.Write
    (cond (eqb n 13) op.Seek
    (cond (eqb n 14) op.Duplicate
    (cond (eqb n 15) op.Fork
    (cond (eqb n 16) op.Exit
    (cond (eqb n 17) op.Execute
    (cond (eqb n 18) op.Symlink
    (cond (eqb n 19) op.ReadLink
    (cond (eqb n 20) op.Rename
    op.Unknown)))))))))))))))))))

abbrev pub operation : Call → Operation
operation c = operation_of c.call

-- ---- which parts a call uses

abbrev pub parts : (fd number : Bool) (path «data» : ℕ) → Parts
parts fd number path «data» = record { fd = fd; number = number; path = path; «data» = «data»; reads = false }

-- its number is the "size of the buffer to read into"
abbrev pub reading : Parts → Parts
reading u = record { fd = u.fd; number = u.number; path = u.path; «data» = u.«data»; reads = true }

-- "paths of at most 64 bytes and data of at most 512": a second path is a path, and so is a link's text. Of an unknown call nothing is unused, its last text is data
unfoldable pub uses : Operation → Parts
uses op.Open = parts false true PATH 0
uses op.Create = parts false true PATH 0
uses op.MakeDirectory = parts false true PATH 0
uses op.Unlink = parts false false PATH 0
uses op.RemoveDirectory = parts false false PATH 0
uses op.Link = parts false false PATH PATH
uses op.List = parts false true PATH 0
uses op.ChangeBits = parts false true PATH 0
uses op.Stat = parts false false PATH 0
uses op.Close = parts true false 0 0
uses op.Read = reading (parts true true 0 0)
uses op.Write = parts true false 0 BLOCK
uses op.Seek = parts true true 0 0
uses op.Duplicate = parts true false 0 0
uses op.Fork = parts false false 0 0
uses op.Exit = parts false false 0 0
uses op.Execute = parts false false PATH 0
uses op.Symlink = parts false false PATH PATH
uses op.ReadLink = reading (parts false true PATH 0)
uses op.Rename = parts false false PATH PATH
uses op.Unknown = parts true true PATH BLOCK

-- Two calls agree in what they use: their process, the call, and of these parts those that are used; and the same buffer is lent to both. A call
-- that reads takes its buffer's size for its number.
pub record Agree (u : Parts) (c d : Call) : Type 0 where
  pub process : c.process ≡ d.process
  pub call : c.call ≡ d.call
  pub fd : u.fd ≡ true → c.fd ≡ d.fd
  pub number : u.number ≡ true → u.reads ≡ false → c.number ≡ d.number
  pub path : (u.path ≡ 0 → ⊥) → c.path ≡ d.path
  pub «data» : (u.«data» ≡ 0 → ⊥) → c.«data» ≡ d.«data»
  pub buffer : c.buffer ≡ d.buffer

-- ---- the form (3): "unknown call or mode, bits over 7, bad path, position over 512, root given where barred"

-- a path that may not be the root: "The root is barred (3) from 2 to 5 and as link's new path"
unfoldable pub path_below_root : List ℕ → Bool
path_below_root p = every (path_ok p ∷ not (is_root p) ∷ [])

-- a file to be made: bits and a path
unfoldable pub new_file_ok : ℕ → List ℕ → Bool
new_file_ok n p = every (bits_known n ∷ path_below_root p ∷ [])

unfoldable pub form_ok : Operation → (number : ℕ) (path «data» : List ℕ) → Bool
form_ok op.Open n p b = every (mode_known (mode_of n) ∷ path_ok p ∷ [])
form_ok op.Create n p b = new_file_ok n p
form_ok op.MakeDirectory n p b = new_file_ok n p
form_ok op.Unlink n p b = path_below_root p
form_ok op.RemoveDirectory n p b = path_below_root p
form_ok op.Link n p b = every (path_ok p ∷ path_below_root b ∷ [])
form_ok op.List n p b = path_ok p
form_ok op.ChangeBits n p b = every (bits_known n ∷ path_ok p ∷ [])
form_ok op.Stat n p b = path_ok p
form_ok op.Close n p b = true
form_ok op.Read n p b = true
form_ok op.Write n p b = true
form_ok op.Seek n p b = leb n BLOCK
form_ok op.Duplicate n p b = true
form_ok op.Fork n p b = true
form_ok op.Exit n p b = true
form_ok op.Execute n p b = path_ok p
form_ok op.Symlink n p b = every (path_below_root p ∷ path_ok b ∷ [])
form_ok op.ReadLink n p b = path_ok p
form_ok op.Rename n p b = every (path_below_root p ∷ path_below_root b ∷ [])
form_ok op.Unknown n p b = false

abbrev pub well_formed : Call → Bool
well_formed c = form_ok (operation c) c.number c.path c.«data»
