-- A block: "Each call is six lines in fixed order: proc=, call=, fd=, arg=, path=, data=". S is what is left of a script: it begins with a block or is not a script.
use Rattle.std.specs.Prelude.{ℕ, zero, suc, ◌≤◌, ◌<◌, ◌≡◌, Bool, cond, List, [], ◌∷◌, ◌++◌, eqb, length, get_or, take, drop}
use Rattle.rules.specs.Choice.{every, implies}
use Rattle.rules.specs.Scan.{all}
use Rattle.rules.specs.Layout.{NUMBER_MAX}
use Rattle.rules.specs.Store.{pid_of, fd_of}
use Rattle.rules.specs.Paths.{span, same_at}
use Rattle.rules.specs.Written.{BYTE, Written, parts_of, numbers_fit, normal}
use Rattle.rules.specs.declared.request.Parts.{Parts}
use Rattle.script_rules.specs.Text.{NEWLINE, not_newline, is_digit, is_hex, number_of, number_ok, decimal, bytes_of, hex_ok, hex_of}
use Rattle.script_rules.specs.declared.line.Line.{Line}
use Rattle.script_rules.specs.declared.line.Line.TheVariants as line

-- ---- a line: its key, its text, byte 10

abbrev pub key_of : Line → List ℕ
key_of line.Proc = 112 ∷ 114 ∷ 111 ∷ 99 ∷ 61 ∷ []
key_of line.Call = 99 ∷ 97 ∷ 108 ∷ 108 ∷ 61 ∷ []
key_of line.Fd = 102 ∷ 100 ∷ 61 ∷ []
key_of line.Arg = 97 ∷ 114 ∷ 103 ∷ 61 ∷ []
key_of line.Path = 112 ∷ 97 ∷ 116 ∷ 104 ∷ 61 ∷ []
key_of line.Data = 100 ∷ 97 ∷ 116 ∷ 97 ∷ 61 ∷ []

-- the bytes that may stand in its text
abbrev pub in_text : Line → ℕ → Bool
in_text line.Proc = is_digit
in_text line.Call = is_digit
in_text line.Fd = is_digit
in_text line.Arg = is_digit
in_text line.Path = not_newline
in_text line.Data = is_hex

-- S begins with the key, of which no byte is 0
unfoldable pub has_key : List ℕ → List ℕ → Bool
has_key key S = all (same_at S key) 0 (length key)

-- what stands after the key
abbrev pub after_key : Line → List ℕ → List ℕ
after_key l S = drop (length (key_of l)) S

-- how long the text is
abbrev pub text_length : Line → List ℕ → ℕ
text_length l S = span (in_text l) (after_key l S)

unfoldable pub text_of : Line → List ℕ → List ℕ
text_of l S = take (text_length l S) (after_key l S)

-- the text ends with byte 10
unfoldable pub line_ok : Line → List ℕ → Bool
line_ok l S = every (has_key (key_of l) S ∷ eqb (get_or (after_key l S) (text_length l S) 0) NEWLINE ∷ [])

-- the lines after it
unfoldable pub after_line : Line → List ℕ → List ℕ
after_line l S = drop 1 (drop (text_length l S) (after_key l S))

-- ---- the block's lines

abbrev pub from_call : List ℕ → List ℕ
from_call S = after_line line.Proc S

abbrev pub from_fd : List ℕ → List ℕ
from_fd S = after_line line.Call (from_call S)

abbrev pub from_arg : List ℕ → List ℕ
from_arg S = after_line line.Fd (from_fd S)

abbrev pub from_path : List ℕ → List ℕ
from_path S = after_line line.Arg (from_arg S)

abbrev pub from_data : List ℕ → List ℕ
from_data S = after_line line.Path (from_path S)

-- the blocks after it
abbrev pub after_block : List ℕ → List ℕ
after_block S = after_line line.Data (from_data S)

-- ---- what it asks for

-- the number of a line
abbrev pub number_in : Line → List ℕ → ℕ
number_in l S = number_of (text_of l S)

unfoldable pub number_line_ok : Line → List ℕ → Bool
number_line_ok l S = every (line_ok l S ∷ number_ok (text_of l S) ∷ [])

unfoldable pub data_line_ok : List ℕ → Bool
data_line_ok S = every (line_ok line.Data S ∷ hex_ok (text_of line.Data S) ∷ [])

-- the call as it is written down
abbrev pub block_of : List ℕ → Written
block_of S = record {
  process = pid_of (number_in line.Proc S);
  call = number_in line.Call (from_call S);
  fd = fd_of (number_in line.Fd (from_fd S));
  number = number_in line.Arg (from_arg S);
  path = text_of line.Path (from_path S);
  «data» = bytes_of (text_of line.Data (from_data S));
}

-- a text that is unused is empty
unfoldable pub texts_used : Parts → Written → Bool
texts_used u w = every (implies (eqb u.path 0) (eqb (length w.path) 0) ∷ implies (eqb u.«data» 0) (eqb (length w.«data») 0) ∷ [])

-- "an unused number is 0, an unused text empty, else the block is broken; an unknown call leaves nothing unused"
unfoldable pub parts_ok : Parts → Written → Bool
parts_ok u w = every (numbers_fit u w ∷ texts_used u w ∷ [])

-- which process makes which call
unfoldable pub head_lines_ok : List ℕ → Bool
head_lines_ok S = every (number_line_ok line.Proc S ∷ number_line_ok line.Call (from_call S) ∷ [])

-- the call's own numbers
unfoldable pub operand_lines_ok : List ℕ → Bool
operand_lines_ok S = every (number_line_ok line.Fd (from_fd S) ∷ number_line_ok line.Arg (from_arg S) ∷ [])

unfoldable pub number_lines_ok : List ℕ → Bool
number_lines_ok S = every (head_lines_ok S ∷ operand_lines_ok S ∷ [])

-- P from the path's line on, D from the data's
unfoldable pub text_lines_ok : (P D : List ℕ) → Bool
text_lines_ok P D = every (line_ok line.Path P ∷ data_line_ok D ∷ [])

unfoldable pub lines_ok : List ℕ → Bool
lines_ok S = every (number_lines_ok S ∷ text_lines_ok (from_path S) (from_data S) ∷ [])

unfoldable pub block_ok : List ℕ → Bool
block_ok S = every (lines_ok S ∷ parts_ok (parts_of (block_of S)) (block_of S) ∷ [])

-- ---- a script as it is printed from calls, and read again

abbrev pub line_for : Line → List ℕ → List ℕ
line_for l text = key_of l ++ (text ++ (NEWLINE ∷ []))

unfoldable pub printed_block : Written → List ℕ
printed_block w =
    line_for line.Proc (decimal w.process.0)
    ++ (line_for line.Call (decimal w.call)
    ++ (line_for line.Fd (decimal w.fd.0)
    ++ (line_for line.Arg (decimal w.number)
    ++ (line_for line.Path w.path
    ++ line_for line.Data (hex_of w.«data»)))))

unfoldable pub printed : List Written → List ℕ
printed [] = []
printed (w ∷ ws) = printed_block (normal w) ++ printed ws

-- a call that can be scripted: numbers of at most 65,535, bytes, and "A path with byte 10 cannot be scripted"
pub record Scriptable (w : Written) : Type 0 where
  pub process : w.process.0 ≤ NUMBER_MAX
  pub call : w.call ≤ NUMBER_MAX
  pub fd : w.fd.0 ≤ NUMBER_MAX
  pub path : (i : ℕ) → get_or w.path i 0 ≡ NEWLINE → ⊥
  pub bytes : (i : ℕ) → get_or w.«data» i 0 < BYTE

-- the first n blocks, up to the end or to one that is broken
unfoldable pub blocks : ℕ → List ℕ → List Written
blocks zero S = []
blocks (suc n) S = cond (block_ok S) (block_of S ∷ blocks n (after_block S)) []

-- what the first n of them leave
unfoldable pub after_blocks : ℕ → List ℕ → List ℕ
after_blocks zero S = S
after_blocks (suc n) S = cond (block_ok S) (after_blocks n (after_block S)) S
