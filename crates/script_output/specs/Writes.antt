-- What is written of an answer: all of it where there is room, else nothing.
use Rattle.std.specs.Prelude.{ℕ, ◌+◌, ◌-◌, ◌≤◌, ◌≡◌, cond, Option, Some, None, List, ◌++◌, leb, length, take}
use Rattle.std.proofs.lemmas.List.Edits.{sets}
use Rattle.rules.specs.declared.answer.Answer.{Answer}
use Rattle.script_rules.specs.Text.{decimal, hex_of}
use Rattle.script_rules.specs.Answers.{field_bytes, line_with, ANSWER, VALUE, DATA}

-- ---- a text written from `at` on

abbrev pub Room : (out : List ℕ) (at : ℕ) (text : List ℕ) → Type 0
Room out at text = at + length text ≤ length out

-- what the output is then, and where the text ends
pub record Wrote (out : List ℕ) (at : ℕ) (text after : List ℕ) (end : ℕ) : Type 0 where
  pub output : after ≡ sets out at text
  pub ends : end ≡ at + length text

-- ---- an answer, with the hex of each of its parts

abbrev pub data_hex : Answer → (buffer : List ℕ) → List ℕ
data_hex a buffer = hex_of (take a.name_length a.name) ++ (hex_of (field_bytes a.fields) ++ hex_of (take a.value buffer))

abbrev pub lines_of : Answer → (buffer : List ℕ) → List ℕ
lines_of a buffer = line_with ANSWER (decimal a.refusal) ++ (line_with VALUE (decimal a.value) ++ line_with DATA (data_hex a buffer))

-- ---- where there is room

pub record Written : Type 0 where
  pub length : Option ℕ  -- none where there is no room
  pub output : List ℕ

abbrev pub writes : Option ℕ → List ℕ → Written
writes n out = record { length = n; output = out }

unfoldable pub written : (out : List ℕ) (at : ℕ) (text : List ℕ) → Written
written out at text = cond (leb (length text) (length out - at)) (writes (Some (length text)) (sets out at text)) (writes None out)
