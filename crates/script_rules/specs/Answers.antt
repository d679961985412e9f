-- "Each answer is three lines, the stop number not among them: answer=, value=, data="
use Rattle.std.specs.Prelude.{ℕ, cond, List, [], ◌∷◌, ◌++◌, eqb, get_or, take}
use Rattle.rules.specs.Layout.{FILE_KIND, FILE_OWNER, FILE_GROUP, FILE_BITS, FILE_LABEL, FILE_LENGTH, FILE_LINKS, FILE_VERSION}
use Rattle.rules.specs.declared.answer.Answer.{Answer}
use Rattle.script_rules.specs.Text.{NEWLINE, decimal, hex_of, little}

-- "for stat, kind 1, owner 2, .. label 1, length 2, names 2, stamp 4 bytes, little end first"; and by R-4 "two for bits instead of one, and two for
-- the group after owner"
unfoldable pub stat_bytes : List ℕ → List ℕ
stat_bytes f =
    little 1 (get_or f FILE_KIND 0)
    ++ (little 2 (get_or f FILE_OWNER 0)
    ++ (little 2 (get_or f FILE_GROUP 0)
    ++ (little 2 (get_or f FILE_BITS 0)
    ++ (little 1 (get_or f FILE_LABEL 0)
    ++ (little 2 (get_or f FILE_LENGTH 0)
    ++ (little 2 (get_or f FILE_LINKS 0)
    ++ little 4 (get_or f FILE_VERSION 0)))))))

-- of an answer with fields; a file's kind is never 0
unfoldable pub field_bytes : List ℕ → List ℕ
field_bytes f = cond (eqb (get_or f FILE_KIND 0) 0) [] (stat_bytes f)

-- "bytes read or .. a listed name; for stat ..". The buffer of a call that does not read is empty
unfoldable pub data_of : Answer → (buffer : List ℕ) → List ℕ
data_of a buffer = take a.name_length a.name ++ (field_bytes a.fields ++ take a.value buffer)

-- "answer=", "value=", "data="
abbrev pub ANSWER : List ℕ
ANSWER = 97 ∷ 110 ∷ 115 ∷ 119 ∷ 101 ∷ 114 ∷ 61 ∷ []

abbrev pub VALUE : List ℕ
VALUE = 118 ∷ 97 ∷ 108 ∷ 117 ∷ 101 ∷ 61 ∷ []

abbrev pub DATA : List ℕ
DATA = 100 ∷ 97 ∷ 116 ∷ 97 ∷ 61 ∷ []

abbrev pub line_with : (key text : List ℕ) → List ℕ
line_with key text = key ++ (text ++ (NEWLINE ∷ []))

unfoldable pub answer_text : Answer → (buffer : List ℕ) → List ℕ
answer_text a buffer = line_with ANSWER (decimal a.refusal) ++ (line_with VALUE (decimal a.value) ++ line_with DATA (hex_of (data_of a buffer)))
