-- The answer of a call as it crosses to C, and the reader's buffer.
use Rattle.std.specs.Prelude.{ℕ, List, []}
use Rattle.rules.specs.Store.{Store, Tree, view}
use Rattle.rules.specs.Refusals.{GRANTED}
use Rattle.rules.specs.Directories.{padded}
use Rattle.rules.specs.Rom.{seen_tree}
use Rattle.rules.specs.Step.{name_out, fields_out, bytes_out, into, answer_of}
use Rattle.rules.specs.declared.decision.Output.{Output}
use Rattle.rules.specs.declared.answer.Answer.{Answer}

-- an answer of numbers alone
abbrev pub plain : (refusal stop value : ℕ) → Answer
plain r k n = answer_of (record { refusal = r; stop = k; value = n; name = []; fields = []; buffer = [] })

-- the answer of a granted call with value n and output o
abbrev pub output_answer : Tree → ℕ → Output → Answer
output_answer t n o = answer_of (record { refusal = GRANTED; stop = 0; value = n; name = name_out t o; fields = fields_out o; buffer = [] })

abbrev pub with_name : ℕ → List ℕ → Answer
with_name n name = answer_of (record { refusal = GRANTED; stop = 0; value = n; name = name; fields = []; buffer = [] })

-- a name of 16 bytes, of which `length` count
abbrev pub named : (value length : ℕ) → (name : List ℕ) → Answer
named n length name = record { refusal = GRANTED; stop = 0; value = n; name_length = length; name = name; fields = padded 8 [] }

abbrev pub with_fields : ℕ → List ℕ → Answer
with_fields n fields = answer_of (record { refusal = GRANTED; stop = 0; value = n; name = []; fields = fields; buffer = [] })

-- what an output says: the answer, and the buffer
pub record Said : Type 0 where
  pub answer : Answer
  pub buffer : List ℕ

abbrev pub said : Answer → List ℕ → Said
said a b = record { answer = a; buffer = b }

unfoldable pub said_of : List ℕ → Store → ℕ → Output → List ℕ → Said
said_of R s n o buffer = said (output_answer (seen_tree R (view s).tree) n o) (into buffer (bytes_out R s.contents o))
