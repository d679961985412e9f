-- A borrowing read's bytes by numbers: R is the factory part, C the contents.
use Rattle.std.specs.Prelude.{ℕ, ◌+◌, ◌-◌, ◌*◌, ◌%◌, ◌^◌, min, cond, Ok, Err, List, eqb, length, take, drop}
use Rattle.rules.specs.Layout.{BLOCK, SLOTS}
use Rattle.rules.specs.Store.{is_slot}
use Rattle.rules.specs.Refusals.{refusal_number, GRANTED}
use Rattle.rules.specs.Step.{bytes_of}
use Rattle.rules.specs.declared.ids.Slot.{Slot}
use Rattle.rules.specs.declared.decision.Output.{Output}
use Rattle.rules.specs.declared.decision.Output.TheVariants as output
use Rattle.rules.specs.Decisions.{Decision}
use Rattle.rom.specs.Rest.{prompt_rest}
use Rattle.borrow.specs.declared.span.Borrowed.{Borrowed}

-- the bytes that the numbers name
unfoldable pub span_bytes : (R C : List ℕ) → Borrowed → List ℕ
span_bytes R C b = take b.value (drop b.at (cond (eqb b.memory 0) C R))

-- where in M its tail X begins, as a word
abbrev pub placed : (M X : List ℕ) → ℕ
placed M X = (length M - length X) % 2 ^ 32

unfoldable pub memory_of : Slot → ℕ
memory_of s = cond (is_slot s) 0 1

unfoldable pub place_of : (R C : List ℕ) → Slot → (from : ℕ) → ℕ
place_of R C s from = cond (is_slot s) (placed C (drop (BLOCK * s.0 + from) C)) (placed R (drop from (prompt_rest R (s.0 - SLOTS))))

abbrev pub span_in : (R C : List ℕ) → Slot → (from n : ℕ) → Borrowed
span_in R C s from n = record { refusal = GRANTED; value = min (length (take n (drop from (bytes_of R C s)))) n; memory = memory_of s; at = place_of R C s from }

-- no bytes
abbrev pub none : (refusal : ℕ) → Borrowed
none r = record { refusal = r; value = 0; memory = 0; at = 0 }

unfoldable pub span_out : (R C : List ℕ) → Output → Borrowed
span_out R C output.Nothing = none GRANTED
span_out R C (output.Name d i) = none GRANTED
span_out R C (output.Fields r) = none GRANTED
span_out R C (output.Bytes s from n) = span_in R C s from n

unfoldable pub span_of : (R C : List ℕ) → Decision → Borrowed
span_of R C (Err stop) = none (refusal_number stop.refusal)
span_of R C (Ok grant) = span_out R C grant.output
