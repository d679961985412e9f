-- A line that makes a borrowing read: the process, "borrow", the descriptor and the count.
use Rattle.std.specs.Prelude.{ℕ, Bool, cond, List, [], ◌∷◌, eqb, length, Option, Some, None}
use Rattle.std.specs.Option.{is_some}
use Rattle.std.specs.Str.{bytes_eq}
use Rattle.rules.specs.Store.{store, fixed}
use Rattle.rules.specs.Step.{Outcome, step_borrow}
use Rattle.rules.specs.declared.request.Request.{Request}
use Rattle.console.specs.Words.{word_of}
use Rattle.console.specs.Settings.{part_of}
use Rattle.console.specs.Numbers.{number_at}
use Rattle.console.specs.Calls.{request_of, with_store, call_in, line_called}
use Rattle.console.specs.declared.settings.Console.{Console}

-- "borrow"
abbrev pub BORROW : List ℕ
BORROW = 98 ∷ 111 ∷ 114 ∷ 114 ∷ 111 ∷ 119 ∷ []

unfoldable pub borrows : List ℕ → Bool
borrows l = bytes_eq (word_of l 1) BORROW

-- its numbers in the places that a read has for them; the line ends with them
unfoldable pub borrow_in : List ℕ → Option Request
borrow_in l = cond (eqb (length (word_of l 4)) 0) (request_of (number_at l 0) (Some 0) (number_at l 2) (number_at l 3)) None

-- ---- the tables after it

abbrev pub borrowed_on : Console → Request → Outcome
borrowed_on s c = step_borrow (fixed s.policy (part_of s)) (store s.files s.contents s.open_files s.processes) c.process c.fd c.number

unfoldable pub borrowed_tables : Console → Request → Console
borrowed_tables s c = with_store s (borrowed_on s c).store

-- a line that makes none changes nothing
unfoldable pub borrow_made : Option Request → Console → Console
borrow_made (Some c) s = borrowed_tables s c
borrow_made None s = s

abbrev pub line_borrowed : List ℕ → Console → Console
line_borrowed l s = borrow_made (borrow_in l) s

-- a line that makes a borrowing read or a call
unfoldable pub line_asked : List ℕ → Console → Console
line_asked l s = cond (borrows l) (line_borrowed l s) (line_called l s)

-- the line is understood
unfoldable pub asked_known : List ℕ → Bool
asked_known l = cond (borrows l) (is_some (borrow_in l)) (is_some (call_in l))
