-- A line of a script, and what it makes of the tables.
use Rattle.std.specs.Prelude.{ℕ, Bool, true, cond, List, [], ◌∷◌, eqb, get_or, Option, Some, None}
use Rattle.std.specs.List.{slice_get}
use Rattle.std.specs.Option.{option_and_then}
use Rattle.rules.specs.Choice.{some}
use Rattle.console.specs.Words.{word_of, index_of}
use Rattle.console.specs.Settings.{line_set, set_known, line_shown, fresh_tables}
use Rattle.console.specs.Borrows.{line_asked, asked_known}
use Rattle.console.specs.declared.Kind.{Kind}
use Rattle.console.specs.declared.Kind.TheVariants.{Fresh, Set, Show}
use Rattle.console.specs.declared.settings.Console.{Console}

-- empty, or a comment
unfoldable pub is_silent : List ℕ → Bool
is_silent l = some (eqb (get_or l 0 0) 0 ∷ eqb (get_or l 0 0) 35 ∷ [])

-- "fresh set show"
abbrev pub KINDS : List ℕ
KINDS = 102 ∷ 114 ∷ 101 ∷ 115 ∷ 104 ∷ 32 ∷ 115 ∷ 101 ∷ 116 ∷ 32 ∷ 115 ∷ 104 ∷ 111 ∷ 119 ∷ []

unfoldable pub kind_of : List ℕ → Option Kind
kind_of l = option_and_then (λ k. slice_get (Fresh ∷ Set ∷ Show ∷ []) k) (index_of KINDS (word_of l 0))

-- a line of a kind; any other makes a call or a borrowing read
unfoldable pub kind_taken : Option Kind → (script l : List ℕ) → Console → Console
kind_taken (Some Fresh) script l s = fresh_tables script
kind_taken (Some Set) script l s = line_set l s
kind_taken (Some Show) script l s = s
kind_taken None script l s = line_asked l s

unfoldable pub line_taken : (script l : List ℕ) → Console → Console
line_taken script l s = cond (is_silent l) s (kind_taken (kind_of l) script l s)

-- the line is understood
unfoldable pub kind_known : Option Kind → (l : List ℕ) → Bool
kind_known (Some Fresh) l = true
kind_known (Some Set) l = set_known l
kind_known (Some Show) l = line_shown l
kind_known None l = asked_known l

unfoldable pub line_known : (l : List ℕ) → Bool
line_known l = cond (is_silent l) true (kind_known (kind_of l) l)
