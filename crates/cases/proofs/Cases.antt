-- Every P case holds of the rules, by computation.
use mathlib.Core.Path.{◌≡◌, refl}
use mathlib.Core.Bool.{Bool, true}
use mathlib.Core.List.{List, [], ◌∷◌}
use Rattle.rules.specs.Computing.{computing}
use Rattle.rules.specs.Sound.{policy_sound}
use Rattle.rules.specs.Console.{console, console_fixed, console_policy}
use Rattle.cases.specs.Rows.{Row, with_all, same, same_numbers, same_out, same_reply, same_slots, same_store, row_holds, holds}
use Rattle.cases.specs.Table.{AllCases, table, line-1, line-1-slashes, line-2, line-3, line-4, line-5, line-6, line-7, line-8, line-9}
use Rattle.cases.proofs.Quick.{quick, quick_sound, no-prompts, sound-of}
use Rattle.cases.proofs.Lines.{needed, onward, check, more}

-- opens all that a row computes with
unfoldable computed : Bool
unfolding computing console console_policy with_all same same_numbers same_out same_reply same_slots same_store row_holds quick needed onward check
computed = true

pub policy-sound : policy_sound console_policy ≡ true
unfolding computed
policy-sound = refl

pub console-sound : quick_sound [] console ≡ true
unfolding computed
console-sound = refl

line-1-checked : check console line-1 ≡ true
unfolding computed line-1
line-1-checked = refl

line-1-slashes-checked : check console line-1-slashes ≡ true
unfolding computed line-1-slashes
line-1-slashes-checked = refl

line-2-checked : check console line-2 ≡ true
unfolding computed line-2
line-2-checked = refl

line-3-checked : check console line-3 ≡ true
unfolding computed line-3
line-3-checked = refl

line-4-checked : check console line-4 ≡ true
unfolding computed line-4
line-4-checked = refl

line-5-checked : check console line-5 ≡ true
unfolding computed line-5
line-5-checked = refl

line-6-checked : check console line-6 ≡ true
unfolding computed line-6
line-6-checked = refl

line-7-checked : check console line-7 ≡ true
unfolding computed line-7
line-7-checked = refl

line-8-checked : check console line-8 ≡ true
unfolding computed line-8
line-8-checked = refl

line-9-checked : check console line-9 ≡ true
unfolding computed line-9
line-9-checked = refl

fresh : (l : List Row) (ls : List (List Row)) → check console l ≡ true → holds ls ≡ true → holds (l ∷ ls) ≡ true
fresh l ls h rest = more policy-sound l ls (sound-of console_fixed policy-sound no-prompts console console-sound) h rest

-- the end of the table
none : holds [] ≡ true
unfolding holds
none = refl

pub all-cases : AllCases
unfolding table
all-cases =
    fresh line-1 _ line-1-checked
    (fresh line-1-slashes _ line-1-slashes-checked
    (fresh line-2 _ line-2-checked
    (fresh line-3 _ line-3-checked
    (fresh line-4 _ line-4-checked
    (fresh line-5 _ line-5-checked
    (fresh line-6 _ line-6-checked
    (fresh line-7 _ line-7-checked
    (fresh line-8 _ line-8-checked
    (fresh line-9 _ line-9-checked
    none)))))))))
