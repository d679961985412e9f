-- R-1's example, by computation. A run tests each store that a call finds; here each test is computed once, on the quick view of the cases, and the calls
-- are then made by `act`.
use Prim.Native.Nat.{ℕ, suc, ◌+◌, ◌-◌}
use mathlib.Core.Path.{◌≡◌, refl, sym, ap, ◌∙◌, subst}
use mathlib.Core.Bool.{Bool, true, cond, not}
use mathlib.Core.List.{List, [], ◌∷◌}
use lib.Dec.{eqb, ltb}
use lib.ListN.{length}
use Rattle.rules.specs.Store.{Store, Fixed}
use Rattle.rules.specs.Step.{Outcome, act, step}
use Rattle.rules.specs.Console.{console, console_fixed}
use Rattle.cases.proofs.Quick.{quick, quick_sound, no-prompts, sound-of, step-act}
use Rattle.cases.proofs.Cases.{policy-sound, console-sound}
use Rattle.script_rules.specs.Computing.{computing}
use Rattle.script_rules.specs.Blocks.{block_ok, after_block}
use Rattle.script_rules.specs.Replay.{Run, next_call, reply_text, stopped, took, run}
use Rattle.script_rules.specs.declared.replayed.Reason.TheVariants as reason
use Rattle.script_example.specs.Example.{SCRIPT, OUTPUT, shown, Example}

-- ---- one turn of a run whose call came to x, after which the run is r

unfoldable turned : (S : List ℕ) (at room : ℕ) → Store → Outcome → Run → Run
turned S at room s x r =
    cond (eqb (length S) 0) (stopped reason.End at s)
    (cond (not (block_ok S)) (stopped reason.Broken at s)
    (cond (ltb room (length (reply_text x.reply))) (stopped reason.Room at s)
    (took (next_call S) (reply_text x.reply) r)))

-- where the next block begins, and the room that is left for it
abbrev onward : (S : List ℕ) (at : ℕ) → ℕ
onward S at = at + (length S - length (after_block S))

abbrev left : (room : ℕ) → Outcome → ℕ
left room x = room - length (reply_text x.reply)

turn : (n : ℕ) (K : Fixed) (S : List ℕ) (at room : ℕ) (s : Store) → run (suc n) K S at room s ≡ turned S at room s (step K s (next_call S)) (run n K (after_block S) (onward S at) (left room (step K s (next_call S))) (step K s (next_call S)).store)
unfolding run turned
turn n K S at room s = refl

turn_by :
    (n : ℕ) (K : Fixed) (S : List ℕ) (at room : ℕ) (s : Store) (x : Outcome) (r : Run) → step K s (next_call S) ≡ x → run n K (after_block S) (onward S at) (left room x) x.store ≡ r →
    run (suc n) K S at room s ≡ turned S at room s x r
turn_by n K S at room s x r e q =
    turn n K S at room s
    ∙ subst (λ (y : Outcome). turned S at room s y (run n K (after_block S) (onward S at) (left room y) y.store) ≡ turned S at room s x r)
    (sym e) (ap (turned S at room s x) q)

-- ---- the two calls

abbrev opened : Outcome
opened = act console_fixed console (next_call SCRIPT)

abbrev REST : List ℕ
REST = after_block SCRIPT

abbrev read : Outcome
read = act console_fixed opened.store (next_call REST)

-- opens all that is computed with
unfoldable computed : Bool
unfolding computing turned quick
computed = true

opened-sound : quick_sound [] opened.store ≡ true
unfolding computed
opened-sound = refl

opens : step console_fixed console (next_call SCRIPT) ≡ opened
opens = step-act console_fixed console (next_call SCRIPT) (sound-of console_fixed policy-sound no-prompts console console-sound)

reads : step console_fixed opened.store (next_call REST) ≡ read
reads = step-act console_fixed opened.store (next_call REST) (sound-of console_fixed policy-sound no-prompts opened.store opened-sound)

abbrev room : ℕ
room = length OUTPUT

-- the run by `act`
abbrev end : Run
end = run 0 console_fixed (after_block REST) (onward REST (onward SCRIPT 0)) (left (left room opened) read) read.store

abbrev acted : Run
acted = turned SCRIPT 0 room console opened (turned REST (onward SCRIPT 0) (left room opened) opened.store read end)

is-acted : run 2 console_fixed SCRIPT 0 room console ≡ acted
is-acted =
    turn_by 1 console_fixed SCRIPT 0 room console opened _ opens
    (turn_by 0 console_fixed REST (onward SCRIPT 0) (left room opened) opened.store read end reads refl)

computes : shown acted ≡ 2 ∷ length SCRIPT ∷ 1 ∷ OUTPUT
unfolding computed
computes = refl

pub example : Example
example = ap shown is-acted ∙ computes
