-- A borrowing read in steps: its decision, and the parts of what that gives.
use Rattle.std.specs.Prelude.{ℕ, cond, Ok, Err, List, [], ◌∷◌}
use Rattle.rules.specs.Layout.{OPEN_OFFSET}
use Rattle.rules.specs.Store.{Fixed, Store, view, open_word, apply_all, plus}
use Rattle.rules.specs.Refusals.{refusal_number, GRANTED}
use Rattle.rules.specs.Rom.{seen}
use Rattle.rules.specs.Decide.{decide_borrow}
use Rattle.rules.specs.Sound.{sound}
use Rattle.rules.specs.Step.{bytes_out}
use Rattle.rules.specs.declared.ids.Pid.{Pid}
use Rattle.rules.specs.declared.ids.Fd.{Fd}
use Rattle.rules.specs.declared.ids.Ofd.{Ofd}
use Rattle.rules.specs.declared.refusal.Refusal.TheVariants.{Unsound}
use Rattle.rules.specs.declared.decision.Output.{Output}
use Rattle.rules.specs.declared.decision.Output.TheVariants as output
use Rattle.rules.specs.Decisions.{Decision, Refused}

-- the decision, with the soundness test first
unfoldable pub judged : Fixed → Store → Pid → Fd → ℕ → Decision
judged K s p i n = cond (sound K s) (decide_borrow K (seen K.rom (view s)) p i n) (Refused Unsound 0)

unfoldable pub refusal_of : Decision → ℕ
refusal_of (Err stop) = refusal_number stop.refusal
refusal_of (Ok grant) = GRANTED

unfoldable pub bytes_lent : (R C : List ℕ) → Decision → List ℕ
bytes_lent R C (Err stop) = []
bytes_lent R C (Ok grant) = bytes_out R C grant.output

-- what is read through open file e moves its offset
unfoldable pub offset_moved : Ofd → Output → Store → Store
offset_moved e output.Nothing t = t
offset_moved e (output.Name d i) t = t
offset_moved e (output.Fields r) t = t
offset_moved e (output.Bytes s from n) t = apply_all (open_word e.0 OPEN_OFFSET (plus from n) ∷ []) t

unfoldable pub moved_on : Ofd → Decision → Store → Store
moved_on e (Err stop) t = t
moved_on e (Ok grant) t = offset_moved e grant.output t
