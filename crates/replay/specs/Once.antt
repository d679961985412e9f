-- A run whose soundness test was made before its first call: `fit` is what it said.
use Rattle.std.specs.Prelude.{ℕ, zero, suc, ◌+◌, ◌-◌, Bool, cond, not, List, eqb, ltb, length}
use Rattle.rules.specs.Store.{Store, Fixed}
use Rattle.stages.specs.Judged.{act_if}
use Rattle.script_rules.specs.Blocks.{block_ok, after_block}
use Rattle.script_rules.specs.Replay.{Run, stopped, took, next_call}
use Rattle.script_rules.specs.declared.replayed.Reason.TheVariants as reason
use Rattle.script_turn.specs.Turns.{text_if}

-- as the rules' `run`
unfoldable pub run_if : (fit : Bool) (n : ℕ) → Fixed → (S : List ℕ) (at room : ℕ) → Store → Run
run_if fit zero K S at room s = cond (eqb (length S) 0) (stopped reason.End at s) (stopped reason.Allowance at s)
run_if fit (suc n) K S at room s =
    cond (eqb (length S) 0) (stopped reason.End at s)
    (cond (not (block_ok S)) (stopped reason.Broken at s)
    (cond (ltb room (length (text_if fit K S s))) (stopped reason.Room at s)
    (took (next_call S) (text_if fit K S s)
    (run_if fit n K (after_block S) (at + (length S - length (after_block S))) (room - length (text_if fit K S s)) (act_if fit K s (next_call S)).store))))
