-- One test is enough for a run: a call leaves a store sound, or not sound, as it was.
use Prim.Native.Nat.{ℕ, zero, suc, ◌+◌, ◌-◌}
use mathlib.Core.Path.{◌≡◌, refl, sym, ◌∙◌, ap}
use mathlib.Core.Bool.{Bool, true, false, cond, not}
use mathlib.Core.List.{List}
use lib.Dec.{eqb, ltb}
use lib.ListN.{length}
use Rattle.rules.specs.Store.{Store, Fixed}
use Rattle.rules.specs.Sound.{sound}
use Rattle.rules.specs.Calls.{Call}
use Rattle.rules.specs.Step.{step}
use Rattle.preservation.proofs.Proved.{claims}
use Rattle.stages.specs.Judged.{act_if}
use Rattle.stages.proofs.StageLaws.{step-judged}
use Rattle.script_rules.specs.Blocks.{block_ok, after_block}
use Rattle.script_rules.specs.Replay.{Run, stopped, took, run, next_call, next_text}
use Rattle.script_rules.specs.declared.replayed.Reason.TheVariants as reason
use Rattle.replay.specs.Once.{run_if}

stays : (K : Fixed) (s : Store) (c : Call) → sound K (step K s c).store ≡ sound K s
stays K s c = by (sound K s) refl
  where
    by : (t : Bool) → sound K s ≡ t → sound K (step K s c).store ≡ sound K s
    by true e = claims.call-keeps-sound K s c e ∙ sym e
    by false e = unfold step in rw e e

-- the run whose calls go by the test of the first store is the rules' run, whose calls are tested each
pub once : (fit : Bool) (n : ℕ) (K : Fixed) (S : List ℕ) (at room : ℕ) (s : Store) → fit ≡ sound K s → run_if fit n K S at room s ≡ run n K S at room s
unfolding run run_if
once fit zero K S at room s e = refl
once fit (suc n) K S at room s e =
    let called : act_if fit K s (next_call S) ≡ step K s (next_call S) = rw e (sym (step-judged K s (next_call S))) in
    let rest = once fit n K (after_block S) (at + (length S - length (after_block S))) (room - length (next_text K S s)) (step K s (next_call S)).store (e ∙ sym (stays K s (next_call S))) in
    rw called
    (ap
    (λ (r : Run).
    cond (eqb (length S) 0) (stopped reason.End at s)
    (cond (not (block_ok S)) (stopped reason.Broken at s)
    (cond (ltb room (length (next_text K S s))) (stopped reason.Room at s)
    (took (next_call S) (next_text K S s) r))))
    rest)
