use native.Mathlib.Omega.{arith}
use borrow.Author.Rules.{rules}
use Rattle.replay.proofs.RunLaws.{starts, stop-turn, answer-turn}
use Rattle.replay.proofs.run.run_by.Goals as goal

pub loop-why-init : goal.loop-why-init
loop-why-init c = record { calls = search rules; in_script = search rules; in_output = search rules; run = starts _ _ _ _ _ _ }

pub returns-in-Err : goal.returns-in-Err
returns-in-Err c = rw c.stopped.ensures (stop-turn _ _ _ _ _ _ _ _ _ _ c.after.ensures _ _ _ c.take_turn-t.ensures c.loop-why.invariant.run _ c.in-Err.is)

pub overflow_add-at : goal.overflow_add-at
overflow_add-at c = omega (arith, (answer-turn _ _ _ _ _ _ _ _ _ _ c.after.ensures _ _ _ c.take_turn-t.ensures c.loop-why.invariant.run _ _ c.in-Ok.is c.loop-why.invariant.calls c.loop-why.invariant.in_script c.loop-why.invariant.in_output).within)

pub overflow_add-written : goal.overflow_add-written
overflow_add-written c = omega (arith, (answer-turn _ _ _ _ _ _ _ _ _ _ c.after.ensures _ _ _ c.take_turn-t.ensures c.loop-why.invariant.run _ _ c.in-Ok.is c.loop-why.invariant.calls c.loop-why.invariant.in_script c.loop-why.invariant.in_output).fits, c.loop-why.auto.output)

pub overflow_sub-allowed : goal.overflow_sub-allowed
overflow_sub-allowed c = omega (arith, (answer-turn _ _ _ _ _ _ _ _ _ _ c.after.ensures _ _ _ c.take_turn-t.ensures c.loop-why.invariant.run _ _ c.in-Ok.is c.loop-why.invariant.calls c.loop-why.invariant.in_script c.loop-why.invariant.in_output).allowed)

pub loop-why-smaller : goal.loop-why-smaller
loop-why-smaller c = omega (arith, (answer-turn _ _ _ _ _ _ _ _ _ _ c.after.ensures _ _ _ c.take_turn-t.ensures c.loop-why.invariant.run _ _ c.in-Ok.is c.loop-why.invariant.calls c.loop-why.invariant.in_script c.loop-why.invariant.in_output).allowed)

pub loop-why-preserved : goal.loop-why-preserved
loop-why-preserved c = let h = answer-turn _ _ _ _ _ _ _ _ _ _ c.after.ensures _ _ _ c.take_turn-t.ensures c.loop-why.invariant.run _ _ c.in-Ok.is c.loop-why.invariant.calls c.loop-why.invariant.in_script c.loop-why.invariant.in_output in
    record { calls = omega arith; in_script = omega (arith, h.within); in_output = omega (arith, h.fits, h.output); run = h.rest }
