-- The answer is written before anything is changed: with no room for it the tables stand as they were (`unserved`), else the call is carried out (`serves`).
use Rattle.script_turn.proofs.TurnLaws.{unserved, serves}
use Rattle.script_turn.proofs.turn.serve.Goals as goal

pub returns-in_err-n : goal.returns-in_err-n
returns-in_err-n c = rw c.from_residual.ensures (unserved _ _ _ _ _ _ _ c.judge-d.ensures _ _ (c.answer-a.ensures _ _) _ _ c.write_answer.ensures c.in_err-n.was)

pub returns : goal.returns
returns c = serves _ _ _ _ _ _ _ c.judge-d.ensures _ _ (c.answer-a.ensures _ _) _ _ c.write_answer.ensures c.in_ok-n.was (c.carry.ensures c.args.buffer.now)
