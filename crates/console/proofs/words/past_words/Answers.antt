use Rattle.console.proofs.WordLaws.{past-start, past-step, past-done}
use Rattle.console.proofs.words.past_words.Goals as goal

pub loop-init : goal.loop-init
loop-init c = past-start _ _

pub loop-preserved : goal.loop-preserved
loop-preserved c = past-step _ _ _ c.loop.invariant c.loop-test.true c.after_word-rest.ensures

pub returns : goal.returns
returns c = past-done _ _ _ c.loop.invariant c.loop-test.false
