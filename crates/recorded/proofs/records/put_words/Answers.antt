use mathlib.Core.Path.{refl}
use native.Mathlib.Omega.{arith}
use borrow.Author.Rules.{rules}
use Rattle.recorded.proofs.WordLaws.{ended, more}
use Rattle.recorded.proofs.records.put_words.Goals as goal

pub loop-i-init : goal.loop-i-init
loop-i-init c = (refl, search rules)

pub loop-i-preserved : goal.loop-i-preserved
loop-i-preserved c = (search rules, more c.after-rest.result.now c.loop-i.words c.place_at-at.result c.loop-i.i c.loop-i.invariant.1 (omega arith) c.word_at.ensures)

pub returns : goal.returns
returns c = ended c.after-rest.result.now c.loop-i.words c.place_at-at.result c.loop-i.i c.loop-i.invariant.1 (omega arith)
