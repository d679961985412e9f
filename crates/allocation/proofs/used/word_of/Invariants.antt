use Rattle.rules.specs.Store.{desc_of}
use Rattle.allocation.proofs.Descriptors.{Left}
use Rattle.allocation.proofs.used.word_of.Given as goal

abbrev pub invariant-loop-i : goal.invariant-loop-i
invariant-loop-i l = Left (desc_of l.processes) l.p l.w l.i
