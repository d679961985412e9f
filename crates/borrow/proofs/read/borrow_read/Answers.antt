use Rattle.borrow.proofs.Steps.{lent_back_lem}
use Rattle.borrow.proofs.read.borrow_read.Goals as goal

pub returns : goal.returns
returns c = lent_back_lem _ _ _ _ _ _ _ _ _ _ c.judge-d.ensures c.ofd_held.ensures c.refusal_of.ensures c.bytes_lent.ensures (c.move_on.ensures _ _ _)
