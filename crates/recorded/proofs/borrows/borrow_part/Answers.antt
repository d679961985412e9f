-- As in `call_part`, but what is lent to be read alone comes back as it was: `borrowed` joins each such part with its rest.
use Rattle.recorded.proofs.BorrowLaws.{borrowed}
use Rattle.recorded.proofs.borrows.borrow_part.Goals as goal

pub returns : goal.returns
returns c = borrowed _ _ _ _ _ _ _ _ _ _ c.min-f.ensures c.min-e.ensures c.min-q.ensures c.upto.ensures c.upto-2.ensures c.borrow_read.ensures
