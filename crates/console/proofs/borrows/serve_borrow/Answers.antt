use Rattle.console.proofs.BorrowLaws.{tables_after}
use Rattle.console.proofs.borrows.serve_borrow.Goals as goal

pub returns : goal.returns
returns c = tables_after _ _ c.bytes.ensures c.borrow_read-bytes.ensures
