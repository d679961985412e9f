use Rattle.borrow.proofs.Spans.{span-back, span_value}
use Rattle.borrow.proofs.span.borrow_span.Goals as goal

pub returns-clause-outcome : goal.returns-clause-outcome
returns-clause-outcome c = span-back _ _ _ _ _ _ _ c.judge-d.ensures c.span_of.ensures _ _ c.ofd_held.ensures (c.move_on.ensures _ _ _)

pub returns-clause-value : goal.returns-clause-value
returns-clause-value c = span_value _ _ _ _ _ _ _ c.judge-d.ensures c.span_of.ensures
