use Rattle.rules.specs.Store.{apply_all}
use Rattle.rows.proofs.rows.clear_slot.Goals as goal

pub returns : goal.returns
unfolding apply_all
returns c = λ E P. rw (c.fill.ensures, c.put_record.ensures)
