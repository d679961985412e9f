use Rattle.rows.proofs.rows.put_held.Goals as goal

pub returns : goal.returns
returns c = cc
