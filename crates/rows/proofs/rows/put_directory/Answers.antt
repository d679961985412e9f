use Rattle.rows.proofs.rows.put_directory.Goals as goal

pub returns : goal.returns
returns c = rw (c.put-2.ensures, c.put.ensures)
