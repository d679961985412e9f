-- A write for each word of the record, in the order of the words, so what the writes ensure, from the last to the first, is `puts` word by word.
use Rattle.rows.proofs.rows.put_record.Goals as goal

pub returns : goal.returns
returns c = rw (c.put-8.ensures, c.put-7.ensures, c.put-6.ensures, c.put-5.ensures, c.put-4.ensures, c.put-3.ensures, c.put-2.ensures, c.put.ensures)
