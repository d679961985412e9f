-- One chain of writes into empty contents: what each ensures, from the last to the first, with the bytes that it was given, leaves an equation that computes.
use Rattle.rules.specs.Computing.{computing}
use Rattle.day.proofs.test_console.contents.Goals as goal

pub returns : goal.returns
unfolding computing
returns c = rw (c.copy-2.ensures, c.copy.ensures, c.put_dirent-3.ensures, c.put_dirent-2.ensures, c.put_dirent.ensures)
