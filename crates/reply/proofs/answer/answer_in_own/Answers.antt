use Rattle.reply.proofs.Names.{name-short}
use Rattle.reply.proofs.answer.answer_in_own.Goals as goal

pub returns : goal.returns
returns c = rw (c.dirent_name.ensures, c.shown.ensures, name-short) at c.answer_named.ensures
