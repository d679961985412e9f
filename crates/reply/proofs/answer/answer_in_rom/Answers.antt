use Rattle.reply.proofs.Names.{name-short}
use Rattle.reply.proofs.answer.answer_in_rom.Goals as goal

pub returns : goal.returns
returns c = rw (c.dirent_name.ensures, c.upto.ensures, c.rom_size.ensures, c.prompt_entries-all.ensures, name-short) at c.answer_named.ensures
