use Rattle.reply.proofs.Names.{listed_root, listed_rom, listed_own}
use Rattle.reply.proofs.answer.answer_listed.Goals as goal

pub returns-then-is_root : goal.returns-then-is_root
returns-then-is_root c = search listed_root

pub returns-then-is_rom : goal.returns-then-is_rom
returns-then-is_rom c = search listed_rom

pub returns : goal.returns
returns c = search listed_own
