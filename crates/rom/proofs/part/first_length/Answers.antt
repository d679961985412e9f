use Rattle.rom.proofs.Prompts.{first-length}
use Rattle.rom.proofs.part.first_length.Goals as goal

pub returns : goal.returns
returns c = search first-length
