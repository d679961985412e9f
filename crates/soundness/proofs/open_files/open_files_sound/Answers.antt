use Rattle.soundness.proofs.Bridge.{open-files-by}
use Rattle.soundness.proofs.open_files.open_files_sound.Goals as goal

pub returns : goal.returns
returns c = search open-files-by
