use Rattle.allocation.proofs.Parts.{ofd-part}
use Rattle.allocation.proofs.free.free_ofd.Goals as goal

pub returns-then-open_files-ge-OPEN_FILES_SIZE : goal.returns-then-open_files-ge-OPEN_FILES_SIZE
returns-then-open_files-ge-OPEN_FILES_SIZE c = search ofd-part
