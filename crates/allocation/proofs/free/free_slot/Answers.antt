use Rattle.allocation.proofs.Parts.{slot-all, slot-part}
use Rattle.allocation.proofs.free.free_slot.Goals as goal

pub returns-then-files-ge-FILES_SIZE : goal.returns-then-files-ge-FILES_SIZE
returns-then-files-ge-FILES_SIZE c = search slot-part

pub returns : goal.returns
returns c = search slot-all
