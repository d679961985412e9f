use Rattle.resolution.proofs.Packed.{name-short, name-read, ends-past}
use Rattle.resolution.proofs.path_names.read_name.Goals as goal

pub overflow_sub-low : goal.overflow_sub-low
overflow_sub-low c = search ends-past

pub returns-then-low-start : goal.returns-then-low-start
returns-then-low-start c = search name-short

pub returns : goal.returns
returns c = search name-read
