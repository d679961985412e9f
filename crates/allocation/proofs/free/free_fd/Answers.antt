use mathlib.Core.Path.{ap}
use Rattle.rules.specs.Store.{fd_of}
use Rattle.allocation.proofs.Descriptors.{a_byte, lowest-free}
use Rattle.allocation.proofs.free.free_fd.Goals as goal

pub overflow_cast-lowest : goal.overflow_cast-lowest
overflow_cast-lowest c = record { fits = search a_byte }

pub returns : goal.returns
returns c = ap fd_of (search lowest-free)
