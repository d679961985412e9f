use Rattle.allocation.proofs.Descriptors.{bits-held, alone}
use Rattle.allocation.proofs.used.used_descriptors.Goals as goal

pub returns-then-end-processes-clause-word : goal.returns-then-end-processes-clause-word
returns-then-end-processes-clause-word c = search alone

pub returns-then-end-processes-clause-bits : goal.returns-then-end-processes-clause-bits
returns-then-end-processes-clause-bits c = search (bits-held, alone)

pub returns-clause-bits : goal.returns-clause-bits
returns-clause-bits c = search bits-held
