use Rattle.rights.proofs.Permissions.{names-stored, names-other}
use Rattle.rights.proofs.rights.permission_to_name.Goals as goal

pub returns-then-is_slot : goal.returns-then-is_slot
returns-then-is_slot c = search names-stored

pub returns-else-is_slot : goal.returns-else-is_slot
returns-else-is_slot c = search names-other
