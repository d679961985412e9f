use Rattle.rules.specs.DecidePaths.{remove_at}
use Rattle.rules.proofs.Choices.{passed}
use Rattle.rights.proofs.Permissions.{forbidden}
use Rattle.remove_calls.proofs.remove.remove_at.Goals as goal

pub returns-in_err-permission_to_name : goal.returns-in_err-permission_to_name
unfolding remove_at
returns-in_err-permission_to_name c = passed _ _ _ _ _ c.is_directory.ensures c.if-not-is_directory.false (forbidden _ _ _ c.permission_to_name.ensures _ _ _ c.in_err-permission_to_name.was c.from_residual.ensures.1)
