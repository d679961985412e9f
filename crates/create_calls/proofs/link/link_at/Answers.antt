use Rattle.rules.specs.DecidePaths.{link_at}
use Rattle.rules.proofs.Choices.{passed}
use Rattle.rights.proofs.Permissions.{forbidden}
use Rattle.create_calls.proofs.link.link_at.Goals as goal

pub returns-in_err-permission_to_name : goal.returns-in_err-permission_to_name
unfolding link_at
returns-in_err-permission_to_name c = passed _ _ _ _ _ c.is_absent.ensures c.if-not-is_absent.false (forbidden _ _ _ c.permission_to_name.ensures _ _ _ c.in_err-permission_to_name.was c.from_residual.ensures.1)
