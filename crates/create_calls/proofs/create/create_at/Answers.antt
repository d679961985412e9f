use Rattle.rules.specs.DecidePaths.{create_at}
use Rattle.rules.proofs.Choices.{passed}
use Rattle.rights.proofs.Permissions.{forbidden}
use Rattle.create_calls.proofs.create.create_at.Goals as goal

pub returns-in_err-permission_over : goal.returns-in_err-permission_over
unfolding create_at
returns-in_err-permission_over c = passed _ _ _ _ _ c.is_absent.ensures c.if-not-is_absent.false (forbidden _ _ _ c.permission_over.ensures _ _ _ c.in_err-permission_over.was c.from_residual.ensures.1)
