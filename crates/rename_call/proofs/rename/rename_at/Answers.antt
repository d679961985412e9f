use Rattle.rules.specs.DecidePaths.{rename_at}
use Rattle.rules.proofs.Choices.{passed}
use Rattle.rights.proofs.Permissions.{grants, forbidden}
use Rattle.rename_call.proofs.rename.rename_at.Goals as goal

pub returns-in_err-permission_to_name : goal.returns-in_err-permission_to_name
unfolding rename_at
returns-in_err-permission_to_name c = passed _ _ _ _ _ c.is_absent.ensures c.if-not-is_absent.false (forbidden _ _ _ c.permission_to_name.ensures _ _ _ c.in_err-permission_to_name.was c.from_residual.ensures.1)

pub returns-in_err-permission_over : goal.returns-in_err-permission_over
unfolding rename_at
returns-in_err-permission_over c =
    passed _ _ _ _ _ c.is_absent.ensures c.if-not-is_absent.false
    (grants _ _ _ c.permission_to_name.ensures _ _ c.in_ok-permission_to_name.was
    (forbidden _ _ _ c.permission_over.ensures _ _ _ c.in_err-permission_over.was c.from_residual-in_err-permission_over.ensures.1))
