use Rattle.rules.specs.Rights.{policy_rights}
use Rattle.tables.proofs.policy.rights.Goals as goal

pub returns : goal.returns
unfolding policy_rights
returns c = cc
