use Rattle.std.proofs.Common.{◌≡◌, refl}
use Rattle.std.specs.Prelude.{Some, None}
use Rattle.console.specs.Words.{index_of}
use Rattle.console.specs.Calls.{CALLS, number_or}
use Rattle.console.proofs.calls.call_number.Goals as goal

pub returns-in-Some : goal.returns-in-Some
unfolding number_or
returns-in-Some c = let e : index_of CALLS c.args.name.now ≡ Some c.in-Some.k = cc in rw e refl

pub returns-in-None : goal.returns-in-None
unfolding number_or
returns-in-None c = let e : index_of CALLS c.args.name.now ≡ None = cc in rw e c.number.ensures
