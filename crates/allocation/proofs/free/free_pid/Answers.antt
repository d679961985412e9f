use Rattle.std.proofs.Common.{rules, tests, refl, ap, ◌≡◌, ◌∙◌, arith}
use Rattle.rules.specs.Layout.{PROCESSES}
use Rattle.rules.specs.Scan.{first}
use Rattle.rules.specs.Store.{pid_of, proc_of}
use Rattle.rules.specs.Checks.{pid_free}
use Rattle.rules.proofs.Chains.{first_in_range}
use Rattle.allocation.proofs.free.free_pid.Goals as goal

-- by arithmetic, so that what is answered is looked at and not how it is written
pub returns : goal.returns
returns c =
    let e : c.unwrap_or.result ≡ first (pid_free (proc_of c.args.processes.now)) 0 PROCESSES =
    c.unwrap_or.ensures ∙ first_in_range _ _ _ (λ x t q k. search (rules, tests)) _ _ c.find.ensures.ran refl in
    ap pid_of (omega (arith, e))
