-- The invariant: the digits that are left, after those that write n, write the whole number.
use Prim.Native.Nat.{◌<◌}
use mathlib.Core.Path.{◌≡◌}
use lib.ListN.{drop}
use Rattle.script_rules.specs.Text.{digits_from, number_of}
use Rattle.script_text.proofs.numbers.number_of.Given as goal

abbrev pub invariant-loop-b : goal.invariant-loop-b
invariant-loop-b l = record { small : l.n < 65536; rest : digits_from l.n (drop l.b-index l.digits) ≡ number_of l.digits }
