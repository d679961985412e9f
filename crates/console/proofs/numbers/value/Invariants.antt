-- The invariant: the digits that are left, after those that write n, write the whole number.
use Prim.Native.Nat.{◌<◌}
use mathlib.Core.Path.{◌≡◌}
use lib.ListN.{drop}
use Rattle.script_rules.specs.Text.{digits_from, number_of}
use Rattle.console.proofs.numbers.value.Given as goal

abbrev pub invariant-loop-b : goal.invariant-loop-b
invariant-loop-b l = record { small : l.n < 4294967296; rest : digits_from l.n (drop l.b-index l.text) ≡ number_of l.text }
