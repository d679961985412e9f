-- No call has a number as large as the cap.
use Prim.Native.Nat.{ℕ, ◌≤◌}
use mathlib.Core.Path.{◌≡◌}
use mathlib.Core.Bool.{true, false}
use native.Mathlib.Omega.{arith}
use borrow.Author.Tests.{ltb-true, ne_eqb}
use lib.Dec.{eqb, ltb}
use Rattle.rules.specs.Calls.{operation_of}
use Rattle.rules.specs.declared.request.Operation.TheVariants as op
use Rattle.script_rules.specs.Replay.{BYTE_MAX}

pub unknown : (n : ℕ) → BYTE_MAX ≤ n → operation_of n ≡ op.Unknown
unfolding operation_of
unknown n h = simp no
  where
    no : (k : ℕ) → ltb k BYTE_MAX ≡ true → eqb n k ≡ false
    no k l = ne_eqb n k (λ e. omega (arith, ltb-true k BYTE_MAX l))
