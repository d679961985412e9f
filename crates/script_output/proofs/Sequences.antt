-- Three texts written one after the other: there is room for each, and together they are the whole text.
use Prim.Native.Nat.{ℕ, ◌+◌}
use mathlib.Core.Path.{◌≡◌}
use mathlib.Core.List.{List, ◌++◌}
use native.Mathlib.Omega.{arith}
use lib.ListN.{length, length-append}
use lib.Seq.{length-sets}
use Rattle.rules.proofs.Lists.{sets-append}
use Rattle.script_output.specs.Writes.{Room, Wrote}

module _ (X : List ℕ) (at : ℕ) (S T U : List ℕ) where
  lengths : length (S ++ (T ++ U)) ≡ length S + length T + length U
  lengths = rw (length-append, length-append) (omega arith)

  module _ (room : Room X at (S ++ (T ++ U))) where
    pub first : Room X at S
    first = omega (arith, lengths)

    module _ (Y : List ℕ) (e : ℕ) (y : Wrote X at S Y e) where
      pub second : Room Y e T
      second = rw (y.output, length-sets) (omega (arith, lengths, y.ends))

      module _ (Z : List ℕ) (f : ℕ) (z : Wrote Y e T Z f) where
        pub third : Room Z f U
        third = rw (z.output, length-sets, y.output, length-sets) (omega (arith, lengths, y.ends, z.ends))

        pub whole : (W : List ℕ) (g : ℕ) → Wrote Z f U W g → Wrote X at (S ++ (T ++ U)) W g
        whole W g w = record {
          output = rw (w.output, z.output, y.output, z.ends, y.ends, sets-append, sets-append);
          ends = omega (arith, lengths, y.ends, z.ends, w.ends);
        }
