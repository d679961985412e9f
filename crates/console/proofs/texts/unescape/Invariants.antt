-- The invariant: the rest of the text leaves what the whole text does.
use Prim.Native.Nat.{◌-◌}
use mathlib.Core.Path.{◌≡◌}
use lib.ListN.{length, drop}
use Rattle.console.proofs.TextLaws.{outcome}
use Rattle.console.proofs.texts.unescape.Given as goal

abbrev pub invariant-loop-n : goal.invariant-loop-n
invariant-loop-n l = (length l.out ≡ length l.initial.out) × (outcome l.out l.n (length l.text - l.n) (drop l.i l.text) ≡ outcome l.initial.out 0 (length l.text) l.text)
