-- The invariant: with the bytes that are left read, the room is as it is to be.
use Prim.Native.Nat.{◌*◌}
use mathlib.Core.Path.{◌≡◌}
use lib.ListN.{drop}
use lib.Seq.{sets}
use Rattle.script_text.specs.Hex.{pairs}
use Rattle.script_text.proofs.hex.read_bytes.Given as goal

abbrev pub invariant-loop-i : goal.invariant-loop-i
invariant-loop-i l = sets l.room l.i (pairs (drop (2 * l.i) l.text)) ≡ sets l.initial.room 0 (pairs l.text)
