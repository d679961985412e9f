-- The invariant: with the bytes that are left written, the output is as it is to be.
use Prim.Native.Nat.{◌+◌, ◌*◌, ◌≤◌}
use mathlib.Core.Path.{◌≡◌}
use lib.ListN.{length, drop}
use lib.Seq.{sets}
use Rattle.script_rules.specs.Text.{hex_of}
use Rattle.script_output.proofs.answers.write_hex.Given as goal

abbrev pub invariant-loop-b : goal.invariant-loop-b
invariant-loop-b l = record {
  room : l.at + 2 * length l.bytes ≤ length l.out;
  ends : l.end ≡ l.at + 2 * l.b-index;
  rest : sets l.out (l.at + 2 * l.b-index) (hex_of (drop l.b-index l.bytes)) ≡ sets l.initial.out l.at (hex_of l.bytes);
}
