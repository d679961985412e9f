use mathlib.Core.Path.{refl}
use native.Mathlib.Nat.{add-zero}
use native.Mathlib.Omega.{arith}
use borrow.Author.Rules.{rules}
use Rattle.script_output.proofs.HexLaws.{hex-room, hex-wrote, write-more, write_done}
use Rattle.script_output.proofs.answers.write_hex.Goals as goal

pub loop-b-init : goal.loop-b-init
loop-b-init c = record { room = hex-room _ _ _ c.requires; ends = search rules; rest = rw add-zero refl }

pub loop-b-preserved : goal.loop-b-preserved
loop-b-preserved c = record {
  room = search rules;
  ends = omega arith;
  rest = rw c.loop-b.invariant.ends (write-more c.args.bytes.now c.loop-b.out c.args.at c.loop-b.b-index c.loop-b.invariant.rest c.loop-b-test.true c.hex_digit.ensures c.hex_digit-in-loop-b.ensures);
}

pub returns : goal.returns
returns c = hex-wrote _ _ _ c.loop-b.invariant.ends c.loop-b.auto.b-index-end c.loop-b-test.false (write_done c.args.bytes.now c.loop-b.out c.args.at c.loop-b.b-index c.loop-b.invariant.rest c.loop-b-test.false)
