-- What an unbroken block says of its lines.
use mathlib.Core.Path.{◌≡◌}
use mathlib.Core.Bool.{true}
use mathlib.Core.List.{List}
use Prim.Native.Nat.{ℕ}
use Rattle.rules.proofs.Tests.{test}
use Rattle.script_rules.specs.Blocks.{line_ok, number_line_ok, data_line_ok, head_lines_ok, operand_lines_ok, number_lines_ok, text_lines_ok, lines_ok, block_ok, from_call, from_fd, from_arg, from_path, from_data}
use Rattle.script_rules.specs.declared.line.Line.TheVariants as line

pub record NumberLines (S : List ℕ) : Type 0 where
  pub proc : number_line_ok line.Proc S ≡ true
  pub call : number_line_ok line.Call (from_call S) ≡ true
  pub fd : number_line_ok line.Fd (from_fd S) ≡ true
  pub arg : number_line_ok line.Arg (from_arg S) ≡ true

pub record Lines (S : List ℕ) : Type 0 where
  pub numbers : NumberLines S
  pub path : line_ok line.Path (from_path S) ≡ true
  pub bytes : data_line_ok (from_data S) ≡ true

module _ (S : List ℕ) where
  pub number-lines : number_lines_ok S ≡ true → NumberLines S
  unfolding number_lines_ok head_lines_ok operand_lines_ok
  number-lines e =
      let head = test 0 _ e in
      let operands = test 1 _ e in
      record { proc = test 0 _ head; call = test 1 _ head; fd = test 0 _ operands; arg = test 1 _ operands }

  pub lines : block_ok S ≡ true → Lines S
  unfolding block_ok lines_ok text_lines_ok
  lines e =
      let all = test 0 _ e in
      let texts = test 1 _ all in
      record { numbers = number-lines (test 0 _ all); path = test 0 _ texts; bytes = test 1 _ texts }
