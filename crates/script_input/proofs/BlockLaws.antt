-- A block as the code reads it is the rules' block.
use Prim.Native.Nat.{ℕ}
use mathlib.Core.Path.{◌≡◌, refl, sym, ◌∙◌}
use mathlib.Core.Bool.{Bool, true, false, cond}
use mathlib.Core.List.{List, [], ◌∷◌}
use native.Mathlib.Omega.{arith}
use borrow.Author.Tests.{leb-false}
use lib.Dec.{leb}
use lib.ListN.{take}
use Rattle.std.specs.Prelude.{Some, None}
use Rattle.rules.specs.Choice.{every}
use Rattle.rules.specs.Layout.{NUMBER_MAX}
use Rattle.rules.specs.Calls.{operation_of, call_of}
use Rattle.rules.specs.Store.{zeros}
use Rattle.rules.specs.Written.{capped}
use Rattle.rules.proofs.Tests.{test}
use Rattle.script_rules.specs.Text.{number_ok, bytes_of}
use Rattle.script_rules.specs.Blocks.{text_of, number_in, number_line_ok, number_lines_ok, lines_ok, block_of, block_ok, from_call, from_fd, from_arg, from_path, from_data}
use Rattle.script_rules.specs.Replay.{BYTE_MAX, as_byte, reads_too_much, call_for, room_for, bytes_for, asked_by}
use Rattle.script_rules.specs.declared.line.Line.{Line}
use Rattle.script_rules.specs.declared.line.Line.TheVariants as line
use Rattle.script_rules.proofs.Numbers.{unknown}
use Rattle.script_rules.proofs.Blocks.{number-lines}
use Rattle.script_input.specs.Read.{numbers_in, numbers_read, numbered, head_ok, operands_ok, numbers_ok, read_ok, block_read_ok, request_for}

-- ---- numbers over 255

-- no call has such a number
pub byte-operation : (n : ℕ) → operation_of (as_byte n) ≡ operation_of n
unfolding as_byte
byte-operation n = by (leb n BYTE_MAX) refl
  where
    by : (t : Bool) → leb n BYTE_MAX ≡ t → operation_of (cond t n BYTE_MAX) ≡ operation_of n
    by true e = refl
    by false e = unknown BYTE_MAX (omega arith) ∙ sym (unknown n (omega (arith, leb-false n BYTE_MAX e)))

-- ---- numbers up to 65,535

module _ (l : Line) (S : List ℕ) where
  small : number_line_ok l S ≡ true → leb (number_in l S) NUMBER_MAX ≡ true
  unfolding number_line_ok number_ok
  small e = test 2 _ (test 1 _ e)

module _ (S : List ℕ) (e : number_lines_ok S ≡ true) where
  all-small : numbers_ok (numbers_in S) ≡ true
  unfolding numbers_ok head_ok operands_ok every
  all-small =
      let n = number-lines S e in rw (small line.Proc S n.proc, small line.Call (from_call S) n.call, small line.Fd (from_fd S) n.fd, small line.Arg (from_arg S) n.arg)

  kept : capped (number_in line.Arg (from_arg S)) ≡ number_in line.Arg (from_arg S)
  unfolding capped
  kept = rw (small line.Arg (from_arg S) (number-lines S e).arg)

-- ---- a block

regroup : (t x : Bool) → every (true ∷ t ∷ x ∷ []) ≡ every (every (true ∷ t ∷ []) ∷ x ∷ [])
unfolding every
regroup true x = refl
regroup false x = refl

module _ (S : List ℕ) where
  -- a block whose numbers are none
  block-unread : number_lines_ok S ≡ false → block_ok S ≡ false
  unfolding block_ok lines_ok every
  block-unread e = rw e

  -- and one whose numbers were read
  numbers-block : number_lines_ok S ≡ true → read_ok (numbers_in S) (from_path S) (from_data S) ≡ block_ok S
  unfolding read_ok block_ok lines_ok every
  numbers-block e = rw (e, all-small S e) (regroup _ _)

  -- the code and the rules agree on what is broken
  pub block_read : block_read_ok (numbers_read S) (from_path S) (from_data S) ≡ block_ok S
  unfolding block_read_ok
  block_read = by (number_lines_ok S) refl
    where
      by : (t : Bool) → number_lines_ok S ≡ t → block_read_ok (cond t (Some (numbers_in S)) None) (from_path S) (from_data S) ≡ block_ok S
      by true e = numbers-block e
      by false e = sym (block-unread e)

-- ---- the call that an unbroken block asks for

module _ (S : List ℕ) (e : number_lines_ok S ≡ true) where
  pub call-asked : call_of (request_for (numbers_in S)) (text_of line.Path (from_path S)) (take 513 (bytes_of (text_of line.Data (from_data S)))) (zeros (room_for (numbered (numbers_in S) [] []))) ≡ asked_by (block_of S)
  unfolding asked_by bytes_for call_for room_for reads_too_much
  call-asked = rw (kept S e)
