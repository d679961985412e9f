use Rattle.std.proofs.Common.{[]}
use native.Mathlib.Omega.{arith}
use borrow.Author.Rules.{rules}
use Rattle.script_output.proofs.DigitLaws.{text-none, end_none, text-one, end-one, room-one, text-more, end_more, room-last, room-more}
use Rattle.script_output.proofs.answers.+write_digits.Goals as goal

pub returns-then-k-eq0 : goal.returns-then-k-eq0
returns-then-k-eq0 t c = record { output = search text-none; ends = search end_none }

pub bounds-out-at : goal.bounds-out-at
bounds-out-at t c = search room-one

pub overflow_add-result : goal.overflow_add-result
overflow_add-result t c = search (rules, room-one)

pub returns-then-n-lt10 : goal.returns-then-n-lt10
returns-then-n-lt10 t c = record { output = search text-one; ends = search end-one }

pub write_digits-end-requires : goal.write_digits-end-requires
write_digits-end-requires t c = (search rules, search room-more)

pub overflow_add-result-2 : goal.overflow_add-result-2
overflow_add-result-2 t c = omega (arith, room-last _ _ _ [] c.if-k-eq0.false c.if-n-lt10.false c.write_digits-end.ensures.ends c.requires)

pub returns : goal.returns
returns t c = record { output = rw c.put.ensures (text-more _ _ _ _ c.if-k-eq0.false c.if-n-lt10.false c.write_digits-end.ensures.ends c.write_digits-end.ensures.output); ends = search end_more }
