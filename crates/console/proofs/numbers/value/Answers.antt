use Rattle.std.proofs.Common.{rules}
use Rattle.console.proofs.NumberLaws.{wide-product, wide-sum, next, past}
use Rattle.console.proofs.numbers.value.Goals as goal

pub returns-in_err-checked_mul : goal.returns-in_err-checked_mul
returns-in_err-checked_mul c = search (rules, wide-product)

pub returns-in_err-n : goal.returns-in_err-n
returns-in_err-n c = search (rules, wide-sum)

pub loop-b-preserved : goal.loop-b-preserved
loop-b-preserved c = record { small = search rules; rest = search (rules, next) }

pub returns : goal.returns
returns c = search (rules, past)
