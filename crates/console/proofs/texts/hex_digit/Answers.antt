use native.Mathlib.Omega.{arith}
use Rattle.console.proofs.HexLaws.{digit, letter, below, between, above}
use Rattle.console.proofs.texts.hex_digit.Goals as goal

pub returns-in-48-to-57-clause-is : goal.returns-in-48-to-57-clause-is
returns-in-48-to-57-clause-is c = digit _ (omega arith) (omega arith)

pub returns-in-97-to-102-clause-is : goal.returns-in-97-to-102-clause-is
returns-in-97-to-102-clause-is c = letter _ (omega arith) (omega arith)

pub returns-in_default-clause-is : goal.returns-in_default-clause-is
returns-in_default-clause-is c = below _ (omega arith)

pub returns-in_default-2-clause-is : goal.returns-in_default-2-clause-is
returns-in_default-2-clause-is c = between _ (omega arith) (omega arith)

pub returns-in_default-3-clause-is : goal.returns-in_default-3-clause-is
returns-in_default-3-clause-is c = above _ (omega arith)
