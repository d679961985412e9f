use Rattle.std.proofs.Common.{arith}
use Rattle.soundness.proofs.NewNames.{padding_by}
use Rattle.soundness.proofs.dirents.all_padding.Goals as goal

pub returns-then-low_word-eq0 : goal.returns-then-low_word-eq0
returns-then-low_word-eq0 c = grind (arith, padding_by c.args.name.now (λ k. (c.type_inv.name k).fits))

pub returns-else-low_word-eq0 : goal.returns-else-low_word-eq0
returns-else-low_word-eq0 c = grind (arith, padding_by c.args.name.now (λ k. (c.type_inv.name k).fits))
