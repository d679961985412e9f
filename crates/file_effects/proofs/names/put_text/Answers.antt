use Prim.Native.Nat.{◌*◌}
use native.Mathlib.Nat.{add-zero}
use Rattle.rules.specs.Layout.{BLOCK}
use Rattle.rules.specs.Store.{apply_all}
use Rattle.file_effects.proofs.names.put_text.Goals as goal

pub returns : goal.returns
unfolding apply_all
returns c = λ E P. rw (c.copy.ensures, add-zero (BLOCK * c.args.s.0), c.put_record.ensures)
