use Rattle.soundness.proofs.NewNames.{rom-absent}
use Rattle.soundness.proofs.dirents.rom_absent.Goals as goal

pub returns : goal.returns
returns c = rom-absent c.args.dir.now (λ k. (c.type_inv.dir k).fits) _ _ c.stored_by.ensures c.is_dirent.ensures
