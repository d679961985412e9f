use Rattle.rules.specs.Store.{zeros}
use Rattle.console.specs.Settings.{ROM_ROOM, rom_put, part}
use Rattle.console.proofs.SettingLaws.{put_over}
use Rattle.console.proofs.settings.put_rom.Goals as goal

pub returns : goal.returns
unfolding rom_put
returns c =
    let r = c.args.rom.now in
    put_over r.room c.args.text.now (zeros ROM_ROOM) c.args.at part c.min-end.ensures c.fill.ensures c.copy.ensures c.rom_end-rom.ensures
