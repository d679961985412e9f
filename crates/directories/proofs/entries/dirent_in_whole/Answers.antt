use Rattle.std.proofs.Common.{ap}
use Rattle.rules.proofs.Scans.{first-yes, first-no, first_done}
use Rattle.rules.specs.Store.{entry}
use Rattle.directories.proofs.entries.dirent_in_whole.Goals as goal

pub returns-then-has_words_in : goal.returns-then-has_words_in
returns-then-has_words_in c = ap entry (search first-yes)

pub loop-i-preserved : goal.loop-i-preserved
loop-i-preserved c = search first-no

pub returns : goal.returns
returns c = ap entry (search first_done)
