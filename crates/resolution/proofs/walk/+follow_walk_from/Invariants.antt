-- The cycle of calls {follow, walk_from}. The follows left fall, or else the names left: the measure is 256 times the follows, and the names left of a walk.
use Rattle.std.proofs.Common.{◌+◌, ◌*◌, length}
use Rattle.resolution.specs.Walks.{names_left}
use Rattle.resolution.proofs.walk.+follow_walk_from.Given as goal

abbrev pub decreases-follow : goal.decreases-follow
decreases-follow l = l.at.follows * 256

abbrev pub decreases-walk_from : goal.decreases-walk_from
decreases-walk_from l = l.at.follows * 256 + length (names_left l.path.now l.rest)
