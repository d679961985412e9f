-- A turn reads one byte more, within the path.
use Prim.Native.Nat.{◌+◌, ◌-◌, ◌≤◌}
use lib.ListN.{length}
use Rattle.resolution.proofs.Packed.{Read}
use Rattle.resolution.proofs.path_names.read_word.Given as goal

abbrev pub invariant-loop-k : goal.invariant-loop-k
invariant-loop-k l = (Read l.path l.most l.at l.word (l.at + l.k) l.k) × (l.k ≤ length l.path - l.at)
