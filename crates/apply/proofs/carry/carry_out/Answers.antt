-- An arm for each effect: the effect matched opens `carry_out` to one list of changes, which is what the one function called in the arm ensures.
use Rattle.rules.specs.Effects.{carry_out}
use Rattle.apply.proofs.carry.carry_out.Goals as goal

pub returns-in-Nothing : goal.returns-in-Nothing
unfolding carry_out
returns-in-Nothing c buffer = rw c.in-Nothing.is

pub returns-in-Opened : goal.returns-in-Opened
unfolding carry_out
returns-in-Opened c buffer = rw c.in-Opened.is (c.open_file.ensures _ _)

pub returns-in-Truncated : goal.returns-in-Truncated
unfolding carry_out
returns-in-Truncated c buffer = rw c.in-Truncated.is c.open_truncated.ensures

pub returns-in-Created : goal.returns-in-Created
unfolding carry_out
returns-in-Created c buffer = rw c.in-Created.is (c.create_file.ensures _ _)

pub returns-in-Unlinked : goal.returns-in-Unlinked
unfolding carry_out
returns-in-Unlinked c buffer = rw c.in-Unlinked.is (c.unlink_file.ensures _ _)

pub returns-in-Removed : goal.returns-in-Removed
unfolding carry_out
returns-in-Removed c buffer = rw c.in-Removed.is (c.remove_directory.ensures _ _)

pub returns-in-Linked : goal.returns-in-Linked
unfolding carry_out
returns-in-Linked c buffer = rw c.in-Linked.is (c.link_file.ensures _ _)

pub returns-in-BitsChanged : goal.returns-in-BitsChanged
unfolding carry_out
returns-in-BitsChanged c buffer = rw c.in-BitsChanged.is (c.change_bits.ensures _ _ _)

pub returns-in-Closed : goal.returns-in-Closed
unfolding carry_out
returns-in-Closed c buffer = rw c.in-Closed.is c.close_descriptor.ensures

pub returns-in-Stored : goal.returns-in-Stored
unfolding carry_out
returns-in-Stored c buffer = rw c.in-Stored.is (c.write_bytes.ensures _)

pub returns-in-Moved : goal.returns-in-Moved
unfolding carry_out
returns-in-Moved c buffer = rw c.in-Moved.is (c.move_offset.ensures _ _ _)

pub returns-in-Duplicated : goal.returns-in-Duplicated
unfolding carry_out
returns-in-Duplicated c buffer = rw c.in-Duplicated.is (c.duplicate_descriptor.ensures _ _)

pub returns-in-Forked : goal.returns-in-Forked
unfolding carry_out
returns-in-Forked c buffer = rw c.in-Forked.is (c.fork.ensures _ _)

pub returns-in-Exited : goal.returns-in-Exited
unfolding carry_out
returns-in-Exited c buffer = rw c.in-Exited.is c.exit.ensures

pub returns-in-Relabelled : goal.returns-in-Relabelled
unfolding carry_out
returns-in-Relabelled c buffer = rw c.in-Relabelled.is (c.relabel_process.ensures _ _ _)

pub returns-in-Symlinked : goal.returns-in-Symlinked
unfolding carry_out
returns-in-Symlinked c buffer = rw c.in-Symlinked.is (c.make_symlink.ensures _ _)

pub returns-in-Renamed : goal.returns-in-Renamed
unfolding carry_out
returns-in-Renamed c buffer = rw c.in-Renamed.is (c.rename_entry.ensures _ _)

pub returns-in-Transferred : goal.returns-in-Transferred
unfolding carry_out
returns-in-Transferred c buffer = rw c.in-Transferred.is (c.transfer_entry.ensures _ _)
