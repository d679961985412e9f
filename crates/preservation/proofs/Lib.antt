-- A call on a sound store leaves a sound store, and what follows from it. From the bottom up:
-- tests, sums and scans; the names of a path
pub mod Tests
pub mod Sums
pub mod Scans
pub mod PathNames
-- the store as tables, what sound means of them, and how its counts change
pub mod Tables
pub mod Sound
pub mod Rows
pub mod Counts
pub mod Words
pub mod Columns
-- each change of the tables, and that it keeps them sound
pub mod OneWord
pub mod Dirents
pub mod Link
pub mod Unlink
pub mod Remake
pub mod Create
pub mod Rename
pub mod Plain
pub mod Open
pub mod Processes
-- the flat lists as tables
pub mod FlatList
pub mod StoreChanges
-- the soundness test means the record
pub mod Tree
pub mod Shown
pub mod Counted
pub mod Meaning
pub mod SoundStore
-- each effect leaves sound tables
pub mod OpenEffects
pub mod NameEffects
pub mod CloseEffects
pub mod ForkEffects
-- from a decision to what its effect owes
pub mod DirentRow
pub mod RenameEffects
pub mod Prompts
pub mod Seen
pub mod NewName
pub mod Reach
pub mod Walked
pub mod Numbers
pub mod Granted
pub mod Decided
-- each call keeps open files below the last prompt
pub mod Within
-- the theorems
pub mod Preserved
pub mod TestedOnce
pub mod Kept
pub mod RefusedLeaves
pub mod BitsChange
pub mod OpenStays
pub mod Borrowed
pub mod Unwritten
pub mod NoWrap
pub mod Transferred
pub mod Sizes
pub mod LinksStay
pub mod Proved
