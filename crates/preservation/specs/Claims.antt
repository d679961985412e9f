-- What may be relied on, for every policy and factory part (K, what no call changes), every store s and every call c: the record `Claims` below,
-- which proofs/Proved.antt proves.
-- `step K s c` is the call: its reply, and the store after it. `step_borrow K s p i n` is a borrowing read (paper 02, R-6), and `serve K s a` is either.
-- `A → ⊥` says that A does not hold.
use Rattle.std.specs.Prelude.{ℕ, ◌+◌, ◌*◌, ◌≤◌, ◌<◌, max, ◌≡◌, true, ◌⊎◌, List, [], ◌∷◌, length, Some, None, Ok, Err}
use Rattle.rules.specs.Layout.{SLOTS, FILE_WIDTH, BLOCK, OPEN_FILES, OPEN_FILE_WIDTH, PROCESSES, PROCESS_WIDTH, RIGHTS_SIZE, DESCRIPTORS, FILE_KIND, FILE_OWNER, FILE_BITS, FILE_LABEL, FILE_LENGTH, FILE_LINKS, FILE_VERSION, OPEN_SLOT, OPEN_OFFSET, OPEN_REFERENCES, PROCESS_USER, FREE, PLAIN, LINK, FILE_GROUP}
use Rattle.rules.specs.Scan.{repeat}
use Rattle.rules.specs.Store.{Store, Fixed, View, view, block, up, plus, slot, fd_of, is_open}
use Rattle.rules.specs.Refusals.{GRANTED}
use Rattle.rules.specs.Rights.{TRUNCATE}
use Rattle.rules.specs.Paths.{path_ok}
use Rattle.rules.specs.Rom.{rom_sound, seen}
use Rattle.rules.specs.Walk.{link_text, follow_path}
use Rattle.rules.specs.Sound.{sound}
use Rattle.rules.specs.Calls.{Call, operation, uses, Agree}
use Rattle.rules.specs.Checks.{ofd_held, share_of}
use Rattle.rules.specs.Decide.{asker, decide}
use Rattle.rules.specs.Effects.{desc_word, shared}
use Rattle.rules.specs.Step.{Reply, Outcome, Session, into, act, step, act_borrow, step_borrow, Action, Calls, Borrows, serve, final, run}
use Rattle.rules.specs.declared.ids.Slot.{Slot}
use Rattle.rules.specs.declared.ids.Pid.{Pid}
use Rattle.rules.specs.declared.ids.Fd.{Fd}
use Rattle.rules.specs.Decisions.{Walk, Share, Granted}
use Rattle.rules.specs.declared.decision.DirChange.{DirChange}
use Rattle.rules.specs.declared.decision.Output.{Output}
use Rattle.rules.specs.declared.decision.Output.TheVariants as output
use Rattle.rules.specs.declared.decision.Effect.{Effect}
use Rattle.rules.specs.declared.decision.Effect.TheVariants as effect

-- ---- the words of the claims

-- a word of the record of slot f
abbrev pub word : Store → ℕ → ℕ → ℕ
word s f column = (view s).tree.file f column

-- the caller's user
abbrev pub caller_user : Store → Call → ℕ
caller_user s c = (view s).proc c.process.0 PROCESS_USER

abbrev pub IsGranted : Fixed → Store → Call → Type 0
IsGranted K s c = (step K s c).reply.refusal ≡ GRANTED

abbrev pub IsLent : Fixed → Store → Pid → Fd → ℕ → Type 0
IsLent K s p i n = (step_borrow K s p i n).reply.refusal ≡ GRANTED

-- the lengths of the five tables: files, contents, open files, processes and the policy
abbrev pub sizes : Fixed → Store → List ℕ
sizes K s = length s.files ∷ length s.contents ∷ length s.open_files ∷ length s.processes ∷ length K.policy ∷ []

-- the store's: a record and a block for each slot, a record for each open file and each process, a right and a transition for each pair of labels
abbrev pub SIZES : List ℕ
SIZES = (SLOTS * FILE_WIDTH) ∷ (SLOTS * BLOCK) ∷ (OPEN_FILES * OPEN_FILE_WIDTH) ∷ (PROCESSES * PROCESS_WIDTH) ∷ (RIGHTS_SIZE + RIGHTS_SIZE) ∷ []

-- some open file names f, a slot or a prompt's number
abbrev pub IsOpen : Store → ℕ → Type 0
IsOpen s f = is_open (view s).open_files (slot f) ≡ true

-- ---- a list of calls and borrowing reads on tables that none of them tests: as the rules' `serve`, `answers`, `final` and `run`, with `act` in place of
-- `step` and `act_borrow` in place of `step_borrow`

unfoldable pub act_serve : Fixed → Store → Action → Outcome
act_serve K s (Calls c) = act K s c
act_serve K s (Borrows p i n) = act_borrow K s p i n

unfoldable pub act_answers : Fixed → Store → List Action → List Reply
act_answers K s [] = []
act_answers K s (a ∷ xs) = (act_serve K s a).reply ∷ act_answers K (act_serve K s a).store xs

unfoldable pub act_final : Fixed → Store → List Action → Store
act_final K s [] = s
act_final K s (a ∷ xs) = act_final K (act_serve K s a).store xs

abbrev pub act_run : Fixed → Store → List Action → Session
act_run K s xs = record { replies = act_answers K s xs; store = act_final K s xs }

-- ---- a file that stays open, over a list of calls and borrowing reads

-- after each of the list some open file names f
unfoldable pub OpenAfterEach : Fixed → Store → ℕ → List Action → Type 0
OpenAfterEach K s f [] = Unit {0}
OpenAfterEach K s f (a ∷ xs) = IsOpen (serve K s a).store f × OpenAfterEach K (serve K s a).store f xs

-- a call, 2 (create), 3 (make directory) or 18 (make link), gives out slot f; a borrowing read gives out none
unfoldable pub GivesOut : Fixed → Store → Action → ℕ → Type 0
GivesOut K s (Calls c) f = ((c.call ≡ 2) ⊎ ((c.call ≡ 3) ⊎ (c.call ≡ 18))) × (IsGranted K s c × ((step K s c).reply.value ≡ f))
GivesOut K s (Borrows p i n) f = ⊥

-- after each of the list slot f is plain, and none gives it out
unfoldable pub PlainAfterEach : Fixed → Store → ℕ → List Action → Type 0
PlainAfterEach K s f [] = Unit {0}
PlainAfterEach K s f (a ∷ xs) = (word (serve K s a).store f FILE_KIND ≡ PLAIN) × ((GivesOut K s a f → ⊥) × PlainAfterEach K (serve K s a).store f xs)

-- ---- the calls that change a file's bytes and length

-- call c writes to slot f: a granted write (call 12) of at least one byte, by a descriptor that holds an open file on f
abbrev pub WritesTo : Fixed → Store → Call → ℕ → Type 0
WritesTo K s c f = IsGranted K s c × ((c.call ≡ 12) × ((0 < length c.«data») × ((view s).open_files (ofd_held (view s).desc c.process c.fd).0 OPEN_SLOT ≡ f)))

-- walk w ends at slot f
unfoldable pub EndsAt : Walk → ℕ → Type 0
EndsAt (Ok at) f = at.slot.0 ≡ f
EndsAt (Err stop) f = ⊥

-- call c truncates slot f: a granted open (call 1) with a mode number over 8, along a path that leads its caller to f, links followed. The walk sees /rom too
abbrev pub Truncates : Fixed → Store → Call → ℕ → Type 0
Truncates K s c f = let v = seen K.rom (view s) in IsGranted K s c × ((c.call ≡ 1) × ((TRUNCATE < c.number) × EndsAt (follow_path v.tree K.policy (asker v c) c.path) f))

-- either of them; a borrowing read writes nothing
unfoldable pub Rewrites : Fixed → Store → Action → ℕ → Type 0
Rewrites K s (Calls c) f = WritesTo K s c f ⊎ Truncates K s c f
Rewrites K s (Borrows p i n) f = ⊥

-- none of the list does
unfoldable pub Unwritten : Fixed → Store → ℕ → List Action → Type 0
Unwritten K s f [] = Unit {0}
Unwritten K s f (a ∷ xs) = (Rewrites K s a f → ⊥) × Unwritten K (serve K s a).store f xs

-- slot f holds in t the file that it holds in s, neither written nor truncated. Its link count and its bits may differ.
pub record SameFile (s t : Store) (f : ℕ) : Type 0 where
  pub bytes : block t.contents f ≡ block s.contents f
  pub kind : word t f FILE_KIND ≡ word s f FILE_KIND
  pub owner : word t f FILE_OWNER ≡ word s f FILE_OWNER
  pub group : word t f FILE_GROUP ≡ word s f FILE_GROUP
  pub label : word t f FILE_LABEL ≡ word s f FILE_LABEL
  pub length : word t f FILE_LENGTH ≡ word s f FILE_LENGTH
  pub version : word t f FILE_VERSION ≡ word s f FILE_VERSION

-- ---- a symbolic link (paper 02, R-5): named once, bits 0, a well formed path as text

pub record GoodLink (s : Store) (f : ℕ) : Type 0 where
  pub named : word s f FILE_LINKS ≡ 1
  pub bits : word s f FILE_BITS ≡ 0
  pub text : path_ok (link_text (view s).tree (slot f)) ≡ true

-- ---- the numbers that a granted call writes are plain sums: nothing is lost to the 32 bits of a word. A number that only goes down, or is
-- copied, is no sum, but a rename's lengths are said, since it adds no name and takes none; the version is left out, since it may wrap.

-- a share of open file e: the descriptor's word is e + 1, and there is one reference more
unfoldable pub PlainShare : View → Share → Type 0
PlainShare v None = Unit {0}
PlainShare v (Some s) = (desc_word s.ofd ≡ s.ofd.0 + 1) × (s.references ≡ v.open_files s.ofd.0 OPEN_REFERENCES + 1)

-- a read's new offset is where it began and what it read
unfoldable pub PlainRead : Output → (offset : ℕ) → Type 0
PlainRead output.Nothing offset = Unit {0}
PlainRead (output.Name d i) offset = Unit {0}
PlainRead (output.Fields r) offset = Unit {0}
PlainRead (output.Bytes s from n) offset = offset ≡ from + n

unfoldable pub PlainSums : Store → Call → Output → Effect → Type 0
PlainSums s c o effect.Nothing = Unit {0}
PlainSums s c o (effect.Opened n) = desc_word n.ofd ≡ n.ofd.0 + 1
PlainSums s c o (effect.Truncated n r) = desc_word n.ofd ≡ n.ofd.0 + 1
PlainSums s c o (effect.Created d y r) = d.length ≡ word s d.dir.0 FILE_LENGTH + 1
PlainSums s c o (effect.Unlinked d u) = Unit {0}
PlainSums s c o (effect.Removed d y r) = Unit {0}
PlainSums s c o (effect.Linked d y links) = (d.length ≡ word s d.dir.0 FILE_LENGTH + 1) × (links ≡ word s y.0 FILE_LINKS + 1)
PlainSums s c o (effect.BitsChanged y b) = Unit {0}
PlainSums s c o (effect.Closed i r) = Unit {0}
PlainSums s c o (effect.Stored w) = (w.offset ≡ w.at + length c.«data») × (w.length ≡ max (word s w.slot.0 FILE_LENGTH) (w.at + length c.«data»))
PlainSums s c o (effect.Moved e offset) = PlainRead o offset
PlainSums s c o (effect.Duplicated i e references) = (desc_word e ≡ e.0 + 1) × (references ≡ (view s).open_files e.0 OPEN_REFERENCES + 1)
PlainSums s c o (effect.Forked q who) =
    (i : ℕ) → i < DESCRIPTORS → let t = repeat (shared c.process q) 0 i s in PlainShare (view t) (share_of (view t).open_files (view t).desc c.process (fd_of i))
PlainSums s c o effect.Exited = Unit {0}
PlainSums s c o (effect.Relabelled label) = Unit {0}
PlainSums s c o (effect.Symlinked d y r) = d.length ≡ word s d.dir.0 FILE_LENGTH + 1
PlainSums s c o (effect.Renamed d y) = d.length ≡ word s d.dir.0 FILE_LENGTH
PlainSums s c o (effect.Transferred from to y) = (from.length + 1 ≡ word s from.dir.0 FILE_LENGTH) × (to.length ≡ word s to.dir.0 FILE_LENGTH + 1)

-- ---- a borrowing read as a read: its outcome, with the bytes put into a buffer

abbrev pub put_into : (buffer : List ℕ) → Outcome → Outcome
put_into buffer x = record {
  reply = record { refusal = x.reply.refusal; stop = x.reply.stop; value = x.reply.value; name = x.reply.name; fields = x.reply.fields; buffer = into buffer x.reply.buffer };
  store = x.store;
}

-- ---- the claims

pub record Claims : Type 0 where
  -- Sound in, sound out: one call, one borrowing read, and any list of both.
  pub call-keeps-sound : (K : Fixed) (s : Store) (c : Call) → sound K s ≡ true → sound K (step K s c).store ≡ true
  pub borrow-keeps-sound : (K : Fixed) (s : Store) (p : Pid) (i : Fd) (n : ℕ) → sound K s ≡ true → sound K (step_borrow K s p i n).store ≡ true
  pub calls-keep-sound : (K : Fixed) (s : Store) (xs : List Action) → sound K s ≡ true → sound K (final K s xs) ≡ true
  -- One test is enough. On a sound store the call is `act`, which tests nothing, and the borrowing read `act_borrow`; and every list of them gives the same
  -- answers and the same last store by either. So a host that has found its tables sound, and then changes them by these alone, need not have them tested
  -- again.
  pub tested-call : (K : Fixed) (s : Store) (c : Call) → sound K s ≡ true → step K s c ≡ act K s c
  pub tested-borrow : (K : Fixed) (s : Store) (p : Pid) (i : Fd) (n : ℕ) → sound K s ≡ true → step_borrow K s p i n ≡ act_borrow K s p i n
  pub tested-once : (K : Fixed) (s : Store) (xs : List Action) → sound K s ≡ true → run K s xs ≡ act_run K s xs
  -- 1. A refused call leaves every table and the buffer as they were, whether the store is sound or not; a refused borrowing read hands back no bytes.
  pub refused-leaves-store : (K : Fixed) (s : Store) (c : Call) → (IsGranted K s c → ⊥) → (step K s c).store ≡ s
  pub refused-leaves-buffer : (K : Fixed) (s : Store) (c : Call) → (IsGranted K s c → ⊥) → (step K s c).reply.buffer ≡ c.buffer
  pub refused-borrow-leaves-store : (K : Fixed) (s : Store) (p : Pid) (i : Fd) (n : ℕ) → (IsLent K s p i n → ⊥) → (step_borrow K s p i n).store ≡ s
  pub refused-borrow-gives-nothing : (K : Fixed) (s : Store) (p : Pid) (i : Fd) (n : ℕ) → (IsLent K s p i n → ⊥) → (step_borrow K s p i n).reply.buffer ≡ []
  -- 2. Where a slot is in use before and after a call, whichever call it is, and its bits differ, the caller was user 0 or its owner,
  pub bits-by-owner : (K : Fixed) (s : Store) (c : Call) (f : ℕ) → (word s f FILE_KIND ≡ FREE → ⊥) → (word (step K s c).store f FILE_KIND ≡ FREE → ⊥) → (word (step K s c).store f FILE_BITS ≡ word s f FILE_BITS → ⊥) →
      (caller_user s c ≡ 0) ⊎ (caller_user s c ≡ word s f FILE_OWNER)
  -- and the call was number 8, granted. Such a slot holds the same file before and after: no call both frees a slot and gives one out, so nothing more is
  -- supposed of it.
  pub bits-by-call-8 : (K : Fixed) (s : Store) (c : Call) (f : ℕ) → (word s f FILE_KIND ≡ FREE → ⊥) → (word (step K s c).store f FILE_KIND ≡ FREE → ⊥) → (word (step K s c).store f FILE_BITS ≡ word s f FILE_BITS → ⊥) →
      (c.call ≡ 8) × IsGranted K s c
  -- 3. The slot that an open file names, where it names a slot and not a prompt, is plain. While after every call some open file names slot f, it stays plain,
  -- and no call gives it out as new.
  pub open_plain : (K : Fixed) (s : Store) (f : ℕ) → sound K s ≡ true → f < SLOTS → IsOpen s f → word s f FILE_KIND ≡ PLAIN
  pub open_stays : (K : Fixed) (s : Store) (f : ℕ) (xs : List Action) → sound K s ≡ true → f < SLOTS → OpenAfterEach K s f xs → PlainAfterEach K s f xs
  -- An unlink (call 4), the one that takes the last name included, leaves an open file's record but for its link count (the same kind, owner, bits, label,
  -- length and version), and all its 512 bytes.
  pub unlink-leaves-record : (K : Fixed) (s : Store) (c : Call) (f k : ℕ) → c.call ≡ 4 → IsOpen s f → (k ≡ FILE_LINKS → ⊥) → word (step K s c).store f k ≡ word s f k
  pub unlink-leaves-bytes : (K : Fixed) (s : Store) (c : Call) (f : ℕ) → c.call ≡ 4 → IsOpen s f → block (step K s c).store.contents f ≡ block s.contents f
  -- A plain file that a call does not free keeps its bytes and its length, version, owner and label, or the call was a granted write to it or a granted
  -- truncating open of it: for every call, on any store.
  pub changed-by-write : (K : Fixed) (s : Store) (c : Call) (f : ℕ) → word s f FILE_KIND ≡ PLAIN → (word (step K s c).store f FILE_KIND ≡ FREE → ⊥) → SameFile s (step K s c).store f ⊎ (WritesTo K s c f ⊎ Truncates K s c f)
  -- So a list of calls and borrowing reads after each of which some open file names f, and none of which writes to f or truncates it, leaves f as it was. A
  -- list on a store that is not sound changes nothing.
  pub open-unwritten : (K : Fixed) (s : Store) (f : ℕ) (xs : List Action) → OpenAfterEach K s f xs → Unwritten K s f xs → SameFile s (final K s xs) f
  -- 4. No counter of a sound store wraps, but for the version: lengths, link counts, references and offsets go up by plain sums,
  pub length_up : (K : Fixed) (s : Store) (f : ℕ) → sound K s ≡ true → f < SLOTS → up (word s f FILE_LENGTH) ≡ word s f FILE_LENGTH + 1
  pub links-up : (K : Fixed) (s : Store) (f : ℕ) → sound K s ≡ true → f < SLOTS → up (word s f FILE_LINKS) ≡ word s f FILE_LINKS + 1
  pub references-up : (K : Fixed) (s : Store) (e : ℕ) → sound K s ≡ true → e < OPEN_FILES → up ((view s).open_files e OPEN_REFERENCES) ≡ (view s).open_files e OPEN_REFERENCES + 1
  pub offset-plus : (K : Fixed) (s : Store) (e n : ℕ) → sound K s ≡ true → e < OPEN_FILES → n ≤ BLOCK → plus ((view s).open_files e OPEN_OFFSET) n ≡ (view s).open_files e OPEN_OFFSET + n
  -- and so in every granted decision.
  pub granted-sums : (K : Fixed) (s : Store) (c : Call) (n : ℕ) (o : Output) (e : Effect) → sound K s ≡ true → decide K (seen K.rom (view s)) c ≡ Granted n o e → PlainSums s c o e
  -- 5. Tables of another number of slots, 64 among them, are not taken (paper 02, R-2): where the length of any of the five tables is another than the
  -- store's, every call and every borrowing read is refused with 1.
  pub other-size-refused : (K : Fixed) (s : Store) (a : Action) → (sizes K s ≡ SIZES → ⊥) → (serve K s a).reply.refusal ≡ 1
  -- So with a factory part that is cut short, has a prompt over 512 bytes, or more after the sixteenth (paper 02, R-6).
  pub other-part-refused : (K : Fixed) (s : Store) (a : Action) → (rom_sound K.rom ≡ true → ⊥) → (serve K s a).reply.refusal ≡ 1
  -- 6. Parts that a call does not use are not looked at: two calls that agree in what they use are answered alike, and leave the same store.
  pub unused-unseen : (K : Fixed) (s : Store) (c d : Call) → Agree (uses (operation c)) c d → step K s c ≡ step K s d
  -- 7. Whatever calls went before, a symbolic link is named once, has bits 0 and a well formed path as text.
  pub link_stays : (K : Fixed) (s : Store) (f : ℕ) (xs : List Action) → sound K s ≡ true → word (final K s xs) f FILE_KIND ≡ LINK → GoodLink (final K s xs) f
  -- 8. A read (call 11) into at most 512 bytes is the borrowing read of as many: the same answer and the same store, but that the bytes handed back are put
  -- into the buffer.
  pub borrow-is-read : (K : Fixed) (s : Store) (c : Call) → c.call ≡ 11 → length c.buffer ≤ BLOCK → step K s c ≡ put_into c.buffer (step_borrow K s c.process c.fd (length c.buffer))
  -- The value of every borrowing read, granted or refused, is how many bytes it hands back, and they are no more than asked.
  pub borrow-value : (K : Fixed) (s : Store) (p : Pid) (i : Fd) (n : ℕ) → (step_borrow K s p i n).reply.value ≡ length (step_borrow K s p i n).reply.buffer
  pub borrow-most : (K : Fixed) (s : Store) (p : Pid) (i : Fd) (n : ℕ) → (step_borrow K s p i n).reply.value ≤ n
  -- 9. What a granted rename takes from one directory to another (call 20; paper 02, R-10) is a plain file or a link: no directory is moved.
  pub transferred-file : (K : Fixed) (s : Store) (c : Call) (n : ℕ) (o : Output) (from to : DirChange) (y : Slot) → sound K s ≡ true → decide K (seen K.rom (view s)) c ≡ Granted n o (effect.Transferred from to y) →
      (word s y.0 FILE_KIND ≡ PLAIN) ⊎ (word s y.0 FILE_KIND ≡ LINK)
