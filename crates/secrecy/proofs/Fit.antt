-- What a granted decision's numbers are known to satisfy, by the checks that it has passed.
use mathlib.Core.Path.{◌≡◌, refl}
use mathlib.Core.Bool.{true, false}
use mathlib.Core.List.{List, [], ◌∷◌}
use mathlib.Core.Logic.{◌≢◌}
use Prim.Native.Nat.{ℕ, ◌≤◌, ◌<◌, max}
use native.Mathlib.Omega.{arith}
use borrow.Author.Tests.{ltb-true, eqb-true, eqb-false, not-true}
use Rattle.rules.specs.Layout.{SLOTS, PROCESSES, DESCRIPTORS, FILE_LABEL, FILE_LENGTH, PROCESS_USED}
use Rattle.rules.specs.Store.{Fixed, Tree, View, slot, is_slot, subject_of}
use Rattle.rules.specs.Rights.{READ, moved}
use Rattle.rules.specs.Paths.{Name, names}
use Rattle.rules.specs.Walk.{is_directory, is_link, label_allows, link_text, entered, lookup, follows, walk_by, walk, ROOT}
use Rattle.rules.specs.Checks.{in_use, held, slot_free, free_slot}
use Rattle.rules.specs.Calls.{Call, operation}
use Rattle.rules.specs.Decide.{decide, decide_borrow}
use Rattle.rules.specs.Step.{read_of}
use Rattle.rules.specs.declared.ids.Slot.{Slot}
use Rattle.rules.specs.declared.ids.Pid.{Pid}
use Rattle.rules.specs.declared.ids.Fd.{Fd}
use Rattle.rules.specs.declared.ids.Ofd.{Ofd}
use Rattle.rules.specs.declared.ids.Dirent.{Dirent}
use Rattle.rules.specs.declared.rights.Bits.{Bits}
use Rattle.rules.specs.declared.request.Subject.{Subject}
use Rattle.rules.specs.declared.request.Operation.{Operation}
use Rattle.rules.specs.declared.decision.Location.{Location}
use Rattle.rules.specs.declared.decision.Intent.{Intent}
use Rattle.rules.specs.declared.decision.Intent.TheVariants.{Find, Follow, Create}
use Rattle.rules.specs.Decisions.{Reached}
use Rattle.rules.specs.declared.decision.Record.{Record}
use Rattle.rules.specs.declared.decision.DirChange.{DirChange}
use Rattle.rules.specs.declared.decision.NewOpen.{NewOpen}
use Rattle.rules.specs.declared.decision.Placement.{Placement}
use Rattle.rules.specs.declared.decision.Unnamed.{Unnamed}
use Rattle.rules.specs.declared.decision.Release.{Release}
use Rattle.rules.specs.declared.decision.Output.{Output}
use Rattle.rules.specs.declared.decision.Output.TheVariants as output
use Rattle.rules.specs.declared.decision.Effect.{Effect}
use Rattle.rules.specs.declared.decision.Effect.TheVariants as effect
use Rattle.rules.proofs.Scans.{first_passes}
use Rattle.rules.proofs.Walks.{WalkFit, reached, need_at-fit, fit_at, any-names, Kept, walk-fit}
use Rattle.rules.proofs.Passed as passed
use Rattle.rules.proofs.Passed.{Fit, fit-map, Passed, Permit, permitted, borrow-permitted}
use Rattle.rules.proofs.Tests.{test}

-- ---- the facts

-- what the decisions rest on: the root is a directory, and a descriptor over 7 holds nothing
pub record Based (v : View) : Type 0 where
  pub root : is_directory v.tree.file (slot 0) ≡ true
  pub eight : (p i : ℕ) → v.desc p i ≢ 0 → i < DESCRIPTORS

-- a process that may call
pub record Caller (v : View) (p : Pid) : Type 0 where
  pub small : p.0 < PROCESSES
  pub used : v.proc p.0 PROCESS_USED ≡ 1

-- bytes are given out of files that the caller's label may read, or out of links
pub data OutputFit (Q : List ℕ) (v : View) (p : Pid) : Output → Type 0 where
  silent : OutputFit Q v p output.Nothing
  listed : (d : Slot) (i : Dirent) → OutputFit Q v p (output.Name d i)
  described : (r : Record) → OutputFit Q v p (output.Fields r)
  fetched : (s : Slot) (from n : ℕ) → label_allows v.tree.file Q (subject_of v.proc p) s READ ≡ true → OutputFit Q v p (output.Bytes s from n)
  texted : (s : Slot) (from n : ℕ) → is_link v.tree.file s ≡ true → OutputFit Q v p (output.Bytes s from n)

pub data EffectFit (Q : List ℕ) (v : View) (p : Pid) : Effect → Type 0 where
  nothing : EffectFit Q v p effect.Nothing
  opened : (n : NewOpen) → n.fd.0 < DESCRIPTORS → EffectFit Q v p (effect.Opened n)
  truncates : (n : NewOpen) (r : Record) → n.fd.0 < DESCRIPTORS → EffectFit Q v p (effect.Truncated n r)
  created : (d : DirChange) (s : Slot) (r : Record) → is_directory v.tree.file d.dir ≡ true → slot_free v.tree.file s.0 ≡ true → EffectFit Q v p (effect.Created d s r)
  unlinked : (d : DirChange) (u : Unnamed) → is_directory v.tree.file d.dir ≡ true → EffectFit Q v p (effect.Unlinked d u)
  removed : (d : DirChange) (s : Slot) (r : Record) → is_directory v.tree.file d.dir ≡ true → EffectFit Q v p (effect.Removed d s r)
  linked : (d : DirChange) (s : Slot) (links : ℕ) → is_directory v.tree.file d.dir ≡ true → EffectFit Q v p (effect.Linked d s links)
  rebitted : (s : Slot) (x : Bits) → EffectFit Q v p (effect.BitsChanged s x)
  closed : (i : Fd) (r : Release) → i.0 < DESCRIPTORS → EffectFit Q v p (effect.Closed i r)
  stored : (w : Placement) → v.tree.file w.slot.0 FILE_LENGTH ≤ w.length → EffectFit Q v p (effect.Stored w)
  shifted : (e : Ofd) (offset : ℕ) → EffectFit Q v p (effect.Moved e offset)
  duplicated : (i : Fd) (e : Ofd) (refs : ℕ) → i.0 < DESCRIPTORS → EffectFit Q v p (effect.Duplicated i e refs)
  forked : (q : Pid) (who : Subject) → (subject_of v.proc p).label ≡ who.label → EffectFit Q v p (effect.Forked q who)
  exited : EffectFit Q v p effect.Exited
  relabelled : (t label : ℕ) → moved Q (subject_of v.proc p).label (v.tree.file t FILE_LABEL) ≡ label → EffectFit Q v p (effect.Relabelled label)
  symlinked : (d : DirChange) (s : Slot) (r : Record) → is_directory v.tree.file d.dir ≡ true → slot_free v.tree.file s.0 ≡ true → EffectFit Q v p (effect.Symlinked d s r)
  renamed : (d : DirChange) (s : Slot) → is_directory v.tree.file d.dir ≡ true → EffectFit Q v p (effect.Renamed d s)
  transferred : (from to : DirChange) (s : Slot) → is_directory v.tree.file from.dir ≡ true → is_directory v.tree.file to.dir ≡ true → EffectFit Q v p (effect.Transferred from to s)

pub record Grant (Q : List ℕ) (v : View) (p : Pid) (n : ℕ) (o : Output) (e : Effect) : Type 0 where
  pub caller : Caller v p
  pub output-fit : OutputFit Q v p o
  pub effect-fit : EffectFit Q v p e

-- ---- a walk ends in a directory: in the root, or in the one that its last name was looked for in; a link sends it to the root

abbrev InDirectory : Tree → Location → Type 0
InDirectory t at = is_directory t.file at.dir ≡ true

module _ (Q : List ℕ) (t : Tree) (who : Subject) where
  entered-fit : (intent : Intent) (D : List ℕ) (at : Location) (k : ℕ) (i : Dirent) → is_directory t.file at.slot ≡ true → WalkFit (InDirectory t) (entered intent D at k i)
  unfolding entered
  entered-fit Find D at k i h = need_at-fit _ _ _ _ (λ _. reached _ h)
  entered-fit Follow D at k i h = need_at-fit _ _ _ _ (λ _. reached _ h)
  entered-fit Create D at k i h = reached _ h

  lookup-fit : (intent : Intent) (name : Name) (k : ℕ) (at : Location) → WalkFit (InDirectory t) (lookup intent t Q who name k at)
  unfolding lookup
  lookup-fit intent name k at = need_at-fit _ _ _ _ (λ h. need_at-fit _ _ _ _ (λ _. need_at-fit _ _ _ _ (λ _. entered-fit intent _ at k _ h)))

  kept : InDirectory t ROOT → Kept t Q who (λ _. Unit {0}) (InDirectory t) (InDirectory t)
  kept root = record {
    looks = λ name k at _ _. lookup-fit Follow name k at;
    passes = λ at h _. h;
    starts = λ at _ _. root;
    texts = λ at _ _. any-names (names (link_text t at.slot));
  }

  in-directory : (intent : Intent) → follows intent ≡ false → (ns : List Name) → InDirectory t ROOT → WalkFit (InDirectory t) (walk intent t Q who ROOT 1 ns)
  unfolding walk_by
  in-directory intent stays [] root = reached ROOT root
  in-directory intent stays (n ∷ ns) root = walk-fit (kept root) intent stays {R = λ _. InDirectory t} (λ name k at _ _. lookup-fit intent name k at) n ns ROOT 1 (any-names (n ∷ ns)) root

-- ---- a call

module _ (K : Fixed) (v : View) (b : Based v) (c : Call) where
  -- the parent of a path's last name
  parent : (intent : Intent) → follows intent ≡ false → (path : List ℕ) (at : Location) → walk intent v.tree K.policy (subject_of v.proc c.process) ROOT 1 (names path) ≡ Reached at → InDirectory v.tree at
  parent intent stays path at w = fit_at (in-directory K.policy v.tree (subject_of v.proc c.process) intent stays (names path) b.root) at w

  held_small : held v.desc c.process c.fd ≡ true → c.fd.0 < DESCRIPTORS
  unfolding held
  held_small h = b.eight c.process.0 c.fd.0 (eqb-false _ _ (not-true _ h))

  -- a write makes no file shorter
  longer : (a b : ℕ) → a ≤ max a b
  longer a b = omega arith

  free-slot : is_slot (free_slot v.tree.file) ≡ true → slot_free v.tree.file (free_slot v.tree.file).0 ≡ true
  free-slot s = first_passes (slot_free v.tree.file) SLOTS (ltb-true _ _ s)

  -- one case a call
  own-fit : (o : Operation) {n : ℕ} {out : Output} {e : Effect} → Passed K v c o n out e → OutputFit K.policy v c.process out × EffectFit K.policy v c.process e
  unfolding follows
  own-fit _ (passed.opens at m t k h q) = (silent, opened _ (ltb-true _ _ h.fd-free))
  own-fit _ (passed.opens_truncating at m t k h q) = (silent, truncates _ _ (ltb-true _ _ h.fd-free))
  own-fit _ (passed.creates o kind at bits k e h d s) = (silent, created _ _ _ (parent Create refl c.path at h.walked) (free-slot s))
  own-fit _ (passed.unlinks at w p a y) = (silent, unlinked _ _ (parent Find refl c.path at w))
  own-fit _ (passed.removes at w d a y z) = (silent, removed _ _ _ (parent Find refl c.path at w))
  own-fit _ (passed.links old at w p y h) = (silent, linked _ _ _ (parent Create refl c.«data» at h.walked))
  own-fit _ (passed.lists at w d a i) = (listed _ _, nothing)
  own-fit _ (passed.lists_past at w d a i) = (silent, nothing)
  own-fit _ (passed.changes_bits at bits e w o y l) = (silent, rebitted _ _)
  own-fit _ (passed.describes at w) = (described _, nothing)
  own-fit _ (passed.closes h) = (silent, closed _ _ (held_small h))
  own-fit _ (passed.fetches h m l) = (fetched _ _ _ l, shifted _ _)
  own-fit _ (passed.stores_nothing h w l z) = (silent, nothing)
  own-fit _ (passed.stores h w a z l) = (silent, stored _ (longer _ _))
  own-fit _ (passed.seeks h) = (silent, shifted _ _)
  own-fit _ (passed.duplicates h i) = (silent, duplicated _ _ _ (ltb-true _ _ i))
  own-fit _ (passed.forks q) = (silent, forked _ _ refl)
  own-fit _ passed.exits = (silent, exited)
  own-fit _ (passed.executes at w p b l) = (silent, relabelled at.slot.0 _ refl)
  own-fit _ (passed.symlinks at h s) = (silent, symlinked _ _ _ (parent Create refl c.path at h.walked) (free-slot s))
  own-fit _ (passed.reads_link at w l) = (texted _ _ _ l, nothing)
  own-fit _ (passed.renames_in old at h q) = (silent, renamed _ _ (parent Find refl c.path old h.found))
  own-fit _ (passed.transfers old at h q d i) = (silent, transferred _ _ _ (parent Find refl c.path old h.found) (parent Create refl c.«data» at h.walked))

  grant : (n : ℕ) (o : Output) (e : Effect) → Permit K v c n o e → Grant K.policy v c.process n o e
  unfolding in_use
  grant n o e p =
      let f : OutputFit K.policy v c.process o × EffectFit K.policy v c.process e = own-fit (operation c) p.passed in
      record { caller = record { small = ltb-true _ _ (test 0 _ p.used); used = eqb-true _ _ (test 1 _ p.used) }; output-fit = f.0; effect-fit = f.1 }

  pub decide-fit : Fit (Grant K.policy v c.process) (decide K v c)
  decide-fit = fit-map grant (permitted K v c)

-- ---- a borrowing read, as the read that it is

pub borrow-fit : (K : Fixed) (v : View) → Based v → (p : Pid) (i : Fd) (n : ℕ) → Fit (Grant K.policy v p) (decide_borrow K v p i n)
borrow-fit K v b p i n = fit-map (λ value o e h. grant K v b (read_of p i n) value o e h.permit) (borrow-permitted K v p i n)
