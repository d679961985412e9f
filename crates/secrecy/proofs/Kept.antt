-- What a granted call does keeps two stores related, and its answer is the same from both.
use mathlib.Core.Path.{◌≡◌, refl, sym, ap, ◌∙◌, subst}
use mathlib.Core.Bool.{true, false, false≢true, cond}
use mathlib.Core.List.{List, [], ◌∷◌}
use mathlib.Core.Logic.{◌≢◌}
use Prim.Native.Nat.{ℕ, ◌-◌, ◌≤◌, ◌<◌}
use native.Mathlib.Omega.{arith}
use borrow.Author.Tests.{eqb-true}
use lib.Dec.{eqb}
use lib.ListN.{take, drop}
use Rattle.std.specs.Prelude.{Some, None}
use Rattle.rules.specs.Layout.{SLOTS, DESCRIPTORS, LABELS, FILE_WIDTH, FILE_KIND, FILE_BITS, FILE_LABEL, FILE_LENGTH, FILE_LINKS, FILE_VERSION, FREE, PLAIN, DIRECTORY, LINK, PROCESS_LABEL}
use Rattle.rules.specs.Rights.{READ, label_grants, moved}
use Rattle.rules.specs.Store.{Store, Fixed, View, view, tab, is_slot, subject_of, words, clear_to, fd_of}
use Rattle.rules.specs.Rom.{seen, seen_file, prompt}
use Rattle.rules.specs.Paths.{Name}
use Rattle.rules.specs.Walk.{is_directory, is_link, label_allows}
use Rattle.rules.specs.Calls.{Call}
use Rattle.rules.specs.Checks.{slot_free, releasing, share_of}
use Rattle.rules.specs.Effects.{name_changes, unname_changes, create_changes, symlink_changes, link_changes, unnamed_changes, unlink_changes, remove_changes, transfer_changes, open_changes, truncate_changes, release_changes, close_changes, store_changes, duplicate_changes, share_changes, shared, shared_all, released, released_all, fork_changes, carry_out, dir_words}
use Rattle.rules.specs.Step.{name_out, bytes_of, bytes_out}
use Rattle.rules.specs.declared.ids.Slot.{Slot}
use Rattle.rules.specs.declared.ids.Pid.{Pid}
use Rattle.rules.specs.declared.ids.Fd.{Fd}
use Rattle.rules.specs.declared.ids.Ofd.{Ofd}
use Rattle.rules.specs.declared.decision.DirChange.{DirChange}
use Rattle.rules.specs.declared.decision.NewOpen.{NewOpen}
use Rattle.rules.specs.declared.decision.Record.{Record}
use Rattle.rules.specs.declared.decision.Placement.{Placement}
use Rattle.rules.specs.declared.decision.Unnamed.{Unnamed}
use Rattle.rules.specs.declared.decision.Unnamed.TheVariants as unnamed
use Rattle.rules.specs.declared.decision.Release.{Release}
use Rattle.rules.specs.declared.decision.Release.TheVariants as release
use Rattle.rules.specs.Decisions.{Share}
use Rattle.rules.specs.declared.decision.Output.{Output}
use Rattle.rules.specs.declared.decision.Effect.{Effect}
use Rattle.rules.proofs.Seen.{seen_stored}
use Rattle.secrecy.specs.Claim.{may_read}
use Rattle.secrecy.proofs.Tables.{OwnWord}
use Rattle.secrecy.proofs.Agree.{agree-block}
use Rattle.secrecy.proofs.Related.{Apart, Secret, Related, apart, view-same, Keeps, KeepsAll, all_keep, append-keep, repeat-keep, alike-keep}
use Rattle.secrecy.proofs.Fit.{OutputFit, silent, listed, described, fetched, texted, EffectFit, nothing, opened, truncates, created, unlinked, removed, linked, rebitted, closed, stored, shifted, duplicated, forked, exited, relabelled, symlinked, renamed, transferred}
use Rattle.rules.specs.declared.request.Subject.{Subject}

-- ---- changes that keep any two related stores

module _ (reach : ℕ → Type 0) (f n : ℕ) where
  -- a word that is neither kind, label nor length
  word : (k x : ℕ) → k ≢ FILE_KIND → k ≢ FILE_LABEL → k ≢ FILE_LENGTH → OwnWord n k x
  word k x a b c = record { kind = a; label = b; length = λ e. absurd (c e) }

  unnamed-keep : (L : ℕ) (u : Unnamed) → KeepsAll reach f n L (unnamed_changes u)
  unfolding unnamed_changes KeepsAll Keeps
  unnamed-keep L (unnamed.Kept s links) = ((omega arith, λ _. word FILE_LINKS links (λ e. omega arith) (λ e. omega arith) (λ e. omega arith)), tt)
  unnamed-keep L (unnamed.Freed s r) = (refl, tt)

  close-keep : (L : ℕ) (p : Pid) (i : Fd) (r : Release) → i.0 < DESCRIPTORS → KeepsAll reach f n L (close_changes p i r)
  unfolding close_changes release_changes KeepsAll Keeps
  close-keep L p i release.Nothing h = (h, tt)
  close-keep L p i (release.Kept e refs) h = (h, (tt, tt))
  close-keep L p i (release.Gone e) h = (h, (tt, tt))
  close-keep L p i (release.Freed e s r) h = (h, (tt, (refl, tt)))

  share-keep : (L : ℕ) (q : Pid) (i : Fd) (x : Share) → i.0 < DESCRIPTORS → KeepsAll reach f n L (share_changes q i x)
  unfolding share_changes KeepsAll Keeps
  share-keep L q i None h = (h, tt)
  share-keep L q i (Some s) h = (h, (tt, tt))

  released-keep : (L : ℕ) (p : Pid) (i : ℕ) → i < DESCRIPTORS → (s s' : Store) → Related reach f n L s s' → Related reach f n L (released p i s) (released p i s')
  unfolding released
  released-keep L p i h s s' r = alike-keep reach f n L (λ v. close_changes p (fd_of i) (releasing v.tree.file v.open_files v.desc p (fd_of i))) (λ v. close-keep L p (fd_of i) _ h) s s' r

  shared-keep : (L : ℕ) (p q : Pid) (i : ℕ) → i < DESCRIPTORS → (s s' : Store) → Related reach f n L s s' → Related reach f n L (shared p q i s) (shared p q i s')
  unfolding shared
  shared-keep L p q i h s s' r = alike-keep reach f n L (λ v. share_changes q (fd_of i) (share_of v.open_files v.desc p (fd_of i))) (λ v. share-keep L q (fd_of i) _ h) s s' r

  clear-keep : (L : ℕ) (t : Slot) (x : Record) → KeepsAll reach f n L (clear_to t.0 (words x) ∷ [])
  unfolding KeepsAll Keeps
  clear-keep L t x = (refl, tt)

  released_all-keep : (L : ℕ) (p : Pid) (s s' : Store) → Related reach f n L s s' → Related reach f n L (released_all p s) (released_all p s')
  unfolding released_all
  released_all-keep L p s s' r = repeat-keep reach f n L (released p) (released-keep L p) s s' r

  shared_all-keep : (L : ℕ) (p q : Pid) (s s' : Store) → Related reach f n L s s' → Related reach f n L (shared_all p q s) (shared_all p q s')
  unfolding shared_all
  shared_all-keep L p q s s' r = repeat-keep reach f n L (shared p q) (shared-keep L p q) s s' r

-- ---- what a granted call does keeps two stores related

module _ (K : Fixed) (reach : ℕ → Type 0) (f n L : ℕ) (no-right : (l : ℕ) → reach l → may_read K.policy l L ≡ false)
    (closed-under : (l m : ℕ) → m < LABELS → reach l → reach (moved K.policy l m)) where
  module _ (s s' : Store) (a : Apart f n s s') (z : Secret reach f n L s) (small : (t : ℕ) → seen_file (tab FILE_WIDTH s.files) t FILE_LABEL < LABELS) where
    -- what the call was decided on
    abbrev v : View
    v = seen K.rom (view s)

    -- the file's own words are seen as they are stored
    own-seen : (k t : ℕ) → t ≡ f → v.tree.file t k ≡ tab FILE_WIDTH s.files f k
    own-seen k t e = ap (λ (x : ℕ). v.tree.file x k) e ∙ seen_stored (tab FILE_WIDTH s.files) f k z.own.slot

    -- a slot of another kind is not f
    other-kind : (t kind : ℕ) → eqb (v.tree.file t FILE_KIND) kind ≡ true → kind ≢ PLAIN → t ≢ f
    other-kind t kind d ne e = ne (sym (eqb-true _ _ d) ∙ own-seen FILE_KIND t e ∙ z.own.plain)

    not-directory : (t : Slot) → is_directory v.tree.file t ≡ true → t.0 ≢ f
    not-directory t d = other-kind t.0 DIRECTORY d (λ e. omega arith)

    not-link : (t : Slot) → is_link v.tree.file t ≡ true → t.0 ≢ f
    not-link t d = other-kind t.0 LINK d (λ e. omega arith)

    not_free : (t : ℕ) → slot_free v.tree.file t ≡ true → t ≢ f
    unfolding slot_free
    not_free t d = other-kind t FREE d (λ e. omega arith)

    dir-keep : (d : DirChange) → is_directory v.tree.file d.dir ≡ true → KeepsAll reach f n L (dir_words d)
    unfolding KeepsAll Keeps
    dir-keep d h = ((omega arith, λ e. absurd (not-directory d.dir h e)), ((omega arith, λ e. absurd (not-directory d.dir h e)), tt))

    name-keep : (nm : Name) (t : Slot) (d : DirChange) → is_directory v.tree.file d.dir ≡ true → KeepsAll reach f n L (name_changes nm t d)
    unfolding name_changes KeepsAll Keeps
    name-keep nm t d h = (tt, dir-keep d h)

    unname-keep : (d : DirChange) → is_directory v.tree.file d.dir ≡ true → KeepsAll reach f n L (unname_changes d)
    unfolding unname_changes KeepsAll Keeps
    unname-keep d h = (tt, dir-keep d h)

    open-keep : (p : Pid) (w : NewOpen) → w.fd.0 < DESCRIPTORS → KeepsAll reach f n L (open_changes p w)
    unfolding open_changes KeepsAll Keeps
    open-keep p w h = (tt, (h, tt))

    truncate-keep : (p : Pid) (w : NewOpen) (x : Record) → w.fd.0 < DESCRIPTORS → KeepsAll reach f n L (truncate_changes p w x)
    unfolding truncate_changes
    truncate-keep p w x h = append-keep reach f n L (open_changes p w) _ (open-keep p w h) (clear-keep reach f n L w.slot x)

    create-keep : (nm : Name) (d : DirChange) (t : Slot) (x : Record) → is_directory v.tree.file d.dir ≡ true → slot_free v.tree.file t.0 ≡ true → KeepsAll reach f n L (create_changes nm d t x)
    unfolding create_changes KeepsAll Keeps
    create-keep nm d t x h g = ((refl, not_free t.0 g), name-keep nm t d h)

    symlink-keep : (nm : Name) (text : List ℕ) (d : DirChange) (t : Slot) (x : Record) → is_directory v.tree.file d.dir ≡ true → slot_free v.tree.file t.0 ≡ true → KeepsAll reach f n L (symlink_changes nm text d t x)
    unfolding symlink_changes KeepsAll Keeps
    symlink-keep nm text d t x h g = ((refl, not_free t.0 g), (tt, name-keep nm t d h))

    link-keep : (nm : Name) (d : DirChange) (t : Slot) (links : ℕ) → is_directory v.tree.file d.dir ≡ true → KeepsAll reach f n L (link_changes nm d t links)
    unfolding link_changes KeepsAll Keeps
    link-keep nm d t links h = ((omega arith, λ _. word reach f n FILE_LINKS links (λ e. omega arith) (λ e. omega arith) (λ e. omega arith)), name-keep nm t d h)

    unlink-keep : (d : DirChange) (u : Unnamed) → is_directory v.tree.file d.dir ≡ true → KeepsAll reach f n L (unlink_changes d u)
    unfolding unlink_changes
    unlink-keep d u h = append-keep reach f n L (unname_changes d) (unnamed_changes u) (unname-keep d h) (unnamed-keep reach f n L u)

    remove-keep : (d : DirChange) (t : Slot) (x : Record) → is_directory v.tree.file d.dir ≡ true → KeepsAll reach f n L (remove_changes d t x)
    unfolding remove_changes
    remove-keep d t x h = append-keep reach f n L (unname_changes d) _ (unname-keep d h) (clear-keep reach f n L t x)

    transfer-keep : (nm : Name) (from to : DirChange) (t : Slot) → is_directory v.tree.file from.dir ≡ true → is_directory v.tree.file to.dir ≡ true → KeepsAll reach f n L (transfer_changes nm from to t)
    unfolding transfer_changes
    transfer-keep nm from to t h g = append-keep reach f n L (unname_changes from) _ (unname-keep from h) (name-keep nm t to g)

    -- a write never makes a file shorter
    store-keep : (bs : List ℕ) (w : Placement) → v.tree.file w.slot.0 FILE_LENGTH ≤ w.length → KeepsAll reach f n L (store_changes bs w)
    unfolding store_changes KeepsAll Keeps
    store-keep bs w h = (
      tt,
      (tt, ((omega arith, longer), ((omega arith, λ _. word reach f n FILE_VERSION w.version (λ e. omega arith) (λ e. omega arith) (λ e. omega arith)), (tt, tt)))),
    )
      where
        longer : w.slot.0 ≡ f → OwnWord n FILE_LENGTH w.length
        longer e =
            let g : n ≤ v.tree.file w.slot.0 FILE_LENGTH = rw (own-seen FILE_LENGTH w.slot.0 e) z.own.within in
            record { kind = λ q. omega arith; label = λ q. omega arith; length = λ _. omega arith }

    duplicate-keep : (p : Pid) (i : Fd) (e : Ofd) (refs : ℕ) → i.0 < DESCRIPTORS → KeepsAll reach f n L (duplicate_changes p i e refs)
    unfolding duplicate_changes KeepsAll Keeps
    duplicate-keep p i e refs h = (h, (tt, tt))

    fork-keep : (q : Pid) (who : Subject) → reach who.label → KeepsAll reach f n L (fork_changes q who)
    unfolding fork_changes KeepsAll Keeps
    fork-keep q who r = ((refl, λ _. r), tt)

    pub effect-keep : (c : Call) (e : Effect) → reach (v.proc c.process.0 PROCESS_LABEL) → EffectFit K.policy v c.process e → Related reach f n L (carry_out c e s) (carry_out c e s')
    unfolding carry_out KeepsAll Keeps
    effect-keep c _ r nothing = apart a z
    effect-keep c _ r (opened w o) = all_keep reach f n L _ s s' (open-keep c.process w o) (apart a z)
    effect-keep c _ r (truncates w x o) = all_keep reach f n L _ s s' (truncate-keep c.process w x o) (apart a z)
    effect-keep c _ r (created d t x h g) = all_keep reach f n L _ s s' (create-keep _ d t x h g) (apart a z)
    effect-keep c _ r (unlinked d u h) = all_keep reach f n L _ s s' (unlink-keep d u h) (apart a z)
    effect-keep c _ r (removed d t x h) = all_keep reach f n L _ s s' (remove-keep d t x h) (apart a z)
    effect-keep c _ r (linked d t links h) = all_keep reach f n L _ s s' (link-keep _ d t links h) (apart a z)
    effect-keep c _ r (rebitted t x) = all_keep reach f n L _ s s' ((omega arith, λ _. word reach f n FILE_BITS x.0 (λ e. omega arith) (λ e. omega arith) (λ e. omega arith)), tt) (apart a z)
    effect-keep c _ r (closed i x h) = all_keep reach f n L _ s s' (close-keep reach f n L c.process i x h) (apart a z)
    effect-keep c _ r (stored w h) = all_keep reach f n L _ s s' (store-keep c.«data» w h) (apart a z)
    effect-keep c _ r (shifted e offset) = all_keep reach f n L _ s s' (tt, tt) (apart a z)
    effect-keep c _ r (duplicated i e refs h) = all_keep reach f n L _ s s' (duplicate-keep c.process i e refs h) (apart a z)
    effect-keep c _ r (forked q who h) = all_keep reach f n L _ _ _ (fork-keep q who (subst reach h r)) (shared_all-keep reach f n L c.process q s s' (apart a z))
    effect-keep c _ r exited = all_keep reach f n L _ _ _ (tt, tt) (released_all-keep reach f n L c.process s s' (apart a z))
    effect-keep c _ r (relabelled t label h) = all_keep reach f n L _ s s' ((refl, subst reach h (closed-under _ _ (small t) r)), tt) (apart a z)
    effect-keep c _ r (symlinked d t x h g) = all_keep reach f n L _ s s' (symlink-keep _ c.«data» d t x h g) (apart a z)
    effect-keep c _ r (renamed d t h) = all_keep reach f n L _ s s' (name-keep _ t d h) (apart a z)
    effect-keep c _ r (transferred from to t h g) = all_keep reach f n L _ s s' (transfer-keep _ from to t h g) (apart a z)

    -- the answer: only reads and a read link look at bytes, and not at those of f
    bytes-of : (t : Slot) → t.0 ≢ f → bytes_of K.rom s.contents t ≡ bytes_of K.rom s'.contents t
    unfolding bytes_of
    bytes-of t ne = ap (λ (l : List ℕ). cond (is_slot t) l (prompt K.rom (t.0 - SLOTS))) (agree-block f n s.contents s'.contents a.contents a.small t.0 ne)

    -- a label that is held or reached may not read f
    not-readable : (p : Pid) (t : Slot) → reach (v.proc p.0 PROCESS_LABEL) → label_allows v.tree.file K.policy (subject_of v.proc p) t READ ≡ true → t.0 ≢ f
    unfolding label_grants
    not-readable p t r l e =
        let same : v.tree.file t.0 FILE_LABEL ≡ L = own-seen FILE_LABEL t.0 e ∙ z.own.label in
        false≢true (sym (no-right _ r) ∙ (rw same at l))

    pub bytes_same : (p : Pid) (o : Output) → reach (v.proc p.0 PROCESS_LABEL) → OutputFit K.policy v p o → bytes_out K.rom s.contents o ≡ bytes_out K.rom s'.contents o
    unfolding bytes_out
    bytes_same p _ r silent = refl
    bytes_same p _ r (listed d i) = refl
    bytes_same p _ r (described x) = refl
    bytes_same p _ r (fetched t from m l) = ap (λ (l : List ℕ). take m (drop from l)) (bytes-of t (not-readable p t r l))
    bytes_same p _ r (texted t from m l) = ap (λ (l : List ℕ). take m (drop from l)) (bytes-of t (not-link t l))

    pub name-same : (o : Output) → name_out v.tree o ≡ name_out (seen K.rom (view s')).tree o
    name-same o = ap (λ (u : View). name_out (seen K.rom u).tree o) (view-same f n L s s' a z.own)
