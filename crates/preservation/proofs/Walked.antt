-- What a walk has found when it reaches a location.
use mathlib.Core.Path.{◌≡◌, refl, sym, ◌∙◌}
use mathlib.Core.Bool.{true}
use mathlib.Core.List.{List, [], ◌∷◌}
use Prim.Native.Nat.{ℕ, suc, ◌+◌, ◌-◌, ◌≤◌, ◌<◌}
use native.Mathlib.Nat.{not-suc-le-zero}
use native.Mathlib.Omega.{arith}
use native.Mathlib.Decide.{dec_lt, ℕ_discrete}
use lib.ListN.{length}
use borrow.Author.Tests.{eqb-true, eqb-false, ltb-true, le-leb}
use Rattle.rules.specs.Layout.{SLOTS, DIRENTS, ENTRIES, PROMPTS, ROM, NAME, NAMES, FOLLOWS, FILE_KIND, FILE_LENGTH, DIRECTORY, LINK}
use Rattle.rules.specs.Store.{Store, Tree, view, slot, entry, is_entry}
use Rattle.rules.specs.Paths.{Name, names, last_name}
use Rattle.rules.specs.Directories.{dirent_of, dirent_slot, has_name}
use Rattle.rules.specs.Rom.{prompt_count, rom_dirents, seen_tree, seen_dirents}
use Rattle.rules.specs.Walk.{is_directory, bits_allow, label_allows, searched, deeper, entered, lookup, start, link_text, follows, walk, ROOT, walk_path, follow_path, walk_new}
use Rattle.rules.specs.Rights.{EXECUTE}
use Rattle.rules.specs.declared.ids.Slot.{Slot}
use Rattle.rules.specs.declared.request.Subject.{Subject}
use Rattle.rules.specs.declared.decision.Location.{Location}
use Rattle.rules.specs.declared.decision.Intent.TheVariants.{Find, Follow, Create}
use Rattle.rules.specs.Decisions.{Walk, Reached}
use Rattle.rules.proofs.Scans.{first_passes}
use Rattle.rules.proofs.Seen.{seen_stored}
use Rattle.rules.proofs.Walks.{WalkFit, reached, need_at-fit, fit_at, Each, Kept, follow-fit, walk-fit}
use Rattle.preservation.proofs.Tables.{dirent_row}
use Rattle.preservation.proofs.StoreChanges.{tables_of}
use Rattle.preservation.proofs.SoundStore.{SoundStore, past, text-ok}
use Rattle.preservation.proofs.NameEffects.{Names}
use Rattle.preservation.proofs.PathNames.{GoodName, GoodPath, path-good}
use Rattle.preservation.proofs.Prompts.{directory-rom, link-stored}
use Rattle.preservation.proofs.Seen.{no_name, rom-entry, seen-row, seen-slot, last-rom, last_empty}
use Rattle.preservation.proofs.Reach.{Reach, root, down, reach-depth}

module _ (R : List ℕ) (s : Store) (h : SoundStore s) (Q : List ℕ) (who : Subject) where
  -- what the rules see
  abbrev T : Tree
  T = seen_tree R (view s).tree

  -- Where a name is looked for, and where a walk that follows its last name ends. Of what is not stored it is said only that it is /rom or a prompt
  pub record Stands (at : Location) : Type 0 where
    pub reach : at.slot.0 < SLOTS → Reach (tables_of s) at.depth at.slot.0
    pub within : (at.slot.0 ≡ ROM → ⊥) → at.slot.0 < past R
    pub not-link : T.file at.slot.0 FILE_KIND ≡ LINK → ⊥

  -- where a name is found, a link maybe
  pub record Found (at : Location) : Type 0 where
    pub reach : at.slot.0 < SLOTS → Reach (tables_of s) at.depth at.slot.0
    pub within : (at.slot.0 ≡ ROM → ⊥) → at.slot.0 < past R
    pub named : at.slot.0 < SLOTS → Names s h at.dir at.dirent.0 at.slot

  -- the entry of a new name n, in a directory that is stored
  pub record NewEntry (n : Name) (at : Location) : Type 0 where
    pub kind : (tables_of s).file at.dir.0 FILE_KIND ≡ DIRECTORY
    pub depth : at.depth ≡ suc (h.tables.tree.depths.depth at.dir.0)
    pub is-entry : at.dirent ≡ dirent_of (T.dirents at.dir.0) n

  -- ---- a step

  -- the kind of what is stored
  pub kind-is : (d : Slot) → d.0 < SLOTS → (k : ℕ) → T.file d.0 FILE_KIND ≡ k → (tables_of s).file d.0 FILE_KIND ≡ k
  unfolding tables_of
  kind-is d hd k e = sym (seen_stored (view s).tree.file d.0 FILE_KIND hd) ∙ e

  -- a directory lies at most NAMES deep, so what it names lies one name deeper
  one_deeper : (at : Location) → Stands at → at.slot.0 < SLOTS → (tables_of s).file at.slot.0 FILE_KIND ≡ DIRECTORY → deeper at.depth ≡ suc at.depth
  unfolding deeper
  one_deeper at f hd kd =
      let e : at.depth + 1 ≡ suc at.depth = omega arith in
      rw (le-leb at.depth NAMES (omega (arith, reach-depth (tables_of s) h.tables (f.reach hd) kd, h.tables.tree.depths.depth-most at.slot.0 hd kd)), e)

  searched-fit : {P : Location → Type 0} (d : Slot) (k : ℕ) (w : Walk) → (T.file d.0 FILE_KIND ≡ DIRECTORY → WalkFit P w) → WalkFit P (searched T.file Q who d k w)
  searched-fit d k w f =
      need_at-fit (is_directory T.file d) _ k _ (λ t. need_at-fit (bits_allow T.file who d EXECUTE) _ k _ (λ _. need_at-fit (label_allows T.file Q who d EXECUTE) _ k w (λ _.
      f (eqb-true (T.file d.0 FILE_KIND) DIRECTORY t))))

  -- entry i of the directory at a location
  abbrev entered_at : Location → ℕ → Location
  entered_at at i = record { dir = at.slot; dirent = entry i; slot = slot (dirent_slot (T.dirents at.slot.0) i); depth = deeper at.depth; follows = at.follows }

  -- what is not stored
  unstored : (at : Location) → SLOTS ≤ at.slot.0 → ((at.slot.0 ≡ ROM → ⊥) → at.slot.0 < past R) → Found at
  unstored at l w = record { reach = λ q. absurd (omega arith); within = w; named = λ q. absurd (omega arith) }

  next-stored : (n : Name) (at : Location) → GoodName n → Stands at → (hd : at.slot.0 < SLOTS) → (tables_of s).file at.slot.0 FILE_KIND ≡ DIRECTORY → (i : ℕ) → i < ENTRIES → has_name (T.dirents at.slot.0) n i ≡ true → Found (entered_at at i)
  next-stored n at g f hd kd i hi t = by (dec_lt i DIRENTS) (ℕ_discrete at.slot.0 0)
    where
      by : Dec (i < DIRENTS) → Dec (at.slot.0 ≡ 0) → Found (entered_at at i)
      by (yes l) z =
          let e : dirent_slot (T.dirents at.slot.0) i ≡ dirent_row (tables_of s).byte at.slot.0 i NAME = seen-slot R s h at.slot hd kd i l in
          let used : dirent_row (tables_of s).byte at.slot.0 i NAME ≡ 0 → ⊥
          = λ q. no_name (T.dirents at.slot.0) n i g (seen-row R s h at.slot hd kd i 0 l (omega arith) ∙ ((h.tables.tree.dirs at.slot.0 hd kd).dirents i l).empty-zero q 0 (omega arith)) t in
          record {
            reach = λ _. rw (e, one_deeper at f hd kd) (down i (f.reach hd) kd l used);
            within = λ _. rw e (omega (arith, ((h.tables.tree.dirs at.slot.0 hd kd).dirents i l).slot_small));
            named = λ _. record { dir-small = hd; dir-kind = kd; dirent-small = l; there = sym e; not_root = λ q. used (sym e ∙ q) };
          }
      by (no l) (yes z) =
          let q : i ≡ DIRENTS = omega arith in
          let e : dirent_slot (T.dirents at.slot.0) i ≡ ROM = rw q (last-rom R s h at.slot hd kd z) in
          unstored (entered_at at i) (omega arith) (λ m. absurd (m e))
      by (no l) (no z) =
          let q : i ≡ DIRENTS = omega arith in
          absurd (last_empty R s h at.slot hd kd z n g (rw q at t))

  -- a directory that is not stored is /rom
  next-prompt : (n : Name) (at : Location) → GoodName n → at.slot.0 ≡ ROM → (i : ℕ) → has_name (T.dirents at.slot.0) n i ≡ true → Found (entered_at at i)
  next-prompt n at g z i t =
      let r : T.dirents at.slot.0 ≡ rom_dirents R = unfold seen_dirents in rw z in
      let p : (i < prompt_count PROMPTS R) × (dirent_slot (rom_dirents R) i ≡ SLOTS + i) = rom-entry R n i g (rw r at t) in
      let e : dirent_slot (T.dirents at.slot.0) i ≡ SLOTS + i = rw r p.1 in
      unstored (entered_at at i) (omega arith) (λ _. omega (arith, p.0))

  next : (n : Name) (at : Location) → GoodName n → Stands at → T.file at.slot.0 FILE_KIND ≡ DIRECTORY → (i : ℕ) → i < ENTRIES → has_name (T.dirents at.slot.0) n i ≡ true → Found (entered_at at i)
  next n at g f kd i hi t = by (dec_lt at.slot.0 SLOTS)
    where
      by : Dec (at.slot.0 < SLOTS) → Found (entered_at at i)
      by (yes hd) = next-stored n at g f hd (kind-is at.slot hd DIRECTORY kd) i hi t
      by (no l) = next-prompt n at g (directory-rom (view s).tree.file at.slot.0 (omega arith) kd) i t

  found-fit : (n : Name) (k : ℕ) (at : Location) → GoodName n → Stands at → WalkFit Found (lookup Find T Q who n k at)
  unfolding lookup entered
  found-fit n k at g f = searched-fit at.slot k _ (λ kd. need_at-fit (is_entry (dirent_of (T.dirents at.slot.0) n)) _ k _ (λ t.
      let l : (dirent_of (T.dirents at.slot.0) n).0 < ENTRIES = ltb-true (dirent_of (T.dirents at.slot.0) n).0 ENTRIES t in
      reached _ (next n at g f kd (dirent_of (T.dirents at.slot.0) n).0 l (first_passes (has_name (T.dirents at.slot.0) n) ENTRIES l))))

  -- the two intents look alike
  followed-fit : (n : Name) (k : ℕ) (at : Location) → GoodName n → Stands at → WalkFit Found (lookup Follow T Q who n k at)
  unfolding lookup entered
  followed-fit = found-fit

  -- a new name's entry, where its directory is stored
  abbrev pub NewIn : Name → Location → Type 0
  NewIn n at = at.dir.0 < SLOTS → NewEntry n at

  new-fit : (n : Name) (k : ℕ) (at : Location) → GoodName n → Stands at → WalkFit (NewIn n) (lookup Create T Q who n k at)
  unfolding lookup entered
  new-fit n k at g f = searched-fit at.slot k _ (λ k. reached _ (λ hd. let kd = kind-is at.slot hd DIRECTORY k in record {
    kind = kd;
    depth = rw (one_deeper at f hd kd, reach-depth (tables_of s) h.tables (f.reach hd) kd);
    is-entry = refl;
  }))

  -- ---- a walk

  at-root : (j : ℕ) → Stands (start j)
  at-root j = record { reach = λ _. root; within = λ _. omega arith; not-link = λ z. omega (arith, h.tables.slots.root-kind, kind-is (slot 0) (omega arith) LINK z) }

  stands : Kept T Q who GoodName Stands Found
  stands = record {
    looks = followed-fit;
    passes = λ at f e. record { reach = f.reach; within = f.within; not-link = eqb-false (T.file at.slot.0 FILE_KIND) LINK e };
    starts = λ at f e. at-root (at.follows - 1);
    texts = λ at f e. text at (eqb-true (T.file at.slot.0 FILE_KIND) LINK e);
  }
    where
      -- a link is stored
      text : (at : Location) → T.file at.slot.0 FILE_KIND ≡ LINK → Each GoodName (names (link_text T at.slot))
      text at e =
          let l = link-stored (view s).tree.file at.slot.0 e in
          rw (seen_stored (view s).tree.file at.slot.0 FILE_LENGTH l) (path-good (link_text (view s).tree at.slot) (text-ok s h at.slot.0 l (kind-is at.slot l LINK e)))

  find-fit : (ns : List Name) → 0 < length ns → Each GoodName ns → WalkFit Found (walk Find T Q who ROOT 1 ns)
  find-fit [] l g = absurd (not-suc-le-zero l)
  find-fit (n ∷ ns) l g = walk-fit stands Find (unfold follows in refl) {R = λ _. Found} found-fit n ns ROOT 1 g (at-root FOLLOWS)

  create-fit : (ns : List Name) → 0 < length ns → Each GoodName ns → WalkFit (NewIn (last_name ns)) (walk Create T Q who ROOT 1 ns)
  create-fit [] l g = absurd (not-suc-le-zero l)
  create-fit (n ∷ ns) l g = walk-fit stands Create (unfold follows in refl) {R = NewIn} new-fit n ns ROOT 1 g (at-root FOLLOWS)

  -- ---- a whole path

  pub path-followed : (p : List ℕ) → GoodPath p → (at : Location) → follow_path T Q who p ≡ Reached at → Stands at
  path-followed p g at w = fit_at (follow-fit stands (names p) ROOT 1 g (at-root FOLLOWS)) at w

  pub path-found : (p : List ℕ) → GoodPath p → 0 < length (names p) → (at : Location) → walk_path T Q who p ≡ Reached at → Found at
  path-found p g l at w = fit_at (find-fit (names p) l g) at w

  pub new-found : (p : List ℕ) → GoodPath p → 0 < length (names p) → (at : Location) → walk_new T Q who p ≡ Reached at → at.dir.0 < SLOTS → NewEntry (last_name (names p)) at
  new-found p g l at w = fit_at (create-fit (names p) l g) at w
