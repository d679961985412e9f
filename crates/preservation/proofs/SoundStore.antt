-- A store passes the soundness test just where its tables have the right sizes and are `Sound`.
use mathlib.Core.Path.{◌≡◌, refl, sym, ap, ◌∙◌}
use mathlib.Core.Bool.{Bool, true, false, cond, false≢true}
use mathlib.Core.List.{List, [], ◌∷◌}
use Prim.Native.Nat.{ℕ, ◌+◌, ◌*◌, ◌≤◌, ◌<◌}
use native.Mathlib.Omega.{arith}
use native.Mathlib.Decide.{dec_lt, ℕ_discrete}
use lib.Dec.{ltb}
use lib.ListN.{length, get_or, take, drop, length-take}
use lib.Seq.{length-take-le, get_or-take, get_or-drop}
use borrow.Author.Tests.{lt-ltb}
use Rattle.rules.specs.Layout.{SLOTS, BLOCK, DIRENT_WIDTH, DIRENTS, NAMES, OPEN_FILES, PROCESSES, PROMPTS, FILE_WIDTH, OPEN_FILE_WIDTH}
use Rattle.rules.specs.Layout.{FILE_KIND, FILE_BITS, FILE_LENGTH, FILE_LINKS, OPEN_SLOT, OPEN_REFERENCES, FREE, PLAIN, DIRECTORY, LINK}
use Rattle.rules.specs.Choice.{every, some}
use Rattle.rules.specs.Store.{Store, Fixed, view, slot, tab, block, shown_of, is_open}
use Rattle.rules.specs.Paths.{path_ok}
use Rattle.rules.specs.Directories.{dirent_at, has_name}
use Rattle.rules.specs.Rom.{ROM_NAME, rom_sound, prompt_count}
use Rattle.rules.specs.Walk.{link_text}
use Rattle.rules.specs.Sound.{sizes_sound, all_zero, dirents_sound, links_sound, directory_sound, plain_sound, text_sound, link_sound, kind_sound, slot_sound, open_sound, open_within, opens_within, proc_sound, is_not_rom, rom_absent, tree_sound, tables_sound, store_sound, policy_sound, sound}
use Rattle.preservation.proofs.Tests.{Means, means-every, means-and, means-first, means-last, means-not, means-cond, means-choice, means-or, means-eq, means-lt, means-le, means-test, means-all, means-within, means-same}
use Rattle.preservation.proofs.Tables.{Tables, col, dirent_row}
use Rattle.preservation.proofs.Sound.{All, Sound, NoRom, rom_row, same_row, File, Block, Symlink, Directory, OpenFile, Process, name_count, link_count, depth_within, open_count, holder_count}
use Rattle.preservation.proofs.Tree.{depths-from, depth_is}
use Rattle.preservation.proofs.StoreChanges.{tables_of, Sized, Has}
use Rattle.preservation.proofs.Shown.{has-name, block-length, block-byte, block-text, shown-whole, shown-plain, means-zeros}
use Rattle.preservation.proofs.Counted.{links-total, means-climbs, means-open}
use Rattle.preservation.proofs.PathNames.{path-size}
use Rattle.preservation.proofs.Meaning.{means-sized, means-record, means-dirents, means-open-file, means-process}

module _ (s : Store) (z : Sized s) where
  abbrev file : ℕ → ℕ → ℕ
  file = tab FILE_WIDTH s.files

  abbrev kind : ℕ → ℕ
  kind = col (tab FILE_WIDTH s.files) FILE_KIND

  abbrev rows : ℕ → ℕ → ℕ → ℕ
  rows = dirent_row (tab BLOCK s.contents)

  abbrev on_slot : ℕ → ℕ
  on_slot = open_count (col (tab OPEN_FILE_WIDTH s.open_files) OPEN_SLOT) (col (tab OPEN_FILE_WIDTH s.open_files) OPEN_REFERENCES)

  pub agree : (d : ℕ) → d < SLOTS → file d FILE_KIND ≡ DIRECTORY → (i k : ℕ) → k < DIRENT_WIDTH → get_or (dirent_at (shown_of s.files s.contents d) i) k 0 ≡ rows d i k
  agree d h e i k l =
      rw (shown-whole s.files s.contents d (λ q. omega (arith, e)), lt-ltb k DIRENT_WIDTH l)
      (get_or-drop (DIRENT_WIDTH * i) (block s.contents d) k 0 ∙ block-byte s.contents z.contents-size d h (DIRENT_WIDTH * i + k))

  -- bytes of slot d from a on are 0
  abbrev Zeros : ℕ → ℕ → Type 0
  Zeros a d = All BLOCK (λ b. a ≤ b → tab BLOCK s.contents d b ≡ 0)

  zeros-block : (d : ℕ) → d < SLOTS → (a : ℕ) → Means (all_zero (drop a (block s.contents d))) (Zeros a d)
  zeros-block d h a = means-same (means-zeros (block s.contents d) a)
      (λ w b hb l. sym (block-byte s.contents z.contents-size d h b) ∙ w b (rw (block-length s.contents z.contents-size d h) hb) l)
      (λ w b hb l. block-byte s.contents z.contents-size d h b ∙ w b (rw (block-length s.contents z.contents-size d h) at hb) l)

  -- ---- what is owed by kind

  abbrev OfDirectory : ℕ → Type 0
  OfDirectory d = (Directory kind (rows d) × ((file d FILE_LENGTH ≡ name_count (rows d)) × Zeros (DIRENTS * DIRENT_WIDTH) d)) × (((d ≡ 0 → ⊥) → file d FILE_LINKS ≡ 1) × (depth_within kind rows NAMES d ≤ NAMES))

  abbrev OfPlain : ℕ → Type 0
  OfPlain d = (file d FILE_LENGTH ≤ BLOCK) × ((0 < file d FILE_LINKS + on_slot d) × Zeros (file d FILE_LENGTH) d)

  -- the text of slot d, a link
  abbrev text_of : ℕ → List ℕ
  text_of d = take (file d FILE_LENGTH) (block s.contents d)

  -- is the one that the record has
  text-is : (d : ℕ) → d < SLOTS → file d FILE_LENGTH ≤ BLOCK → (x : Symlink (file d FILE_BITS) (file d FILE_LENGTH) (tab BLOCK s.contents d)) → text_of d ≡ x.text
  text-is d h l x = block-text s.contents z.contents-size d h (file d FILE_LENGTH) x.text x.text-size l x.text-bytes

  abbrev OfLink : ℕ → Type 0
  OfLink d = (file d FILE_LINKS ≡ 1) × ((file d FILE_BITS ≡ 0) × ((path_ok (text_of d) ≡ true) × Zeros (file d FILE_LENGTH) d))

  means-directory : (d : ℕ) → d < SLOTS → file d FILE_KIND ≡ DIRECTORY → Means (directory_sound (view s).tree d) (OfDirectory d)
  unfolding directory_sound
  means-directory d h e = means-every (means-and dirents (means-and (means-or (means-eq d 0) (means-eq (file d FILE_LINKS) 1)) (means-last (means-climbs (view s).tree rows agree NAMES d))))
    where
      whole : shown_of s.files s.contents d ≡ block s.contents d
      whole = shown-whole s.files s.contents d (λ q. omega (arith, e))

      size : length (shown_of s.files s.contents d) ≡ BLOCK
      size = ap length whole ∙ block-length s.contents z.contents-size d h

      byte : (b : ℕ) → get_or (shown_of s.files s.contents d) b 0 ≡ tab BLOCK s.contents d b
      byte b = ap (λ (l : List ℕ). get_or l b 0) whole ∙ block-byte s.contents z.contents-size d h b

      dirents : Means (dirents_sound (view s).tree.file (shown_of s.files s.contents d) (file d FILE_LENGTH)) (Directory kind (rows d) × ((file d FILE_LENGTH ≡ name_count (rows d)) × Zeros (DIRENTS * DIRENT_WIDTH) d))
      dirents = means-same (means-dirents (view s).tree.file (shown_of s.files s.contents d) (rows d) (agree d h e) (file d FILE_LENGTH))
          (λ w. (w.0, (w.1.0, λ b hb l. sym (byte b) ∙ w.1.1 b (rw size hb) l)))
          (λ w. (w.0, (w.1.0, λ b hb l. byte b ∙ w.1.1 b (rw size at hb) l)))

  means-plain : (d : ℕ) → d < SLOTS → file d FILE_KIND ≡ PLAIN → Means (plain_sound (view s).tree (view s).open_files d) (OfPlain d)
  unfolding plain_sound
  means-plain d h e = means-every (means-and (means-le (file d FILE_LENGTH) BLOCK) (means-and alive (means-last zeros)))
    where
      alive : Means (some (ltb 0 (file d FILE_LINKS) ∷ is_open (tab OPEN_FILE_WIDTH s.open_files) (slot d) ∷ [])) (0 < file d FILE_LINKS + on_slot d)
      alive = means-same (means-or (means-lt 0 (file d FILE_LINKS)) (means-open (tab OPEN_FILE_WIDTH s.open_files) d)) (λ f. go f (dec_lt 0 (file d FILE_LINKS))) (λ l n. omega arith)
        where
          go : ((0 < file d FILE_LINKS → ⊥) → 0 < on_slot d) → Dec (0 < file d FILE_LINKS) → 0 < file d FILE_LINKS + on_slot d
          go f (yes l) = omega arith
          go f (no l) = omega (arith, f l)

      zeros : Means (all_zero (shown_of s.files s.contents d)) (Zeros (file d FILE_LENGTH) d)
      zeros = rw (shown-plain s.files s.contents d e) (zeros-block d h (file d FILE_LENGTH))

  means-link : (d : ℕ) → d < SLOTS → (file d FILE_KIND ≡ PLAIN → ⊥) → Means (link_sound (view s).tree d) (OfLink d)
  unfolding link_sound text_sound
  means-link d h n = rw (shown-whole s.files s.contents d n) (means-every (means-and (means-eq (file d FILE_LINKS) 1) (means-and (means-eq (file d FILE_BITS) 0)
      (means-last (means-every (means-and (means-test (path_ok (text_of d))) (means-last (zeros-block d h (file d FILE_LENGTH)))))))))

  abbrev OfKind : ℕ → Type 0
  OfKind d = (file d FILE_KIND ≡ DIRECTORY → OfDirectory d) × ((file d FILE_KIND ≡ DIRECTORY → ⊥) →
      (file d FILE_KIND ≡ PLAIN → OfPlain d) × ((file d FILE_KIND ≡ PLAIN → ⊥) → (file d FILE_KIND ≡ LINK → OfLink d) × ((file d FILE_KIND ≡ LINK → ⊥) → Zeros 0 d)))

  means-kind : (d : ℕ) → d < SLOTS → Means (kind_sound (view s).tree (view s).open_files d) (OfKind d)
  unfolding kind_sound
  means-kind d h = means-choice (means-eq (file d FILE_KIND) DIRECTORY) (means-directory d h)
      (λ _. means-choice (means-eq (file d FILE_KIND) PLAIN) (means-plain d h)
      (λ n. means-choice (means-eq (file d FILE_KIND) LINK) (λ _. means-link d h n) (λ _. rw (shown-whole s.files s.contents d n) (zeros-block d h 0))))

  -- ---- a slot

  abbrev OfSlot : ℕ → Type 0
  OfSlot d = File (file d) × (((d ≡ 0 → file d FILE_LINKS ≡ 0) × ((d ≡ 0 → ⊥) → file d FILE_LINKS ≡ link_count kind rows d)) × OfKind d)

  means-slot : (d : ℕ) → d < SLOTS → Means (slot_sound (view s).tree (view s).open_files d) (OfSlot d)
  unfolding slot_sound
  means-slot d h = means-every (means-and (means-record (view s).tree.file d) (means-and links (means-last (means-kind d h))))
    where
      links : Means (links_sound (view s).tree d) ((d ≡ 0 → file d FILE_LINKS ≡ 0) × ((d ≡ 0 → ⊥) → file d FILE_LINKS ≡ link_count kind rows d))
      links = unfold links_sound in rw (links-total (view s).tree rows agree d) (means-cond (means-eq d 0) (means-eq (file d FILE_LINKS) 0) (means-eq (file d FILE_LINKS) (link_count kind rows d)))

  -- ---- all tables

  abbrev OfTree : Type 0
  OfTree = (file 0 FILE_KIND ≡ DIRECTORY) × (NoRom rows × All SLOTS OfSlot)

  means-rom : file 0 FILE_KIND ≡ DIRECTORY → Means (rom_absent (shown_of s.files s.contents 0)) (NoRom rows)
  unfolding rom_absent is_not_rom
  means-rom e = means-all DIRENTS _ (λ p. same_row (rows 0 p) rom_row ≡ true → ⊥)
      (λ p. rw (← has-name (shown_of s.files s.contents 0) ROM_NAME p (rows 0 p) (λ k l. agree 0 (omega arith) e p k (omega arith))) (means-not (means-test (has_name (shown_of s.files s.contents 0) ROM_NAME p))))

  means-tree : Means (tree_sound (view s).tree (view s).open_files) OfTree
  unfolding tree_sound
  means-tree = means-every (means-first (means-eq (file 0 FILE_KIND) DIRECTORY) (λ e. means-and (means-rom e) (means-last (means-within SLOTS (slot_sound (view s).tree (view s).open_files) OfSlot means-slot))))

  abbrev OfTables : Type 0
  OfTables = OfTree × (All OPEN_FILES (λ e. (tab OPEN_FILE_WIDTH s.open_files e OPEN_REFERENCES ≡ holder_count (view s).desc e)
      × OpenFile kind (tab OPEN_FILE_WIDTH s.open_files e)) × All PROCESSES (λ p. Process ((view s).proc p) ((view s).desc p)))

  means-parts : Means (tables_sound (view s)) OfTables
  unfolding tables_sound
  means-parts = means-every (means-and means-tree
      (means-and (means-all OPEN_FILES (open_sound (view s).tree.file (view s).open_files (view s).desc) _ (means-open-file (view s).tree.file (view s).open_files (view s).desc)) (means-last (means-all PROCESSES (proc_sound (view s).proc (view s).desc) _ (means-process (view s).proc (view s).desc)))))

  -- What the test says slot by slot, group by group. The test finds a block's zeros by kind: a slot neither directory, plain nor link is free, of length 0.
  from_parts : OfTables → Sound (tables_of s)
  unfolding tables_of
  from_parts w = record {
    slots = record {
      files = λ d h. (w.0.1.1 d h).0;
      root-kind = w.0.0;
      root-links = (w.0.1.1 0 (omega arith)).1.0.0 refl;
      blocks = blocks;
      texts = texts;
    };
    tree = record {
      dirs = λ d h e. ((w.0.1.1 d h).1.1.0 e).0.0;
      lengths = λ d h e. ((w.0.1.1 d h).1.1.0 e).0.1.0;
      links = λ d h. (w.0.1.1 d h).1.0.1;
      depths = depths-from kind rows (λ u hu e p hp. (((w.0.1.1 u hu).1.1.0 e).0.0.dirents p hp).slot_small) (λ d h e n. sym ((w.0.1.1 d h).1.0.1 n) ∙ ((w.0.1.1 d h).1.1.0 e).1.0 n) (λ d h e. ((w.0.1.1 d h).1.1.0 e).1.1);
      no-rom = w.0.1.0;
    };
    live = record {
      once = λ d h _. once d h;
      alive = λ d h _ e. (plain d h e).1.0;
    };
    opens = record {
      open-files = λ e h. (w.1.0 e h).1;
      refs = λ e h. (w.1.0 e h).0;
    };
    procs = w.1.1;
  }
    where
      plain : (d : ℕ) → d < SLOTS → file d FILE_KIND ≡ PLAIN → OfPlain d
      plain d h e = ((w.0.1.1 d h).1.1.1 (λ q. omega (arith, e))).0 e

      link : (d : ℕ) → d < SLOTS → file d FILE_KIND ≡ LINK → OfLink d
      link d h e = (((w.0.1.1 d h).1.1.1 (λ q. omega (arith, e))).1 (λ q. omega (arith, e))).0 e

      once : (d : ℕ) → d < SLOTS → (file d FILE_KIND ≡ FREE → ⊥) → (file d FILE_KIND ≡ PLAIN → ⊥) → (d ≡ 0 → ⊥) → file d FILE_LINKS ≡ 1
      once d h u o n = by (ℕ_discrete (file d FILE_KIND) DIRECTORY)
        where
          by : Dec (file d FILE_KIND ≡ DIRECTORY) → file d FILE_LINKS ≡ 1
          by (yes e) = ((w.0.1.1 d h).1.1.0 e).1.0 n
          by (no q) = (link d h (omega (arith, (w.0.1.1 d h).0.kind-most, u, o, q))).0

      -- a text has at most PATH bytes
      short : (d : ℕ) → d < SLOTS → file d FILE_KIND ≡ LINK → file d FILE_LENGTH ≤ BLOCK
      short d h e = omega (arith, rw (length-take (file d FILE_LENGTH) (block s.contents d), block-length s.contents z.contents-size d h) at (path-size (text_of d) (link d h e).1.1.0))

      texts : (d : ℕ) → d < SLOTS → file d FILE_KIND ≡ LINK → Symlink (file d FILE_BITS) (file d FILE_LENGTH) (tab BLOCK s.contents d)
      texts d h e = record {
        no_bits = (link d h e).1.0;
        text = text_of d;
        text-size = length-take-le (file d FILE_LENGTH) (block s.contents d) (rw (block-length s.contents z.contents-size d h) (short d h e));
        text-bytes = λ b l. get_or-take (file d FILE_LENGTH) (block s.contents d) b 0 l ∙ block-byte s.contents z.contents-size d h b;
        text-ok = (link d h e).1.1.0;
      }

      blocks : (d : ℕ) → d < SLOTS → Block (file d FILE_KIND) (file d FILE_LENGTH) (tab BLOCK s.contents d)
      blocks d h = by (ℕ_discrete (file d FILE_KIND) DIRECTORY) (ℕ_discrete (file d FILE_KIND) PLAIN) (ℕ_discrete (file d FILE_KIND) LINK)
        where
          by : Dec (file d FILE_KIND ≡ DIRECTORY) → Dec (file d FILE_KIND ≡ PLAIN) → Dec (file d FILE_KIND ≡ LINK) → Block (file d FILE_KIND) (file d FILE_LENGTH) (tab BLOCK s.contents d)
          by (yes e) p q = record { length_most = λ n. absurd (n e); past-zero = λ n. absurd (n e); tail-zero = λ _. ((w.0.1.1 d h).1.1.0 e).0.1.1 }
          by (no n) (yes e) q = record { length_most = λ _. (plain d h e).0; past-zero = λ _. (plain d h e).1.1; tail-zero = λ q. absurd (n q) }
          by (no n) (no o) (yes e) = record { length_most = λ _. short d h e; past-zero = λ _. (link d h e).1.1.1; tail-zero = λ q. absurd (n q) }
          by (no n) (no o) (no k) =
              let f : file d FILE_KIND ≡ FREE = omega (arith, (w.0.1.1 d h).0.kind-most, n, o, k) in
              let l : file d FILE_LENGTH ≡ 0 = (w.0.1.1 d h).0.length-zero f in
              record { length_most = λ _. omega arith; past-zero = λ _ b hb _. (((w.0.1.1 d h).1.1.1 n).1 o).1 k b hb (omega arith); tail-zero = λ q. absurd (n q) }

  -- Back again: the depth that the test computes is the one that the tree has.
  to-parts : Sound (tables_of s) → OfTables
  unfolding tables_of
  to-parts h = ((h.slots.root-kind, (h.tree.no-rom, slots)), ((λ e he. (h.opens.refs e he, h.opens.open-files e he)), h.procs))
    where
      once : (d : ℕ) → d < SLOTS → file d FILE_KIND ≡ DIRECTORY → (d ≡ 0 → ⊥) → file d FILE_LINKS ≡ 1
      once d hd e = h.live.once d hd (λ q. omega (arith, hd)) (λ q. omega (arith, e)) (λ q. omega (arith, e))

      deep : (d : ℕ) → d < SLOTS → file d FILE_KIND ≡ DIRECTORY → depth_within kind rows NAMES d ≤ NAMES
      deep d hd e =
          let l : h.tree.depths.depth d ≤ NAMES = h.tree.depths.depth-most d hd e in
          let q : depth_within kind rows NAMES d ≡ h.tree.depths.depth d = depth_is kind rows (λ c hc k n. sym (h.tree.links c hc n) ∙ once c hc k n) h.tree.depths NAMES d hd e l in
          omega arith

      slots : (d : ℕ) → d < SLOTS → OfSlot d
      slots d hd = (
        h.slots.files d hd,
        (
          ((λ q. rw q h.slots.root-links), h.tree.links d hd),
          (
            (λ e. ((h.tree.dirs d hd e, (h.tree.lengths d hd e, b.tail-zero e)), (once d hd e, deep d hd e))),
            λ n. ((λ e. (b.length_most n, (h.live.alive d hd (λ q. omega (arith, hd)) e, b.past-zero n))), λ o. (link n, λ k c hc _. b.past-zero n c hc (free n o k))),
          ),
        ),
      )
        where
          b : Block (file d FILE_KIND) (file d FILE_LENGTH) (tab BLOCK s.contents d)
          b = h.slots.blocks d hd

          link : (file d FILE_KIND ≡ DIRECTORY → ⊥) → file d FILE_KIND ≡ LINK → OfLink d
          link n e =
              let x = h.slots.texts d hd e in (
                h.live.once d hd (λ q. omega (arith, hd)) (λ q. omega (arith, e)) (λ q. omega (arith, e)) (λ q. omega (arith, h.slots.root-kind, rw q at e)),
                (x.no_bits, (rw (text-is d hd (b.length_most n) x) x.text-ok, b.past-zero n)),
              )

          free : (file d FILE_KIND ≡ DIRECTORY → ⊥) → (file d FILE_KIND ≡ PLAIN → ⊥) → (file d FILE_KIND ≡ LINK → ⊥) → {c : ℕ} → file d FILE_LENGTH ≤ c
          free n o k {c} = let f : file d FILE_KIND ≡ FREE = omega (arith, (h.slots.files d hd).kind-most, n, o, k) in omega (arith, (h.slots.files d hd).length-zero f)

  pub means-tables : Means (tables_sound (view s)) (Sound (tables_of s))
  means-tables = means-same means-parts from_parts to-parts

-- ---- the store

pub record SoundStore (s : Store) : Type 0 where
  pub sized : Sized s
  pub tables : Sound (tables_of s)

-- the number past the last that an open file may be on
abbrev pub past : List ℕ → ℕ
past R = SLOTS + prompt_count PROMPTS R

-- every open file is on a number below n
abbrev pub Within : ℕ → Store → Type 0
Within n s = All OPEN_FILES (λ e. tab OPEN_FILE_WIDTH s.open_files e OPEN_SLOT < n)

means-store : (R : List ℕ) (s : Store) → Means (store_sound R s) (SoundStore s × Within (past R) s)
unfolding store_sound
means-store R s = by (sizes_sound s) refl
  where
    within : Means (opens_within R (view s).open_files) (Within (past R) s)
    within = unfold opens_within open_within in means-all OPEN_FILES (λ e. ltb ((view s).open_files e OPEN_SLOT) (past R)) (λ e. (view s).open_files e OPEN_SLOT < past R) (λ e. means-lt ((view s).open_files e OPEN_SLOT) (past R))

    by : (b : Bool) → sizes_sound s ≡ b → Means (cond b (every (tables_sound (view s) ∷ opens_within R (view s).open_files ∷ [])) false) (SoundStore s × Within (past R) s)
    by true e = let z = (means-sized s).holds e in means-every (means-and (means-same (means-tables s z) (λ w. record { sized = z; tables = w }) (λ w. w.tables)) (means-last within))
    by false e = record { holds = λ q. absurd (false≢true q); tests = λ w. absurd (false≢true (sym e ∙ (means-sized s).tests w.0.sized)) }

-- a store, a policy and a factory part that pass the test
pub record AllSound (K : Fixed) (s : Store) : Type 0 where
  pub policy : policy_sound K.policy ≡ true
  pub part : rom_sound K.rom ≡ true
  pub store : SoundStore s
  pub within : Within (past K.rom) s

pub means-sound : (K : Fixed) (s : Store) → Means (sound K s) (AllSound K s)
unfolding sound
means-sound K s = means-same
    (means-every (means-and (means-test (policy_sound K.policy)) (means-and (means-test (rom_sound K.rom)) (means-last (means-store K.rom s)))))
    (λ w. record { policy = w.0; part = w.1.0; store = w.1.1.0; within = w.1.1.1 })
    (λ w. (w.policy, (w.part, (w.store, w.within))))

-- a link's text is a well formed path
pub text-ok : (s : Store) → SoundStore s → (d : ℕ) → d < SLOTS → (tables_of s).file d FILE_KIND ≡ LINK → path_ok (link_text (view s).tree (slot d)) ≡ true
unfolding tables_of
text-ok s h d hd e =
    let x = h.tables.slots.texts d hd e in
    rw (shown-whole s.files s.contents d (λ q. omega (arith, e)), text-is s h.sized d hd ((h.tables.slots.blocks d hd).length_most (λ q. omega (arith, e))) x) x.text-ok

-- a store whose tables are sound
pub kept : (s : Store) (m : Tables) → Has s m → Sound m → SoundStore s
kept s m h w = record { sized = h.sized; tables = rw h.is w }
