-- No call puts an open file past the last prompt: an open's slot is below it, and no other change writes the slot of an open file, but to 0.
use mathlib.Core.Path.{◌≡◌}
use mathlib.Core.List.{List, [], ◌∷◌, ◌++◌}
use Prim.Native.Nat.{ℕ, zero, suc, ◌+◌, ◌*◌, ◌≤◌, ◌<◌}
use native.Mathlib.Omega.{arith}
use native.Mathlib.Decide.{dec_lt, ℕ_discrete}
use lib.ListN.{length, get_or, set, replicate, length-set, get_or-eq_default}
use lib.Seq.{sets, get_or-set_same, get_or-set_other}
use Rattle.std.specs.Prelude.{Some, None}
use Rattle.rules.specs.Scan.{iterate, repeat}
use Rattle.rules.specs.Layout.{OPEN_FILES, DESCRIPTORS, OPEN_FILE_WIDTH, OPEN_SLOT}
use Rattle.rules.specs.Store.{Store, Fixed, fd_of, Change, file_word, file_to, clear_to, bytes_to, open_word, open_to, open_zero, desc_to, proc_word, proc_to, proc_zero, tab, puts, change, apply_all}
use Rattle.rules.specs.Calls.{Call}
use Rattle.rules.specs.Effects.{name_changes, unname_changes, create_changes, symlink_changes, link_changes, unnamed_changes, unlink_changes, remove_changes, transfer_changes, open_changes, truncate_changes, release_changes, close_changes, store_changes, duplicate_changes}
use Rattle.rules.specs.Effects.{share_changes, shared, shared_all, released, released_all, fork_changes, carry_out}
use Rattle.rules.specs.declared.ids.Pid.{Pid}
use Rattle.rules.specs.declared.ids.Fd.{Fd}
use Rattle.rules.specs.declared.decision.NewOpen.{NewOpen}
use Rattle.rules.specs.declared.decision.Unnamed.{Unnamed}
use Rattle.rules.specs.declared.decision.Unnamed.TheVariants as unnamed
use Rattle.rules.specs.declared.decision.Release.{Release}
use Rattle.rules.specs.declared.decision.Release.TheVariants as release
use Rattle.rules.specs.Decisions.{Share}
use Rattle.rules.specs.declared.decision.Output.{Output}
use Rattle.rules.specs.declared.decision.Effect.{Effect}
use Rattle.preservation.proofs.SoundStore.{SoundStore, Within, past}
use Rattle.preservation.proofs.Granted.{Granting, nothing, opens, truncates, creates, symlinks, unlinks, removes, links, renames, transfers, changes_bits, closes, stores, reads, seeks, duplicates, forks, exits, executes}

-- the open files E, those past the last too, are on numbers below n
abbrev Below : ℕ → List ℕ → Type 0
Below n E = (e : ℕ) → tab OPEN_FILE_WIDTH E e OPEN_SLOT < n

below : (n : ℕ) (s : Store) → SoundStore s → 0 < n → Within n s → Below n s.open_files
below n s h l w e = by (dec_lt e OPEN_FILES)
  where
    by : Dec (e < OPEN_FILES) → tab OPEN_FILE_WIDTH s.open_files e OPEN_SLOT < n
    by (yes q) = w e q
    by (no q) =
        let z : tab OPEN_FILE_WIDTH s.open_files e OPEN_SLOT ≡ 0 = get_or-eq_default s.open_files 0 (omega (arith, h.sized.open-files-size)) in
        omega arith

-- ---- changes

module _ (n : ℕ) where
  -- a word below n, wherever it is put
  set-small : (E : List ℕ) (j x : ℕ) → x < n → Below n E → Below n (set E j x)
  set-small E j x l b e = by (ℕ_discrete (OPEN_FILE_WIDTH * e + OPEN_SLOT) j) (dec_lt j (length E))
    where
      by : Dec (OPEN_FILE_WIDTH * e + OPEN_SLOT ≡ j) → Dec (j < length E) → get_or (set E j x) (OPEN_FILE_WIDTH * e + OPEN_SLOT) 0 < n
      by (yes q) (yes h) = rw (q, get_or-set_same E j x 0 h) l
      by (yes q) (no h) =
          let g : length (set E j x) ≤ j = rw length-set (omega arith) in
          rw (q, get_or-eq_default (set E j x) 0 g) (omega arith)
      by (no q) h = rw (get_or-set_other E j (OPEN_FILE_WIDTH * e + OPEN_SLOT) x 0 q) (b e)

  -- a word of another column
  set_other : (E : List ℕ) (e k x : ℕ) → 0 < k → k < OPEN_FILE_WIDTH → Below n E → Below n (set E (OPEN_FILE_WIDTH * e + k) x)
  set_other E e k x k1 k4 b y = rw (get_or-set_other E (OPEN_FILE_WIDTH * e + k) (OPEN_FILE_WIDTH * y + OPEN_SLOT) x 0 (λ q. omega arith)) (b y)

  row_keeps : (E : List ℕ) (e a m o r : ℕ) → a < n → Below n E → Below n (puts OPEN_FILE_WIDTH E e 0 (a ∷ m ∷ o ∷ r ∷ []))
  row_keeps E e a m o r l b =
      set_other (set (set (set E (OPEN_FILE_WIDTH * e + 0) a) (OPEN_FILE_WIDTH * e + 1) m) (OPEN_FILE_WIDTH * e + 2) o) e 3 r (omega arith) (omega arith)
      (set_other (set (set E (OPEN_FILE_WIDTH * e + 0) a) (OPEN_FILE_WIDTH * e + 1) m) e 2 o (omega arith) (omega arith)
      (set_other (set E (OPEN_FILE_WIDTH * e + 0) a) e 1 m (omega arith) (omega arith) (set-small E (OPEN_FILE_WIDTH * e + 0) a l b)))

  zeros-keep : (k : ℕ) (E : List ℕ) (j : ℕ) → 0 < n → Below n E → Below n (sets E j (replicate k 0))
  zeros-keep zero E j l b = b
  zeros-keep (suc k) E j l b = zeros-keep k (set E j 0) (suc j) l (set-small E j 0 l b)

  -- what a change owes; an open file's record is written by an open alone
  unfoldable Keeps : Change → Type 0
  Keeps (file_word s k x) = Unit {0}
  Keeps (file_to s ws) = Unit {0}
  Keeps (clear_to s ws) = Unit {0}
  Keeps (bytes_to s at bs) = Unit {0}
  Keeps (open_word e k x) = (0 < k) × (k < OPEN_FILE_WIDTH)
  Keeps (open_to e ws) = (E : List ℕ) → Below n E → Below n (puts OPEN_FILE_WIDTH E e 0 ws)
  Keeps (open_zero e) = Unit {0}
  Keeps (desc_to p i x) = Unit {0}
  Keeps (proc_word p k x) = Unit {0}
  Keeps (proc_to p ws) = Unit {0}
  Keeps (proc_zero p) = Unit {0}

  change-keeps : (c : Change) (t : Store) → Keeps c → Below n t.open_files → Below n (change c t).open_files
  unfolding Keeps
  change-keeps (file_word s k x) t h b = b
  change-keeps (file_to s ws) t h b = b
  change-keeps (clear_to s ws) t h b = b
  change-keeps (bytes_to s at bs) t h b = b
  change-keeps (open_word e k x) t h b = set_other t.open_files e k x h.0 h.1 b
  change-keeps (open_to e ws) t h b = h t.open_files b
  change-keeps (open_zero e) t h b = zeros-keep OPEN_FILE_WIDTH t.open_files (OPEN_FILE_WIDTH * e + 0) (omega (arith, b 0)) b
  change-keeps (desc_to p i x) t h b = b
  change-keeps (proc_word p k x) t h b = b
  change-keeps (proc_to p ws) t h b = b
  change-keeps (proc_zero p) t h b = b

  -- ---- a list of changes, and a number of turns

  unfoldable KeepsAll : List Change → Type 0
  KeepsAll [] = Unit {0}
  KeepsAll (c ∷ cs) = Keeps c × KeepsAll cs

  all_keep : (cs : List Change) (t : Store) → KeepsAll cs → Below n t.open_files → Below n (apply_all cs t).open_files
  unfolding KeepsAll apply_all
  all_keep [] t h b = b
  all_keep (c ∷ cs) t h b = all_keep cs (change c t) h.1 (change-keeps c t h.0 b)

  append-keep : (cs ds : List Change) → KeepsAll cs → KeepsAll ds → KeepsAll (cs ++ ds)
  unfolding KeepsAll
  append-keep [] ds h g = g
  append-keep (c ∷ cs) ds h g = (h.0, append-keep cs ds h.1 g)

  turns-keep : (g : ℕ → Store → Store) → ((i : ℕ) (t : Store) → Below n t.open_files → Below n (g i t).open_files) → (k i : ℕ) (t : Store) → Below n t.open_files → Below n (iterate g i k t).open_files
  unfolding iterate
  turns-keep g h zero i t b = b
  turns-keep g h (suc k) i t b = turns-keep g h k (suc i) (g i t) (h i t b)

  -- ---- the changes of effects

  unnamed-keep : (u : Unnamed) → KeepsAll (unnamed_changes u)
  unfolding unnamed_changes KeepsAll Keeps
  unnamed-keep (unnamed.Kept s k) = (tt, tt)
  unnamed-keep (unnamed.Freed s r) = (tt, tt)

  close-keep : (p : Pid) (i : Fd) (r : Release) → KeepsAll (close_changes p i r)
  unfolding close_changes release_changes KeepsAll Keeps
  close-keep p i release.Nothing = (tt, tt)
  close-keep p i (release.Kept e refs) = (tt, ((omega arith, omega arith), tt))
  close-keep p i (release.Gone e) = (tt, (tt, tt))
  close-keep p i (release.Freed e s r) = (tt, (tt, (tt, tt)))

  share-keep : (q : Pid) (i : Fd) (x : Share) → KeepsAll (share_changes q i x)
  unfolding share_changes KeepsAll Keeps
  share-keep q i None = (tt, tt)
  share-keep q i (Some s) = (tt, ((omega arith, omega arith), tt))

  open-keep : (p : Pid) (w : NewOpen) → w.slot.0 < n → KeepsAll (open_changes p w)
  unfolding open_changes KeepsAll Keeps
  open-keep p w l = ((λ E b. row_keeps E w.ofd.0 w.slot.0 w.mode.0 0 1 l b), (tt, tt))

-- ---- a granted call

effect-below : (K : Fixed) (s : Store) (h : SoundStore s) (c : Call) {n : ℕ} {o : Output} {e : Effect} → Granting K s h c n o e → Below (past K.rom) s.open_files → Below (past K.rom) (carry_out c e s).open_files
unfolding carry_out KeepsAll Keeps create_changes symlink_changes link_changes name_changes unlink_changes unname_changes remove_changes transfer_changes truncate_changes store_changes duplicate_changes fork_changes shared_all released_all shared released repeat
effect-below K s h c (nothing n o) b = b
effect-below K s h c (opens n o l) b = all_keep _ _ s (open-keep _ c.process n l) b
effect-below K s h c (truncates n o hs a) b = all_keep _ _ s (append-keep _ (open_changes c.process n) _ (open-keep _ c.process n (omega arith)) (tt, tt)) b
effect-below K s h c (creates d i y new o) b = all_keep _ _ s (tt, (tt, (tt, (tt, tt)))) b
effect-below K s h c (symlinks d i y o) b = all_keep _ _ s (tt, (tt, (tt, (tt, (tt, tt))))) b
effect-below K s h c (unlinks d i y n k) b = all_keep _ _ s (tt, (tt, (tt, unnamed-keep _ _))) b
effect-below K s h c (removes d i y n k l) b = all_keep _ _ s (tt, (tt, (tt, (tt, tt)))) b
effect-below K s h c (links d i y n hy k) b = all_keep _ _ s (tt, (tt, (tt, (tt, tt)))) b
effect-below K s h c (renames d i y n f) b = all_keep _ _ s (tt, (tt, (tt, tt))) b
effect-below K s h c (transfers d i e j y n k m a) b = all_keep _ _ s (tt, (tt, (tt, (tt, (tt, (tt, tt)))))) b
effect-below K s h c (changes_bits y x hy k n l o a) b = all_keep _ _ s (tt, tt) b
effect-below K s h c (closes i u hi) b = all_keep _ _ s (close-keep _ c.process i _) b
effect-below K s h c (stores e at o hs l a) b = all_keep _ _ s (tt, (tt, (tt, (tt, ((omega arith, omega arith), tt))))) b
effect-below K s h c (reads e n o l) b = all_keep _ _ s ((omega arith, omega arith), tt) b
effect-below K s h c (seeks e n o l) b = all_keep _ _ s ((omega arith, omega arith), tt) b
effect-below K s h c (duplicates i j e o hj f) b = all_keep _ _ s (tt, ((omega arith, omega arith), tt)) b
effect-below K s h c (forks q u hq f) b = all_keep _ _ _ (tt, tt) (turns-keep _ (shared c.process q) (λ i t l. all_keep _ _ t (share-keep _ q (fd_of i) _) l) DESCRIPTORS 0 s b)
effect-below K s h c (exits u) b = all_keep _ _ _ (tt, tt) (turns-keep _ (released c.process) (λ i t l. all_keep _ _ t (close-keep _ c.process (fd_of i) _) l) DESCRIPTORS 0 s b)
effect-below K s h c (executes l u hl) b = all_keep _ _ s (tt, tt) b

pub effect-within : (K : Fixed) (s : Store) (h : SoundStore s) (c : Call) {n : ℕ} {o : Output} {e : Effect} → Granting K s h c n o e → Within (past K.rom) s → Within (past K.rom) (carry_out c e s)
effect-within K s h c g w e _ = effect-below K s h c g (below (past K.rom) s h (omega arith) w) e
