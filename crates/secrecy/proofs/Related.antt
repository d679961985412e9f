-- Two stores during a run: apart in the first n bytes of a plain file that nobody may read, or equal. n is the file's length where the list
-- starts: calls put the same bytes into both, so the difference never grows. The rules see none of it, and every form of change keeps it.
use mathlib.Core.Path.{◌≡◌, sym, ap, ◌∙◌, subst, fun_ext}
use mathlib.Core.List.{List, [], ◌∷◌, ◌++◌}
use mathlib.Core.Logic.{◌≢◌}
use Prim.Native.Nat.{ℕ, zero, suc, ◌+◌, ◌*◌, ◌≤◌, ◌<◌}
use native.Mathlib.Omega.{arith}
use native.Mathlib.Nat.{add-zero}
use native.Mathlib.Decide.{ℕ_discrete}
use lib.ListN.{length, get_or, drop, set}
use lib.Seq.{sets}
use Rattle.rules.specs.Scan.{iterate, repeat}
use Rattle.rules.specs.Layout.{BLOCK, FILE_WIDTH, FILE_KIND, FILE_LENGTH, PLAIN, OPEN_FILE_WIDTH, PROCESS_WIDTH, PROCESS_DESCRIPTOR, DESCRIPTORS, PROCESS_USED, PROCESS_LABEL}
use Rattle.rules.specs.Store.{Store, View, store, tab, proc_of, desc_of, view, block, hidden, shown_of, puts, zeros, Change, file_word, file_to, clear_to, bytes_to, open_word, open_to, open_zero, desc_to, proc_word, proc_to, proc_zero, change, apply_all}
use Rattle.rules.proofs.Lists.{length-zeros}
use Rattle.secrecy.proofs.Agree.{Agree, agree-sets, agree-clear, agree-block, agree-rest}
use Rattle.secrecy.proofs.Tables.{Own, OwnWord, own-word, own-record, Labels, labels-desc, labels-word, labels-own, labels-zero}

-- two stores, equal but for the first n bytes of slot f
pub record Apart (f n : ℕ) (s s' : Store) : Type 0 where
  pub files : s.files ≡ s'.files
  pub open_files : s.open_files ≡ s'.open_files
  pub processes : s.processes ≡ s'.processes
  pub contents : Agree (BLOCK * f) (BLOCK * f + n) s.contents s'.contents
  pub small : n ≤ BLOCK

-- slot f has a plain file with label L, not shorter than n; every label in use is among those reached. Open files are no part of it
pub record Secret (reach : ℕ → Type 0) (f n L : ℕ) (s : Store) : Type 0 where
  pub own : Own f n L s.files
  pub labels : Labels reach s.processes

pub data Related (reach : ℕ → Type 0) (f n L : ℕ) (s s' : Store) : Type 0 where
  apart : Apart f n s s' → Secret reach f n L s → Related reach f n L s s'
  same : s ≡ s' → Related reach f n L s s'

-- ---- the rules see no difference

shown-same : (f n : ℕ) (F C C' : List ℕ) → Agree (BLOCK * f) (BLOCK * f + n) C C' → n ≤ BLOCK → tab FILE_WIDTH F f FILE_KIND ≡ PLAIN → n ≤ tab FILE_WIDTH F f FILE_LENGTH → shown_of F C ≡ shown_of F C'
unfolding shown_of hidden
shown-same f n F C C' a small plain within = fun_ext (λ d. go d (ℕ_discrete d f))
  where
    own : drop (hidden F f) (block C f) ≡ drop (hidden F f) (block C' f)
    own = simp plain (agree-rest f n C C' a small (tab FILE_WIDTH F f FILE_LENGTH) within)

    go : (d : ℕ) → Dec (d ≡ f) → drop (hidden F d) (block C d) ≡ drop (hidden F d) (block C' d)
    go d (yes e) = subst (λ (x : ℕ). drop (hidden F x) (block C x) ≡ drop (hidden F x) (block C' x)) (sym e) own
    go d (no ne) = ap (λ (l : List ℕ). drop (hidden F d) l) (agree-block f n C C' a small d ne)

pub view-same : (f n L : ℕ) (s s' : Store) → Apart f n s s' → Own f n L s.files → view s ≡ view s'
view-same f n L s s' a o =
    let e : shown_of s.files s.contents ≡ shown_of s'.files s'.contents
    = shown-same f n s.files s.contents s'.contents a.contents a.small o.plain o.within ∙ ap (λ (F : List ℕ). shown_of F s'.contents) a.files in
    λ i. record {
      tree = record { file = tab FILE_WIDTH (a.files i); shown = e i; dirents = e i };
      open_files = tab OPEN_FILE_WIDTH (a.open_files i);
      proc = proc_of (a.processes i);
      desc = desc_of (a.processes i);
    }

-- ---- one change

-- what a change must be to keep two stores related
unfoldable pub Keeps : (ℕ → Type 0) → ℕ → ℕ → Change → Type 0
Keeps reach f n (file_word t k x) = (k < FILE_WIDTH) × (t ≡ f → OwnWord n k x)
Keeps reach f n (file_to t ws) = (length ws ≡ FILE_WIDTH) × (t ≢ f)
Keeps reach f n (clear_to t ws) = length ws ≡ FILE_WIDTH
Keeps reach f n (bytes_to t at bs) = Unit {0}
Keeps reach f n (open_word e k x) = Unit {0}
Keeps reach f n (open_to e ws) = Unit {0}
Keeps reach f n (open_zero e) = Unit {0}
Keeps reach f n (desc_to p i x) = i < DESCRIPTORS
Keeps reach f n (proc_word p k x) = (k ≡ PROCESS_LABEL) × reach x
Keeps reach f n (proc_to p ws) = (length ws ≡ PROCESS_DESCRIPTOR) × (get_or ws PROCESS_USED 0 ≡ 1 → reach (get_or ws PROCESS_LABEL 0))
Keeps reach f n (proc_zero p) = Unit {0}

module _ (reach : ℕ → Type 0) (f n L : ℕ) where
  -- the file is cut or freed: the stores are equal from here on
  clear-own : (s s' : Store) (ws : List ℕ) → Apart f n s s' → change (clear_to f ws) s ≡ change (clear_to f ws) s'
  clear-own s s' ws a =
      let e : sets s.contents (BLOCK * f) (zeros BLOCK) ≡ sets s'.contents (BLOCK * f) (zeros BLOCK) = agree-clear (BLOCK * f) (BLOCK * f + n) s.contents s'.contents a.contents (zeros BLOCK) (rw length-zeros (omega (arith, a.small))) in
      let q : sets s.contents (BLOCK * f + 0) (zeros BLOCK) ≡ sets s'.contents (BLOCK * f + 0) (zeros BLOCK) = rw add-zero e in
      λ i. store (puts FILE_WIDTH (a.files i) f 0 ws) (q i) (a.open_files i) (a.processes i)

  -- a change is made in one table, whose part of the relation is kept, and the others stand; only where slot f itself is cleared the stores become equal
  pub change-keeps : (c : Change) (s s' : Store) → Keeps reach f n c → Related reach f n L s s' → Related reach f n L (change c s) (change c s')
  unfolding Keeps
  change-keeps c s s' h (same e) = same (ap (change c) e)
  change-keeps (file_word t k x) s s' h (apart a z) = apart
      (record { files = ap (λ (F : List ℕ). set F (FILE_WIDTH * t + k) x) a.files; open_files = a.open_files; processes = a.processes; contents = a.contents; small = a.small })
      (record { own = own-word f n L s.files t k x h.0 h.1 z.own; labels = z.labels })
  change-keeps (file_to t ws) s s' h (apart a z) = apart
      (record { files = ap (λ (F : List ℕ). puts FILE_WIDTH F t 0 ws) a.files; open_files = a.open_files; processes = a.processes; contents = a.contents; small = a.small })
      (record { own = own-record f n L s.files t ws h.0 h.1 z.own; labels = z.labels })
  change-keeps (clear_to t ws) s s' h (apart a z) = go (ℕ_discrete t f)
    where
      go : Dec (t ≡ f) → Related reach f n L (change (clear_to t ws) s) (change (clear_to t ws) s')
      go (yes e) = same (subst (λ (x : ℕ). change (clear_to x ws) s ≡ change (clear_to x ws) s') (sym e) (clear-own s s' ws a))
      go (no ne) = apart
          (record {
            files = ap (λ (F : List ℕ). puts FILE_WIDTH F t 0 ws) a.files;
            open_files = a.open_files;
            processes = a.processes;
            contents = agree-sets (BLOCK * f) (BLOCK * f + n) s.contents s'.contents a.contents (BLOCK * t + 0) (zeros BLOCK);
            small = a.small;
          })
          (record { own = own-record f n L s.files t ws h ne z.own; labels = z.labels })
  change-keeps (bytes_to t at bs) s s' h (apart a z) = apart
      (record { files = a.files; open_files = a.open_files; processes = a.processes; contents = agree-sets (BLOCK * f) (BLOCK * f + n) s.contents s'.contents a.contents (BLOCK * t + at) bs; small = a.small })
      (record { own = z.own; labels = z.labels })
  change-keeps (open_word e k x) s s' h (apart a z) = apart
      (record { files = a.files; open_files = ap (λ (E : List ℕ). set E (OPEN_FILE_WIDTH * e + k) x) a.open_files; processes = a.processes; contents = a.contents; small = a.small })
      (record { own = z.own; labels = z.labels })
  change-keeps (open_to e ws) s s' h (apart a z) = apart
      (record { files = a.files; open_files = ap (λ (E : List ℕ). puts OPEN_FILE_WIDTH E e 0 ws) a.open_files; processes = a.processes; contents = a.contents; small = a.small })
      (record { own = z.own; labels = z.labels })
  change-keeps (open_zero e) s s' h (apart a z) = apart
      (record { files = a.files; open_files = ap (λ (E : List ℕ). sets E (OPEN_FILE_WIDTH * e + 0) (zeros OPEN_FILE_WIDTH)) a.open_files; processes = a.processes; contents = a.contents; small = a.small })
      (record { own = z.own; labels = z.labels })
  change-keeps (desc_to p i x) s s' h (apart a z) = apart
      (record { files = a.files; open_files = a.open_files; processes = ap (λ (P : List ℕ). set P (PROCESS_WIDTH * p + (PROCESS_DESCRIPTOR + i)) x) a.processes; contents = a.contents; small = a.small })
      (record { own = z.own; labels = labels-desc reach s.processes z.labels p i x h })
  change-keeps (proc_word p k x) s s' h (apart a z) = apart
      (record { files = a.files; open_files = a.open_files; processes = ap (λ (P : List ℕ). set P (PROCESS_WIDTH * p + k) x) a.processes; contents = a.contents; small = a.small })
      (record { own = z.own; labels = rw h.0 (labels-word reach s.processes z.labels p x h.1) })
  change-keeps (proc_to p ws) s s' h (apart a z) = apart
      (record { files = a.files; open_files = a.open_files; processes = ap (λ (P : List ℕ). puts PROCESS_WIDTH P p 0 ws) a.processes; contents = a.contents; small = a.small })
      (record { own = z.own; labels = labels-own reach s.processes z.labels p ws h.0 h.1 })
  change-keeps (proc_zero p) s s' h (apart a z) = apart
      (record { files = a.files; open_files = a.open_files; processes = ap (λ (P : List ℕ). sets P (PROCESS_WIDTH * p + 0) (zeros PROCESS_WIDTH)) a.processes; contents = a.contents; small = a.small })
      (record { own = z.own; labels = labels-zero reach s.processes z.labels p })

  -- ---- a list of changes, and a number of turns

  unfoldable pub KeepsAll : List Change → Type 0
  KeepsAll [] = Unit {0}
  KeepsAll (c ∷ cs) = Keeps reach f n c × KeepsAll cs

  pub all_keep : (cs : List Change) (s s' : Store) → KeepsAll cs → Related reach f n L s s' → Related reach f n L (apply_all cs s) (apply_all cs s')
  unfolding KeepsAll apply_all
  all_keep [] s s' h r = r
  all_keep (c ∷ cs) s s' h r = all_keep cs (change c s) (change c s') h.1 (change-keeps c s s' h.0 r)

  pub append-keep : (cs ds : List Change) → KeepsAll cs → KeepsAll ds → KeepsAll (cs ++ ds)
  unfolding KeepsAll
  append-keep [] ds h g = g
  append-keep (c ∷ cs) ds h g = (h.0, append-keep cs ds h.1 g)

  turns-keep : (g : ℕ → Store → Store) → ((i : ℕ) → i < DESCRIPTORS → (s s' : Store) → Related reach f n L s s' → Related reach f n L (g i s) (g i s')) → (k i : ℕ) → i + k ≤ DESCRIPTORS
      → (s s' : Store) → Related reach f n L s s' → Related reach f n L (iterate g i k s) (iterate g i k s')
  unfolding iterate
  turns-keep g h zero i b s s' r = r
  turns-keep g h (suc k) i b s s' r = turns-keep g h k (suc i) (omega arith) (g i s) (g i s') (h i (omega arith) s s' r)

  pub repeat-keep : (g : ℕ → Store → Store) → ((i : ℕ) → i < DESCRIPTORS → (s s' : Store) → Related reach f n L s s' → Related reach f n L (g i s) (g i s'))
      → (s s' : Store) → Related reach f n L s s' → Related reach f n L (repeat g 0 DESCRIPTORS s) (repeat g 0 DESCRIPTORS s')
  unfolding repeat
  repeat-keep g h s s' r = turns-keep g h DESCRIPTORS 0 (omega arith) s s' r

  -- what both stores decide alike: a turn made by the view
  pub alike-keep : (g : View → List Change) → ((v : View) → KeepsAll (g v)) → (s s' : Store) → Related reach f n L s s'
      → Related reach f n L (apply_all (g (view s)) s) (apply_all (g (view s')) s')
  alike-keep g h s s' (same e) = same (ap (λ (t : Store). apply_all (g (view t)) t) e)
  alike-keep g h s s' (apart a z) = subst (λ (v : View). Related reach f n L (apply_all (g (view s)) s) (apply_all (g v) s')) (view-same f n L s s' a z.own)
      (all_keep (g (view s)) s s' (h (view s)) (apart a z))
