-- A soundness test of the store that is quick to compute: it cuts the contents into blocks once, and lists the slots that are named once. It is the test
-- of the rules. Every crate that computes with the test console has it from here.
use Prim.Native.Nat.{ℕ, zero, suc, ◌+◌, ◌*◌, ◌<◌, ◌≤◌}
use mathlib.Core.Path.{◌≡◌, refl, sym, ap, ◌∙◌, fun_ext}
use mathlib.Core.Bool.{Bool, true, false, cond}
use mathlib.Core.List.{List, [], ◌∷◌}
use native.Mathlib.Nat.{zero-add, not-suc-le-zero, le_of_suc-le-suc}
use native.Mathlib.Omega.{arith}
use native.Mathlib.Decide.{dec_lt}
use borrow.Author.Tests.{eqb-true}
use lib.Dec.{eqb}
use lib.ListN.{length, get_or, take, drop, get_or-eq_default, drop_of_length-le}
use lib.Seq.{drop-drop, take-nil}
use Rattle.rules.specs.Choice.{every}
use Rattle.rules.specs.Scan.{turns, fold, all, count, total}
use Rattle.rules.specs.Layout.{SLOTS, BLOCK, DIRENTS, OPEN_FILES, PROCESSES, FILE_WIDTH, FILE_LINKS, OPEN_FILE_WIDTH}
use Rattle.rules.specs.Directories.{dirent_slot}
use Rattle.rules.specs.Rom.{rom_sound, prompts_sound}
use Rattle.rules.specs.Walk.{is_directory}
use Rattle.rules.specs.Store.{Store, Fixed, Tree, View, view, slot, block, tab, proc_of, desc_of, hidden, shown_of, Table}
use Rattle.rules.specs.Calls.{Call}
use Rattle.rules.specs.Step.{act, step}
use Rattle.rules.specs.Sound.{sound, policy_sound, store_sound, slots_sized, sizes_sound, tree_sound, tables_sound, record_sound, links_at, links_from, links_to, links_sound, kind_sound, slot_sound, open_sound, opens_within, proc_sound, rom_absent}
use Rattle.rules.proofs.Tests.{test}

-- the contents cut into n blocks, each bound by a `let`, which is computed when it is asked for, and then once
unfoldable pub cut : ℕ → List ℕ → List (List ℕ)
cut zero C = []
cut (suc n) C = let b = take BLOCK C in let r = cut n (drop BLOCK C) in b ∷ r

unfoldable pub quick_shown : List ℕ → List ℕ → ℕ → List ℕ
quick_shown F C = let bs = cut SLOTS C in λ s. drop (hidden F s) (get_or bs s [])

-- the view of a store, but for what it shows
abbrev showing : Store → (ℕ → List ℕ) → View
showing s shown = record { tree = record { file = tab FILE_WIDTH s.files; shown = shown; dirents = shown }; open_files = tab OPEN_FILE_WIDTH s.open_files; proc = proc_of s.processes; desc = desc_of s.processes }

abbrev quick_view : Store → View
quick_view s = showing s (quick_shown s.files s.contents)

-- the slots that k entries of a directory name, from entry i on, and then the rest
unfoldable pub entries : List ℕ → ℕ → ℕ → List ℕ → List ℕ
entries D i zero rest = rest
entries D i (suc k) rest = let e = dirent_slot D i in let es = entries D (suc i) k rest in e ∷ es

-- the slots that the directories among k slots name, from slot d on
unfoldable pub named : Tree → ℕ → ℕ → List ℕ
named t d zero = []
named t d (suc k) = let rest = named t (suc d) k in cond (is_directory t.file (slot d)) (entries (t.shown d) 0 DIRENTS rest) rest

-- how often s is named
unfoldable pub tally : ℕ → List ℕ → ℕ
tally s [] = 0
tally s (e ∷ es) = cond (eqb e s) (1 + tally s es) (tally s es)

unfoldable pub quick_links : Tree → List ℕ → ℕ → Bool
quick_links t ns s = cond (eqb s 0) (eqb (t.file s FILE_LINKS) 0) (eqb (t.file s FILE_LINKS) (tally s ns))

unfoldable pub quick_slot : Tree → (open_files : Table) → List ℕ → ℕ → Bool
quick_slot t open_files ns s = every (record_sound t.file s ∷ quick_links t ns s ∷ kind_sound t open_files s ∷ [])

unfoldable pub quick_tree : Tree → (open_files : Table) → Bool
quick_tree t open_files = let ns = named t 0 SLOTS in every (is_directory t.file (slot 0) ∷ rom_absent (t.shown 0) ∷ all (quick_slot t open_files ns) 0 SLOTS ∷ [])

unfoldable pub quick_tables : View → Bool
quick_tables v =
    every (quick_tree v.tree v.open_files
    ∷ all (open_sound v.tree.file v.open_files v.desc) 0 OPEN_FILES ∷ all (proc_sound v.proc v.desc) 0 PROCESSES ∷ [])

unfoldable pub quick_sound : (R : List ℕ) → Store → Bool
quick_sound R s = cond (sizes_sound s) (every (quick_tables (quick_view s) ∷ opens_within R (quick_view s).open_files ∷ [])) false

-- opens all of it, for proofs by computation
unfoldable pub quick : Bool
unfolding cut quick_shown entries named tally quick_links quick_slot quick_tree quick_tables quick_sound
quick = true

-- ---- block s of the cut is block s

cut-block : (n : ℕ) (C : List ℕ) (s : ℕ) → s < n → get_or (cut n C) s [] ≡ block C s
unfolding cut
cut-block zero C s h = absurd (not-suc-le-zero h)
cut-block (suc n) C zero h = refl
cut-block (suc n) C (suc s) h =
    let e : BLOCK + BLOCK * s ≡ BLOCK * suc s = omega arith in
    cut-block n (drop BLOCK C) s (le_of_suc-le-suc h) ∙ rw drop-drop (ap (λ (k : ℕ). take BLOCK (drop k C)) e)

length_cut : (n : ℕ) (C : List ℕ) → length (cut n C) ≡ n
unfolding cut
length_cut zero C = refl
length_cut (suc n) C = ap suc (length_cut n (drop BLOCK C))

none-past : (C : List ℕ) (s : ℕ) → length C ≡ SLOTS * BLOCK → SLOTS ≤ s → block C s ≡ []
none-past C s e h =
    let past : length C ≤ BLOCK * s = omega arith in
    rw (drop_of_length-le C past) (take-nil BLOCK)

all_blocks : (C : List ℕ) → length C ≡ SLOTS * BLOCK → (s : ℕ) → get_or (cut SLOTS C) s [] ≡ block C s
all_blocks C e s = by (dec_lt s SLOTS)
  where
    by : Dec (s < SLOTS) → get_or (cut SLOTS C) s [] ≡ block C s
    by (yes h) = cut-block SLOTS C s h
    by (no h) =
        let past : SLOTS ≤ s = omega arith in
        let far : length (cut SLOTS C) ≤ s = rw (length_cut SLOTS C) past in
        get_or-eq_default (cut SLOTS C) [] far ∙ sym (none-past C s e past)

-- ---- names counted in the list of all that are named

tally-entries : (D : List ℕ) (s : ℕ) (rest : List ℕ) (i k : ℕ) → tally s (entries D i k rest) ≡ turns (λ j n. cond (links_at D s j) (1 + n) n) i k 0 + tally s rest
unfolding tally entries turns links_at
tally-entries D s rest i zero = sym (zero-add _)
tally-entries D s rest i (suc k) =
    by (eqb (dirent_slot D i) s) (tally s (entries D (suc i) k rest)) (turns (λ j n. cond (links_at D s j) (1 + n) n) (suc i) k 0) (tally-entries D s rest (suc i) k)
  where
    by : (b : Bool) (m n : ℕ) → m ≡ n + tally s rest → cond b (1 + m) m ≡ cond b (1 + n) n + tally s rest
    by true m n e = omega (arith, e)
    by false m n e = e

count_entries : (D : List ℕ) (s : ℕ) (rest : List ℕ) → tally s (entries D 0 DIRENTS rest) ≡ count (links_at D s) 0 DIRENTS + tally s rest
unfolding count fold
count_entries D s rest = tally-entries D s rest 0 DIRENTS

links-same : (t : Tree) (s d k : ℕ) → turns (λ j n. links_from t s j + n) d k 0 ≡ tally s (named t d k)
unfolding turns links_from tally named
links-same t s d zero = refl
links-same t s d (suc k) = by (is_directory t.file (slot d)) (turns (λ j n. links_from t s j + n) (suc d) k 0) (named t (suc d) k) (links-same t s (suc d) k)
  where
    by :
        (b : Bool) (n : ℕ) (rest : List ℕ) → n ≡ tally s rest →
        cond b (count (links_at (t.shown d) s) 0 DIRENTS) 0 + n ≡ tally s (cond b (entries (t.shown d) 0 DIRENTS rest) rest)
    by true n rest e = rw e (sym (count_entries (t.shown d) s rest))
    by false n rest e = zero-add _ ∙ e

slot_same : (t : Tree) (open_files : Table) (s : ℕ) → quick_slot t open_files (named t 0 SLOTS) s ≡ slot_sound t open_files s
unfolding quick_slot slot_sound quick_links links_sound links_to total fold
slot_same t open_files s = rw (links-same t s 0 SLOTS)

tree-same : (t : Tree) (open_files : Table) → quick_tree t open_files ≡ tree_sound t open_files
unfolding quick_tree tree_sound
tree-same t open_files = rw (fun_ext (slot_same t open_files))

tables-same : (v : View) → quick_tables v ≡ tables_sound v
unfolding quick_tables tables_sound
tables-same v = rw (tree-same v.tree v.open_files)

-- ---- where the sizes are right the quick view is the view; elsewhere neither is looked at

shown-same : (F C : List ℕ) → length C ≡ SLOTS * BLOCK → quick_shown F C ≡ shown_of F C
unfolding quick_shown shown_of
shown-same F C e = fun_ext (λ s. ap (drop (hidden F s)) (all_blocks C e s))

view-same : (s : Store) → length s.contents ≡ SLOTS * BLOCK → quick_view s ≡ view s
view-same s e = ap (showing s) (shown-same s.files s.contents e)

contents-size : (s : Store) → sizes_sound s ≡ true → length s.contents ≡ SLOTS * BLOCK
unfolding sizes_sound slots_sized
contents-size s e = eqb-true _ _ (test 1 _ (test 0 _ e))

pub quick-sound : (R : List ℕ) (s : Store) → quick_sound R s ≡ store_sound R s
unfolding quick_sound store_sound
quick-sound R s = by (sizes_sound s) refl
  where
    by :
        (b : Bool) → sizes_sound s ≡ b →
        cond b (every (quick_tables (quick_view s) ∷ opens_within R (quick_view s).open_files ∷ [])) false ≡ cond b (every (tables_sound (view s) ∷ opens_within R (view s).open_files ∷ [])) false
    by true e = rw (tables-same (quick_view s)) (ap (λ (v : View). every (tables_sound v ∷ opens_within R v.open_files ∷ [])) (view-same s (contents-size s e)))
    by false e = refl

-- ---- a store that passes is sound where policy and factory part are, and a call on it needs no other test

pub both-pass : {a b : Bool} → a ≡ true → b ≡ true → every (a ∷ b ∷ []) ≡ true
unfolding every
both-pass p q = rw (p, q)

pub no-prompts : rom_sound [] ≡ true
unfolding prompts_sound
no-prompts = refl

pub sound-of : (K : Fixed) → policy_sound K.policy ≡ true → rom_sound K.rom ≡ true → (s : Store) → quick_sound K.rom s ≡ true → sound K s ≡ true
unfolding sound every
sound-of K policy rom s e = rw (policy, rom, ← quick-sound K.rom s, e)

pub step-act : (K : Fixed) (s : Store) (c : Call) → sound K s ≡ true → step K s c ≡ act K s c
unfolding step
step-act K s c e = rw e
