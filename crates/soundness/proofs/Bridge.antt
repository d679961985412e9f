-- The tests with what was counted are the rules' tests.
use mathlib.Core.Path.{◌≡◌, refl, ◌∙◌}
use mathlib.Core.Bool.{Bool, true, false, cond}
use mathlib.Core.List.{List, []}
use Prim.Native.Nat.{ℕ, zero, suc, ◌+◌, ◌≤◌, ◌<◌}
use native.Mathlib.Omega.{arith}
use borrow.Author.Tests.{eqb-false}
use mir.Syntax.{w32}
use mir.Val.{Fits}
use lib.Dec.{eqb}
use lib.ListN.{get_or}
use Rattle.rules.specs.Choice.{some}
use Rattle.rules.specs.Scan.{all}
use Rattle.rules.specs.Layout.{SLOTS, PROMPTS, NAME, NAMES, OPEN_FILES, FILE_LINKS}
use Rattle.rules.specs.Store.{Tree, Table}
use Rattle.rules.specs.Paths.{same_at, same_name}
use Rattle.rules.specs.Directories.{is_empty, is_padding}
use Rattle.rules.specs.Rom.{prompt_count}
use Rattle.rules.specs.Sound.{differs, is_new, links_to, links_sound, is_parent, parent_of, climbs, directory_sound, kind_sound, slot_sound, holders, open_sound, open_within, opens_within}
use Rattle.rules.proofs.Scans.{all_same, all_of}
use Rattle.counts.specs.Counts.{SLOTS_AND_NONE, links, parents, held}
use Rattle.soundness.specs.Counted.{other_than, links_sound_by, climbs_by, directory_sound_by, kind_sound_by, slot_sound_by, open_sound_by, open_below}
use Rattle.counts.proofs.Counting.{first-le}
use Rattle.rules.proofs.Prompts.{count_most}
use Rattle.counts.proofs.Counts.{links-at, parents-at, held_at}

climbs-by : (t : Tree) (n d : ℕ) → d < SLOTS_AND_NONE → climbs_by (parents t) n d ≡ climbs t n d
unfolding climbs_by climbs
climbs-by t zero d h = refl
climbs-by t (suc n) d h = by (eqb d 0) refl (λ o. rw (parents-at t d o h) (climbs-by t n (parent_of t d) below))
  where
    below : parent_of t d < SLOTS_AND_NONE
    below = let b : parent_of t d ≤ SLOTS = first-le (is_parent t d) SLOTS in omega arith

    by : (b : Bool) → eqb d 0 ≡ b → ((d ≡ 0 → ⊥) → climbs_by (parents t) n (get_or (parents t) d 0) ≡ climbs t n (parent_of t d))
        → cond b true (climbs_by (parents t) n (get_or (parents t) d 0)) ≡ cond b true (climbs t n (parent_of t d))
    by true q up = refl
    by false q up = up (eqb-false d 0 q)

links-by : (t : Tree) (s : ℕ) → s < SLOTS → links_sound_by t.file (links t) s ≡ links_sound t s
unfolding links_sound_by links_sound
links-by t s h = by (eqb s 0) refl
  where
    by : (b : Bool) → eqb s 0 ≡ b → cond b (eqb (t.file s FILE_LINKS) 0) (eqb (t.file s FILE_LINKS) (get_or (links t) s 0)) ≡ cond b (eqb (t.file s FILE_LINKS) 0) (eqb (t.file s FILE_LINKS) (links_to t s))
    by true q = refl
    by false q = rw (links-at t s (eqb-false s 0 q) (omega arith))

slot-by : (t : Tree) (open_files : Table) (s : ℕ) → s < SLOTS → slot_sound_by t open_files (links t) (parents t) s ≡ slot_sound t open_files s
unfolding slot_sound_by slot_sound kind_sound_by kind_sound directory_sound_by directory_sound
slot-by t open_files s h =
    let c : climbs_by (parents t) NAMES s ≡ climbs t NAMES s = climbs-by t NAMES s (omega arith) in
    rw (links-by t s h, c)

pub slots-by : (t : Tree) (open_files : Table) (L P : List ℕ) (r : Bool) → L ≡ links t → P ≡ parents t → r ≡ all (slot_sound_by t open_files L P) 0 SLOTS
    → r ≡ all (slot_sound t open_files) 0 SLOTS
slots-by t open_files L P r a b e =
    rw (a, b) at e ∙ all_same (slot_sound_by t open_files (links t) (parents t)) (slot_sound t open_files) SLOTS (slot-by t open_files)

open_by : (file open_files desc : Table) (e : ℕ) → e < OPEN_FILES → open_sound_by file open_files (held desc) e ≡ open_sound file open_files desc e
unfolding open_sound_by open_sound
open_by file open_files desc e h =
    let l : get_or (held desc) (e + 1) 0 ≡ holders desc e = held_at desc e (omega arith) in
    rw l

pub open-files-by : (file open_files desc : Table) (H : List ℕ) (r : Bool) → H ≡ held desc → r ≡ all (open_sound_by file open_files H) 0 OPEN_FILES
    → r ≡ all (open_sound file open_files desc) 0 OPEN_FILES
open-files-by file open_files desc H r a e =
    rw a at e ∙ all_same (open_sound_by file open_files (held desc)) (open_sound file open_files desc) OPEN_FILES (open_by file open_files desc)

-- ---- an entry with no name, and one that has a name

-- a name that is the empty one is all padding
pub no_name : (name : List ℕ) (r : Bool) → r ≡ same_name name [] → r ≡ all (is_padding name) 0 NAME
unfolding same_name same_at is_padding
no_name name r q = q ∙ all_same (same_at name []) (is_padding name) NAME (λ j a. refl)

-- an empty entry differs from all
pub new_by : (D : List ℕ) (i : ℕ) → is_new D i ≡ cond (is_empty D i) true (all (other_than D i) 0 i)
unfolding is_new differs other_than some
new_by D i = by (is_empty D i) refl
  where
    by : (b : Bool) → is_empty D i ≡ b → all (differs D i) 0 i ≡ cond b true (all (other_than D i) 0 i)
    by true q = all_of (differs D i) 0 i (λ j a b. rw q)
    by false q = all_same (differs D i) (other_than D i) i (λ j a. rw q)

-- ---- the number after the last prompt's

pub end_fits : (R : List ℕ) (z : ℕ) → z ≡ prompt_count PROMPTS R → Fits w32 (SLOTS + z)
end_fits R z e = record { fits = omega (arith, count_most PROMPTS R, e) }

pub within_by : (R : List ℕ) (open_files : Table) (z : ℕ) (r : Bool) → z ≡ prompt_count PROMPTS R → r ≡ all (open_below open_files (SLOTS + z)) 0 OPEN_FILES
    → r ≡ opens_within R open_files
unfolding opens_within open_within open_below
within_by R open_files z r a e = rw a at e
