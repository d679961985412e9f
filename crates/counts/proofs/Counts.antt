-- The passes count what the rules count.
use mathlib.Core.Path.{◌≡◌, refl, ◌∙◌, sym}
use mathlib.Core.Bool.{Bool, true, false, cond}
use mathlib.Core.List.{List}
use Prim.Native.Nat.{ℕ, zero, suc, ◌+◌, ◌-◌, ◌^◌, ◌≤◌, ◌<◌}
use native.Mathlib.Omega.{arith}
use native.Mathlib.Nat.{add-zero}
use borrow.Author.Tests.{eqb-true, eqb-false, ne_eqb}
use lib.Dec.{eqb}
use lib.ListN.{length, get_or, set, length-set, length-replicate, get_or-replicate}
use lib.Seq.{get_or-set_same, get_or-set_other}
use Rattle.rules.specs.Choice.{every}
use Rattle.rules.specs.Scan.{fold, any, count, total, first}
use Rattle.rules.specs.Layout.{DIRENTS, DESCRIPTORS, PROCESSES, SLOTS}
use Rattle.rules.specs.Store.{Tree, slot}
use Rattle.rules.specs.Directories.{dirent_slot}
use Rattle.rules.specs.Walk.{is_directory}
use Rattle.rules.specs.Sound.{links_at, links_from, links_to, is_parent, parent_of, holds_at, holders_in, holders}
use Rattle.rules.proofs.Scans.{any-yes, any-no, any-done, first-yes, first-no, first_done}
use Rattle.counts.specs.Counts.{counted, claimed, entry_counted, slot_counted, entry_claimed, slot_claimed, desc_counted, proc_counted, SLOTS_AND_NONE, HELD, no_links, no_parents, no_holders, links, parents, held}
use Rattle.rules.proofs.Scans.{fold_step, fold_done}
use Rattle.counts.proofs.Counting.{count-le, length-fold, counts, counts-keep, totals}

-- ---- links

module _ (t : Tree) (s : ℕ) (some : s ≡ 0 → ⊥) where
  entry-does : (D : List ℕ) (i : ℕ) (L : List ℕ) → entry_counted D i L ≡ counted (dirent_slot D i) L
  unfolding entry_counted
  entry-does D i L = refl

  entry-tells : (D : List ℕ) (i : ℕ) → links_at D s i ≡ eqb (dirent_slot D i) s
  unfolding links_at
  entry-tells D i = refl

  slot-keeps : (d : ℕ) (L : List ℕ) → length (slot_counted t d L) ≡ length L
  unfolding slot_counted
  slot-keeps d L = by (is_directory t.file (slot d))
    where
      by : (b : Bool) → length (cond b (fold (entry_counted (t.shown d)) 0 DIRENTS L) L) ≡ length L
      by true = counts-keep (entry_counted (t.shown d)) (dirent_slot (t.shown d)) (entry-does (t.shown d)) (links_at (t.shown d) s) s some (entry-tells (t.shown d)) 0 DIRENTS L
      by false = refl

  slot-adds : (d : ℕ) (L : List ℕ) → s < length L → get_or L s 0 + DIRENTS < 2 ^ 32 → get_or (slot_counted t d L) s 0 ≡ links_from t s d + get_or L s 0
  unfolding slot_counted links_from
  slot-adds d L h b = by (is_directory t.file (slot d))
    where
      by : (q : Bool) → get_or (cond q (fold (entry_counted (t.shown d)) 0 DIRENTS L) L) s 0 ≡ cond q (count (links_at (t.shown d) s) 0 DIRENTS) 0 + get_or L s 0
      by true = counts (entry_counted (t.shown d)) (dirent_slot (t.shown d)) (entry-does (t.shown d)) (links_at (t.shown d) s) s some (entry-tells (t.shown d)) DIRENTS L h b
      by false = omega arith

  slot_small : (d : ℕ) → links_from t s d ≤ DIRENTS
  unfolding links_from
  slot_small d = by (is_directory t.file (slot d))
    where
      by : (q : Bool) → cond q (count (links_at (t.shown d) s) 0 DIRENTS) 0 ≤ DIRENTS
      by true = count-le (links_at (t.shown d) s) 0 DIRENTS
      by false = omega arith

  pub links-at : s < SLOTS_AND_NONE → get_or (links t) s 0 ≡ links_to t s
  unfolding links_to
  links-at h =
      let z : get_or no_links s 0 ≡ 0 = get_or-replicate SLOTS_AND_NONE s 0 0 h in
      let a : s < length no_links = rw (length-replicate {A = ℕ} SLOTS_AND_NONE 0) h in
      let e : get_or (links t) s 0 ≡ total (links_from t s) 0 SLOTS + get_or no_links s 0 =
      totals (slot_counted t) (links_from t s) s slot-keeps slot-adds slot_small SLOTS no_links a (rw z (omega arith)) in
      e ∙ rw z (add-zero (total (links_from t s) 0 SLOTS))

-- ---- parents

claim-keeps : (D : List ℕ) (d i : ℕ) (P : List ℕ) → length (entry_claimed D d i P) ≡ length P
unfolding entry_claimed claimed
claim-keeps D d i P = by (eqb (dirent_slot D i) 0)
  where
    by : (b : Bool) → length (cond b P (set P (dirent_slot D i) d)) ≡ length P
    by true = refl
    by false = length-set P (dirent_slot D i) d

claimed-at : (P : List ℕ) (k s d : ℕ) → (s ≡ 0 → ⊥) → s < length P → k ≡ s → get_or (claimed k d P) s 0 ≡ d
unfolding claimed
claimed-at P k s d o h e = rw (e, ne_eqb s 0 o) (get_or-set_same P s d 0 h)

claimed-other : (P : List ℕ) (k s d : ℕ) → (k ≡ s → ⊥) → get_or (claimed k d P) s 0 ≡ get_or P s 0
unfolding claimed
claimed-other P k s d h = by (eqb k 0)
  where
    by : (b : Bool) → get_or (cond b P (set P k d)) s 0 ≡ get_or P s 0
    by true = refl
    by false = get_or-set_other P k s d 0 (λ e. h (sym e))

module _ (s : ℕ) (some : s ≡ 0 → ⊥) where
  claims-from : (D : List ℕ) (d k i n : ℕ) → n - i ≡ k → (P : List ℕ) → s < length P
      → get_or (fold (entry_claimed D d) i n P) s 0 ≡ cond (any (links_at D s) i n) d (get_or P s 0)
  unfolding links_at entry_claimed
  claims-from D d zero i n e P h =
      let a : n ≤ i = omega arith in
      let c : false ≡ any (links_at D s) i n = any-done (links_at D s) i n refl a in
      rw (fold_done (entry_claimed D d) i n P a, ← c)
  claims-from D d (suc k) i n e P h = rw (fold_step (entry_claimed D d) i n P inside) (by (eqb (dirent_slot D i) s) refl (claims-from D d k (i + 1) n (omega arith) P h))
    where
      inside : i < n
      inside = omega arith

      M : List ℕ
      M = fold (entry_claimed D d) (i + 1) n P

      long : s < length M
      long = rw (length-fold (entry_claimed D d) (claim-keeps D d) (i + 1) n P) h

      by : (b : Bool) → eqb (dirent_slot D i) s ≡ b → get_or M s 0 ≡ cond (any (links_at D s) (i + 1) n) d (get_or P s 0)
          → get_or (claimed (dirent_slot D i) d M) s 0 ≡ cond (any (links_at D s) i n) d (get_or P s 0)
      by true q ih =
          let c : true ≡ any (links_at D s) i n = any-yes (links_at D s) i n refl inside q refl in
          rw (← c) (claimed-at M (dirent_slot D i) s d some long (eqb-true (dirent_slot D i) s q))
      by false q ih =
          let c : any (links_at D s) (i + 1) n ≡ any (links_at D s) i n = any-no (links_at D s) i n refl inside q refl in
          rw (← c) (claimed-other M (dirent_slot D i) s d (eqb-false (dirent_slot D i) s q) ∙ ih)

module _ (t : Tree) (s : ℕ) (some : s ≡ 0 → ⊥) where
  slot-claim-keeps : (d : ℕ) (P : List ℕ) → length (slot_claimed t d P) ≡ length P
  unfolding slot_claimed
  slot-claim-keeps d P = by (is_directory t.file (slot d))
    where
      by : (b : Bool) → length (cond b (fold (entry_claimed (t.shown d) d) 0 DIRENTS P) P) ≡ length P
      by true = length-fold (entry_claimed (t.shown d) d) (claim-keeps (t.shown d) d) 0 DIRENTS P
      by false = refl

  -- directory d claims s where it names s
  slot-claims : (d : ℕ) (P : List ℕ) → s < length P → get_or (slot_claimed t d P) s 0 ≡ cond (is_parent t s d) d (get_or P s 0)
  unfolding slot_claimed is_parent every
  slot-claims d P h = by (is_directory t.file (slot d)) (any (links_at (t.shown d) s) 0 DIRENTS) (claims-from s some (t.shown d) d (DIRENTS - 0) 0 DIRENTS refl P h)
    where
      by : (b a : Bool) → get_or (fold (entry_claimed (t.shown d) d) 0 DIRENTS P) s 0 ≡ cond a d (get_or P s 0)
          → get_or (cond b (fold (entry_claimed (t.shown d) d) 0 DIRENTS P) P) s 0 ≡ cond (cond b (cond a true false) false) d (get_or P s 0)
      by true true e = e
      by true false e = e
      by false a e = refl

  parents-from : (k i n : ℕ) → n - i ≡ k → (P : List ℕ) → s < length P → get_or P s 0 ≡ n → get_or (fold (slot_claimed t) i n P) s 0 ≡ first (is_parent t s) i n
  parents-from zero i n e P h z =
      let a : n ≤ i = omega arith in
      rw (fold_done (slot_claimed t) i n P a) (z ∙ first_done (is_parent t s) i n refl a)
  parents-from (suc k) i n e P h z =
      rw (fold_step (slot_claimed t) i n P inside) (slot-claims i M long ∙ by (is_parent t s i) refl (parents-from k (i + 1) n (omega arith) P h z))
    where
      inside : i < n
      inside = omega arith

      M : List ℕ
      M = fold (slot_claimed t) (i + 1) n P

      long : s < length M
      long = rw (length-fold (slot_claimed t) slot-claim-keeps (i + 1) n P) h

      by : (b : Bool) → is_parent t s i ≡ b → get_or M s 0 ≡ first (is_parent t s) (i + 1) n → cond b i (get_or M s 0) ≡ first (is_parent t s) i n
      by true q ih = first-yes (is_parent t s) i n refl inside q refl
      by false q ih = ih ∙ first-no (is_parent t s) i n refl inside q refl

  pub parents-at : s < SLOTS_AND_NONE → get_or (parents t) s 0 ≡ parent_of t s
  parents-at h =
      let a : s < length no_parents = rw (length-replicate {A = ℕ} SLOTS_AND_NONE SLOTS) h in
      parents-from (SLOTS - 0) 0 SLOTS refl no_parents a (get_or-replicate SLOTS_AND_NONE s SLOTS 0 h)

-- ---- holders

module _ (desc : ℕ → ℕ → ℕ) (e : ℕ) where
  desc-does : (p i : ℕ) (H : List ℕ) → desc_counted desc p i H ≡ counted (desc p i) H
  unfolding desc_counted
  desc-does p i H = refl

  desc-tells : (p i : ℕ) → holds_at desc e p i ≡ eqb (desc p i) (e + 1)
  unfolding holds_at
  desc-tells p i = refl

  proc-keeps : (p : ℕ) (H : List ℕ) → length (proc_counted desc p H) ≡ length H
  unfolding proc_counted
  proc-keeps p H = counts-keep (desc_counted desc p) (desc p) (desc-does p) (holds_at desc e p) (e + 1) (λ x. omega arith) (desc-tells p) 0 DESCRIPTORS H

  proc-adds : (p : ℕ) (H : List ℕ) → e + 1 < length H → get_or H (e + 1) 0 + DIRENTS < 2 ^ 32 → get_or (proc_counted desc p H) (e + 1) 0 ≡ holders_in desc e p + get_or H (e + 1) 0
  unfolding proc_counted holders_in
  proc-adds p H h b = counts (desc_counted desc p) (desc p) (desc-does p) (holds_at desc e p) (e + 1) (λ x. omega arith) (desc-tells p) DESCRIPTORS H h (omega arith)

  proc-small : (p : ℕ) → holders_in desc e p ≤ DIRENTS
  unfolding holders_in
  proc-small p = let c : count (holds_at desc e p) 0 DESCRIPTORS ≤ DESCRIPTORS - 0 = count-le (holds_at desc e p) 0 DESCRIPTORS in omega arith

  pub held_at : e + 1 < HELD → get_or (held desc) (e + 1) 0 ≡ holders desc e
  unfolding holders
  held_at h =
      let z : get_or no_holders (e + 1) 0 ≡ 0 = get_or-replicate HELD (e + 1) 0 0 h in
      let a : e + 1 < length no_holders = rw (length-replicate {A = ℕ} HELD 0) h in
      let c : get_or (held desc) (e + 1) 0 ≡ total (holders_in desc e) 0 PROCESSES + get_or no_holders (e + 1) 0 =
      totals (proc_counted desc) (holders_in desc e) (e + 1) proc-keeps proc-adds proc-small PROCESSES no_holders a (rw z (omega arith)) in
      c ∙ rw z (add-zero (total (holders_in desc e) 0 PROCESSES))
