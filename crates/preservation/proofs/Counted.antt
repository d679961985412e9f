-- What the test counts, and where it climbs, as sums over the tables and depths.
use mathlib.Core.Path.{◌≡◌, refl, sym, ◌∙◌}
use mathlib.Core.Bool.{Bool, true, false, cond, not, ◌&&◌, false≢true}
use mathlib.Core.List.{List}
use Prim.Native.Nat.{ℕ, zero, suc, ◌+◌, ◌≤◌, ◌<◌}
use native.Mathlib.Nat.{not-suc-le-zero}
use native.Mathlib.Omega.{arith}
use lib.Dec.{eqb, ltb}
use lib.ListN.{get_or}
use borrow.Author.Tests.{eqb-true, lt-ltb, ltb-true}
use Rattle.rules.specs.Layout.{SLOTS, DIRENT_WIDTH, DIRENTS, NAME, OPEN_FILES, PROCESSES, DESCRIPTORS, FILE_KIND, OPEN_SLOT, OPEN_REFERENCES, DIRECTORY}
use Rattle.rules.specs.Choice.{every}
use Rattle.rules.specs.Scan.{any}
use Rattle.rules.specs.Scan as scan
use Rattle.rules.specs.Store.{Tree, slot, ofd_of, is_on, open_but, is_open}
use Rattle.rules.specs.Directories.{dirent_at, dirent_slot, is_empty}
use Rattle.rules.specs.Sound.{is_used, links_at, links_from, links_to, is_parent, parent_of, climbs, holds_at, holders_in, holders}
use Rattle.preservation.proofs.Tests.{split, Means, and_left, and_right, means-every, means-and, means-last, means-not, means-eq}
use Rattle.preservation.proofs.Sums.{ind, count, sum_same, sum-none, sum-at, sum-some, Some, ind-more}
use Rattle.rules.proofs.Scans.{first-same}
use Rattle.preservation.proofs.Scans.{any_found, any-passes, total-sum, count-sum}
use Rattle.preservation.proofs.Tables.{col}
use Rattle.preservation.proofs.Sound.{naming, link_count, name_count, parent, depth_within, open_count, holder_count}
use Rattle.preservation.proofs.Counts.{ind-eq}
use Rattle.preservation.proofs.Remake.{open_count-at}
use Rattle.preservation.proofs.Shown.{slot_row}

-- two tests that pass together are the same
same_tests : {a b : Bool} → (a ≡ true → b ≡ true) → (b ≡ true → a ≡ true) → a ≡ b
same_tests {a = true} f g = sym (f refl)
same_tests {a = false} {b = true} f g = g refl
same_tests {a = false} {b = false} f g = refl

-- ---- one directory

module _ (D : List ℕ) (rows : ℕ → ℕ → ℕ) (agree : (i k : ℕ) → k < DIRENT_WIDTH → get_or (dirent_at D i) k 0 ≡ rows i k) where
  pub names-counted : scan.count (is_used D) 0 DIRENTS ≡ name_count rows
  unfolding name_count is_used is_empty
  names-counted = count-sum (is_used D) DIRENTS ∙ sum_same DIRENTS (λ p. ind (not (eqb (rows p NAME) 0))) (λ p. ind (is_used D p)) (λ p _. rw (slot_row D rows agree p))

  pub links-counted : (s : ℕ) → scan.count (links_at D s) 0 DIRENTS ≡ count DIRENTS (λ p. eqb (rows p NAME) s)
  unfolding links_at
  links-counted s = count-sum (links_at D s) DIRENTS ∙ sum_same DIRENTS (λ p. ind (eqb (rows p NAME) s)) (λ p. ind (links_at D s p)) (λ p _. rw (slot_row D rows agree p))

  pub links-any : (s : ℕ) → any (links_at D s) 0 DIRENTS ≡ ltb 0 (count DIRENTS (λ p. eqb (rows p NAME) s))
  unfolding links_at
  links-any s = same_tests
      (λ t. let f = any_found (links_at D s) DIRENTS t in
      lt-ltb 0 (count DIRENTS (λ p. eqb (rows p NAME) s)) (omega (arith, sum-at DIRENTS (λ p. ind (eqb (rows p NAME) s)) f.at f.small, ind-eq (rows f.at NAME) s (sym (slot_row D rows agree f.at) ∙ eqb-true (dirent_slot D f.at) s f.passes))))
      (λ t. let f = sum-some DIRENTS (λ p. ind (eqb (rows p NAME) s)) (ltb-true 0 (count DIRENTS (λ p. eqb (rows p NAME) s)) t) in
      any-passes (links_at D s) DIRENTS f.at f.small (rw (slot_row D rows agree f.at) (ind-more (eqb (rows f.at NAME) s) f.more)))

-- ---- all directories: pl d are the rows of directory d

module _ (t : Tree) (pl : ℕ → ℕ → ℕ → ℕ) (agree : (d : ℕ) → d < SLOTS → t.file d FILE_KIND ≡ DIRECTORY → (i k : ℕ) → k < DIRENT_WIDTH → get_or (dirent_at (t.shown d) i) k 0 ≡ pl d i k) where
  from_one : (s d : ℕ) → d < SLOTS → links_from t s d ≡ count DIRENTS (naming (col t.file FILE_KIND) pl s d)
  unfolding links_from
  from_one s d h = split (t.file d FILE_KIND) DIRECTORY
      (λ q e. rw e (links-counted (t.shown d) (pl d) (agree d h q) s))
      (λ q e. rw e (sym (sum-none DIRENTS (λ p. ind (false && eqb (pl d p NAME) s)) (λ p _. refl))))

  pub links-total : (s : ℕ) → links_to t s ≡ link_count (col t.file FILE_KIND) pl s
  unfolding links_to link_count
  links-total s = total-sum (links_from t s) SLOTS ∙ sum_same SLOTS (λ d. count DIRENTS (naming (col t.file FILE_KIND) pl s d)) (links_from t s) (λ d h. from_one s d h)

  parent-one : (d u : ℕ) → u < SLOTS → is_parent t d u ≡ ltb 0 (count DIRENTS (naming (col t.file FILE_KIND) pl d u))
  unfolding is_parent every
  parent-one d u h = split (t.file u FILE_KIND) DIRECTORY
      (λ q e. rw (e, links-any (t.shown u) (pl u) (agree u h q) d) (last (ltb 0 (count DIRENTS (λ p. eqb (pl u p NAME) d)))))
      (λ q e. rw (e, sum-none DIRENTS (λ p. ind (false && eqb (pl u p NAME) d)) (λ p _. refl)))
    where
      last : (b : Bool) → cond b true false ≡ b
      last true = refl
      last false = refl

  parent-same : (d : ℕ) → parent_of t d ≡ parent (col t.file FILE_KIND) pl d
  unfolding parent
  parent-same d = first-same (is_parent t d) (λ u. ltb 0 (count DIRENTS (naming (col t.file FILE_KIND) pl d u))) SLOTS (parent-one d)

  climbs-holds : (n d : ℕ) → climbs t n d ≡ true → depth_within (col t.file FILE_KIND) pl n d ≤ n
  unfolding climbs depth_within
  climbs-holds zero d = split d 0 (λ q e. rw e (λ _. omega arith)) (λ q e. rw e (λ z. absurd (false≢true z)))
  climbs-holds (suc n) d = go (climbs-holds n (parent_of t d)) (parent-same d)
    where
      go : (climbs t n (parent_of t d) ≡ true → depth_within (col t.file FILE_KIND) pl n (parent_of t d) ≤ n) → parent_of t d ≡ parent (col t.file FILE_KIND) pl d →
          cond (eqb d 0) true (climbs t n (parent_of t d)) ≡ true → cond (eqb d 0) 0 (suc (depth_within (col t.file FILE_KIND) pl n (parent (col t.file FILE_KIND) pl d))) ≤ suc n
      go ih p = split d 0 (λ q e. rw e (λ _. omega arith)) (λ q e. rw (e, ← p) (λ z. let a = ih z in omega arith))

  climbs-tests : (n d : ℕ) → depth_within (col t.file FILE_KIND) pl n d ≤ n → climbs t n d ≡ true
  unfolding climbs depth_within
  climbs-tests zero d = split d 0 (λ q e. rw e (λ _. refl)) (λ q e. rw e (λ z. absurd (not-suc-le-zero z)))
  climbs-tests (suc n) d = go (climbs-tests n (parent_of t d)) (parent-same d)
    where
      go : (depth_within (col t.file FILE_KIND) pl n (parent_of t d) ≤ n → climbs t n (parent_of t d) ≡ true) → parent_of t d ≡ parent (col t.file FILE_KIND) pl d →
          cond (eqb d 0) 0 (suc (depth_within (col t.file FILE_KIND) pl n (parent (col t.file FILE_KIND) pl d))) ≤ suc n → cond (eqb d 0) true (climbs t n (parent_of t d)) ≡ true
      go ih p = split d 0 (λ q e. rw e (λ _. refl)) (λ q e. rw (e, ← p) (λ z. ih (omega arith)))

  pub means-climbs : (n d : ℕ) → Means (climbs t n d) (depth_within (col t.file FILE_KIND) pl n d ≤ n)
  means-climbs n d = record { holds = climbs-holds n d; tests = climbs-tests n d }

-- ---- open files and descriptors

-- open file e, another than x, is on slot s
pub means-on : (open_files : ℕ → ℕ → ℕ) (x s e : ℕ) → Means (is_on open_files (ofd_of x) (slot s) e) ((e ≡ x → ⊥) × ((open_files e OPEN_REFERENCES ≡ 0 → ⊥) × (open_files e OPEN_SLOT ≡ s)))
unfolding is_on
means-on open_files x s e = means-every (means-and (means-not (means-eq e x)) (means-and (means-not (means-eq (open_files e OPEN_REFERENCES) 0)) (means-last (means-eq (open_files e OPEN_SLOT) s))))

pub means-open : (open_files : ℕ → ℕ → ℕ) (s : ℕ) → Means (is_open open_files (slot s)) (0 < open_count (col open_files OPEN_SLOT) (col open_files OPEN_REFERENCES) s)
unfolding open_but
means-open open_files s = record {
  holds = λ t. let f = any_found (is_on open_files (ofd_of OPEN_FILES) (slot s)) OPEN_FILES t in let w = (means-on open_files OPEN_FILES s f.at).holds f.passes in
      open_count-at (col open_files OPEN_SLOT) (col open_files OPEN_REFERENCES) f.at s f.small w.1.1 w.1.0;
  tests = λ h. found (unfold open_count in sum-some OPEN_FILES (λ e. ind (eqb (open_files e OPEN_SLOT) s && ltb 0 (open_files e OPEN_REFERENCES))) h);
}
  where
    found : Some OPEN_FILES (λ e. ind (eqb (open_files e OPEN_SLOT) s && ltb 0 (open_files e OPEN_REFERENCES))) → any (is_on open_files (ofd_of OPEN_FILES) (slot s)) 0 OPEN_FILES ≡ true
    found f =
        let b : eqb (open_files f.at OPEN_SLOT) s && ltb 0 (open_files f.at OPEN_REFERENCES) ≡ true = ind-more (eqb (open_files f.at OPEN_SLOT) s && ltb 0 (open_files f.at OPEN_REFERENCES)) f.more in
        any-passes (is_on open_files (ofd_of OPEN_FILES) (slot s)) OPEN_FILES f.at f.small ((means-on open_files OPEN_FILES s f.at).tests (
          (λ q. omega (arith, f.small)),
          (
            (λ q. omega (arith, ltb-true 0 (open_files f.at OPEN_REFERENCES) (and_right (eqb (open_files f.at OPEN_SLOT) s) (ltb 0 (open_files f.at OPEN_REFERENCES)) b))),
            eqb-true (open_files f.at OPEN_SLOT) s (and_left (eqb (open_files f.at OPEN_SLOT) s) (ltb 0 (open_files f.at OPEN_REFERENCES)) b),
          ),
        ))

pub holders-counted : (desc : ℕ → ℕ → ℕ) (e : ℕ) → holders desc e ≡ holder_count desc e
unfolding holders holders_in holds_at holder_count
holders-counted desc e =
    total-sum (holders_in desc e) PROCESSES ∙ sum_same PROCESSES (λ p. count DESCRIPTORS (λ k. eqb (desc p k) (e + 1))) (holders_in desc e) (λ p _. count-sum (holds_at desc e p) DESCRIPTORS)
