-- The tree: the depth that the test computes, and the depths of the record.
use mathlib.Core.Path.{◌≡◌, refl, sym, ap, ◌∙◌}
use mathlib.Core.Bool.{true}
use Prim.Native.Nat.{ℕ, zero, suc, ◌-◌, ◌≤◌, ◌<◌}
use native.Mathlib.Nat.{not-suc-le-zero}
use native.Mathlib.Omega.{arith}
use native.Mathlib.Decide.{ℕ_discrete}
use lib.Dec.{eqb, ltb}
use borrow.Author.Tests.{eqb-true, eq-eqb, ne_eqb, lt-ltb, ltb-true}
use Rattle.preservation.proofs.Tests.{split, and_left, and_right}
use Rattle.preservation.proofs.Scans.{first-is}
use Rattle.preservation.proofs.Sums.{ind, count, sum-some, Some, sum2-some, Some2, sum2-rows, ind-more, sum-at}
use Rattle.preservation.proofs.Sound.{All, Depths, naming, link_count, parent, depth_within}
use Rattle.rules.specs.Layout.{SLOTS, DIRENTS, NAME, NAMES, DIRECTORY}

-- ---- the parent

pub naming-true : (kind : ℕ → ℕ) (pl : ℕ → ℕ → ℕ → ℕ) (s u p : ℕ) → kind u ≡ DIRECTORY → pl u p NAME ≡ s → naming kind pl s u p ≡ true
naming-true kind pl s u p k e = rw (eq-eqb (kind u) DIRECTORY k) (eq-eqb (pl u p NAME) s e)

pub parent_is : (kind : ℕ → ℕ) (pl : ℕ → ℕ → ℕ → ℕ) (d u p : ℕ) → u < SLOTS → p < DIRENTS → kind u ≡ DIRECTORY → pl u p NAME ≡ d → link_count kind pl d ≡ 1 → parent kind pl d ≡ u
unfolding parent link_count
parent_is kind pl d u p hu hp ku e one = first-is SLOTS (λ w. ltb 0 (count DIRENTS (naming kind pl d w))) u hu
    (lt-ltb 0 (count DIRENTS (naming kind pl d u)) (omega (arith, sum-at DIRENTS (λ q. ind (naming kind pl d u q)) p hp, here)))
    (λ w hw t. elim (ℕ_discrete w u) [ yes q ↦ q | no q ↦ absurd (two w hw q (sum-some DIRENTS (λ q. ind (naming kind pl d w q)) (ltb-true 0 (count DIRENTS (naming kind pl d w)) t))) ])
  where
    here : ind (naming kind pl d u p) ≡ 1
    here = rw (naming-true kind pl d u p ku e)

    two : (w : ℕ) → w < SLOTS → (w ≡ u → ⊥) → Some DIRENTS (λ q. ind (naming kind pl d w q)) → ⊥
    two w hw q s = omega (arith, here, s.more, one, sum2-rows SLOTS DIRENTS (λ i j. ind (naming kind pl d i j)) w s.at u p hw s.small hu hp q)

-- ---- from the test to depths

stable : (kind : ℕ → ℕ) (pl : ℕ → ℕ → ℕ → ℕ) (n d : ℕ) → depth_within kind pl n d ≤ n → depth_within kind pl (suc n) d ≡ depth_within kind pl n d
unfolding depth_within
stable kind pl zero d = split d 0 (λ _ t. rw t (λ _. refl)) (λ _ t. rw t (λ h. absurd (not-suc-le-zero h)))
stable kind pl (suc n) d = go (stable kind pl n (parent kind pl d))
  where
    go : (depth_within kind pl n (parent kind pl d) ≤ n → depth_within kind pl (suc n) (parent kind pl d) ≡ depth_within kind pl n (parent kind pl d)) →
        depth_within kind pl (suc n) d ≤ suc n → depth_within kind pl (suc (suc n)) d ≡ depth_within kind pl (suc n) d
    go ih = split d 0 (λ _ t. rw t (λ _. refl)) (λ _ t. rw t (λ h. ap suc (ih (omega arith))))

pub depths-from : (kind : ℕ → ℕ) (pl : ℕ → ℕ → ℕ → ℕ) → All SLOTS (λ u. kind u ≡ DIRECTORY → All DIRENTS (λ p. pl u p NAME < SLOTS)) →
    All SLOTS (λ d. kind d ≡ DIRECTORY → (d ≡ 0 → ⊥) → link_count kind pl d ≡ 1) → All SLOTS (λ d. kind d ≡ DIRECTORY → depth_within kind pl NAMES d ≤ NAMES) → Depths kind pl
depths-from kind pl small once most = record {
  depth = depth_within kind pl NAMES;
  depth-root = unfold depth_within in refl;
  depth-most = most;
  depth-step = λ u hu ku p hp n k. step u hu ku p hp n k (most (pl u p NAME) (small u hu ku p hp) k);
}
  where
    deeper : (d u : ℕ) → (d ≡ 0 → ⊥) → parent kind pl d ≡ u → depth_within kind pl NAMES d ≡ suc (depth_within kind pl (NAMES - 1) u)
    deeper d u n e = unfold depth_within in rw (ne_eqb d 0 n, e)

    step : (u : ℕ) → u < SLOTS → kind u ≡ DIRECTORY → (p : ℕ) → p < DIRENTS → (pl u p NAME ≡ 0 → ⊥) → kind (pl u p NAME) ≡ DIRECTORY → depth_within kind pl NAMES (pl u p NAME) ≤ NAMES → depth_within kind pl NAMES (pl u p NAME) ≡ suc (depth_within kind pl NAMES u)
    step u hu ku p hp n k l =
        let a : depth_within kind pl NAMES (pl u p NAME) ≡ suc (depth_within kind pl (NAMES - 1) u) = deeper (pl u p NAME) u n (parent_is kind pl (pl u p NAME) u p hu hp ku refl (once (pl u p NAME) (small u hu ku p hp) k n)) in
        a ∙ ap suc (sym (stable kind pl (NAMES - 1) u (omega arith)))

-- ---- and back: the test computes the depths

-- the directory over d
pub record Over (kind : ℕ → ℕ) (pl : ℕ → ℕ → ℕ → ℕ) (depth : ℕ → ℕ) (d : ℕ) : Type 0 where
  pub up : ℕ
  pub small : up < SLOTS
  pub dir : kind up ≡ DIRECTORY
  pub is : parent kind pl d ≡ up
  pub deep : depth d ≡ suc (depth up)

pub over : (kind : ℕ → ℕ) (pl : ℕ → ℕ → ℕ → ℕ) (c : Depths kind pl) (d : ℕ) → kind d ≡ DIRECTORY → (d ≡ 0 → ⊥) → link_count kind pl d ≡ 1 → Over kind pl c.depth d
over kind pl c d k n one = go (unfold link_count in sum2-some SLOTS DIRENTS (λ i j. ind (naming kind pl d i j)) (omega arith))
  where
    go : Some2 SLOTS DIRENTS (λ i j. ind (naming kind pl d i j)) → Over kind pl c.depth d
    go s =
        let t : naming kind pl d s.row s.column ≡ true = ind-more (naming kind pl d s.row s.column) s.more in
        let ku : kind s.row ≡ DIRECTORY = eqb-true (kind s.row) DIRECTORY (and_left (eqb (kind s.row) DIRECTORY) (eqb (pl s.row s.column NAME) d) t) in
        let e : pl s.row s.column NAME ≡ d = eqb-true (pl s.row s.column NAME) d (and_right (eqb (kind s.row) DIRECTORY) (eqb (pl s.row s.column NAME) d) t) in
        record {
          up = s.row;
          small = s.row_small;
          dir = ku;
          is = parent_is kind pl d s.row s.column s.row_small s.column-small ku e one;
          deep = rw e at (c.depth-step s.row s.row_small ku s.column s.column-small (rw e n) (rw e k));
        }

pub depth_is : (kind : ℕ → ℕ) (pl : ℕ → ℕ → ℕ → ℕ) → All SLOTS (λ d. kind d ≡ DIRECTORY → (d ≡ 0 → ⊥) → link_count kind pl d ≡ 1) → (c : Depths kind pl) →
    (n d : ℕ) → d < SLOTS → kind d ≡ DIRECTORY → c.depth d ≤ n → depth_within kind pl n d ≡ c.depth d
unfolding depth_within
depth_is kind pl once c zero d hd k l = split d 0
    (λ q t. rw (t, q) (sym c.depth-root))
    (λ q t. absurd (omega (arith, (over kind pl c d k q (once d hd k q)).deep)))
depth_is kind pl once c (suc n) d hd k l = split d 0
    (λ q t. rw (t, q) (sym c.depth-root))
    (λ q t. let o = over kind pl c d k q (once d hd k q) in
    rw (t, o.is) (ap suc (depth_is kind pl once c n o.up o.small o.dir (omega (arith, o.deep))) ∙ sym o.deep))
