-- How the counts change where one row of a table changes.
use mathlib.Core.Path.{◌≡◌, refl, ap}
use mathlib.Core.Bool.{◌&&◌}
use Prim.Native.Nat.{ℕ, ◌+◌, ◌<◌}
use native.Mathlib.Omega.{arith}
use lib.Dec.{eqb, ltb}
use borrow.Author.Tests.{eq-eqb, ne_eqb}
use Rattle.preservation.proofs.Tests.{split, upd_row}
use Rattle.preservation.proofs.Sums.{count2, ind, sum-change, sum2-change, sum2-at, ind-true}
use Rattle.preservation.proofs.Sound.{holder_count, open_count}
use Rattle.rules.specs.Layout.{OPEN_FILES, PROCESSES, DESCRIPTORS}

pub upd_row-same : (f : ℕ → ℕ → ℕ) (j c v : ℕ) → upd_row f j c v j c ≡ v
upd_row-same f j c v = rw (eq-eqb j j refl, eq-eqb c c refl)

pub upd_row-other : (f : ℕ → ℕ → ℕ) (j c v i k : ℕ) → (i ≡ j → k ≡ c → ⊥) → upd_row f j c v i k ≡ f i k
upd_row-other f j c v i k n = split i j (λ b d. split k c (λ a e. absurd (n b a)) (λ a e. rw (d, e, b))) (λ b d. rw d)

pub ind-eq : (a b : ℕ) → a ≡ b → ind (eqb a b) ≡ 1
ind-eq a b e = ind-true (eqb a b) (eq-eqb a b e)

pub ind-ne : (a b : ℕ) → (a ≡ b → ⊥) → ind (eqb a b) ≡ 0
ind-ne a b n = rw (ne_eqb a b n)

pub holders-to : (desc : ℕ → ℕ → ℕ) (p k v e : ℕ) → p < PROCESSES → k < DESCRIPTORS → holder_count (upd_row desc p k v) e + ind (eqb (desc p k) (e + 1)) ≡ holder_count desc e + ind (eqb v (e + 1))
unfolding holder_count
holders-to desc p k v e hp hk =
    let q : ind (eqb (upd_row desc p k v p k) (e + 1)) ≡ ind (eqb v (e + 1)) = ap (λ (x : ℕ). ind (eqb x (e + 1))) (upd_row-same desc p k v) in
    let c : count2 PROCESSES DESCRIPTORS (λ i j. eqb (upd_row desc p k v i j) (e + 1)) + ind (eqb (desc p k) (e + 1)) ≡ count2 PROCESSES DESCRIPTORS (λ i j. eqb (desc i j) (e + 1)) + ind (eqb (upd_row desc p k v p k) (e + 1))
    = sum2-change PROCESSES DESCRIPTORS (λ i j. ind (eqb (desc i j) (e + 1))) (λ i j. ind (eqb (upd_row desc p k v i j) (e + 1))) p k hp hk (λ i j _ _ n. ap (λ (x : ℕ). ind (eqb x (e + 1))) (upd_row-other desc p k v i j n)) in
    omega arith

pub holders-at : (desc : ℕ → ℕ → ℕ) (p k e : ℕ) → p < PROCESSES → k < DESCRIPTORS → desc p k ≡ e + 1 → 0 < holder_count desc e
unfolding holder_count
holders-at desc p k e hp hk q = omega (arith, sum2-at PROCESSES DESCRIPTORS (λ i j. ind (eqb (desc i j) (e + 1))) p k hp hk, ind-eq (desc p k) (e + 1) q)

-- ---- open files on a slot

-- slot, refs and the changed slot', refs' differ at e only
pub open_count-change : (slot refs slot' refs' : ℕ → ℕ) (e s : ℕ) → e < OPEN_FILES → ((i : ℕ) → (i ≡ e → ⊥) → slot' i ≡ slot i) → ((i : ℕ) → (i ≡ e → ⊥) → refs' i ≡ refs i) →
    open_count slot' refs' s + ind (eqb (slot e) s && ltb 0 (refs e)) ≡ open_count slot refs s + ind (eqb (slot' e) s && ltb 0 (refs' e))
unfolding open_count
open_count-change slot refs slot' refs' e s he a b =
    sum-change OPEN_FILES (λ i. ind (eqb (slot i) s && ltb 0 (refs i))) (λ i. ind (eqb (slot' i) s && ltb 0 (refs' i))) e he (λ i _ n. rw (a i n, b i n))
