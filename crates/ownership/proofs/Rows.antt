-- How many descriptors a row holds, and how that changes.
use mathlib.Core.Path.{◌≡◌, ap, ◌∙◌}
use mathlib.Core.Bool.{not}
use Prim.Native.Nat.{ℕ, ◌+◌, ◌<◌}
use native.Mathlib.Omega.{arith}
use lib.Dec.{eqb}
use borrow.Author.Tests.{ne_eqb}
use Rattle.rules.specs.Layout.{PROCESSES, DESCRIPTORS}
use Rattle.rules.specs.Store.{Store}
use Rattle.rules.specs.Checks.{held}
use Rattle.preservation.proofs.Tests.{upd, upd_same, upd_other}
use Rattle.preservation.proofs.Sums.{sum, ind, sum-change, sum-none}
use Rattle.preservation.proofs.Scans.{count-sum, total-sum}
use Rattle.preservation.proofs.StoreChanges.{tables_of}
use Rattle.ownership.specs.Descriptors.{holds, held_by, held_in}

-- of the descriptors r
unfoldable pub row_held : (ℕ → ℕ) → ℕ
row_held r = sum DESCRIPTORS (λ k. ind (not (eqb (r k) 0)))

pub held-row : (s : Store) (p : ℕ) → held_by s p ≡ row_held ((tables_of s).desc p)
unfolding held_by holds held row_held tables_of
held-row s p = count-sum (holds s p) DESCRIPTORS

pub held-sum : (s : Store) → held_in s ≡ sum PROCESSES (held_by s)
unfolding held_in
held-sum s = total-sum (held_by s) PROCESSES

pub row-none : (r : ℕ → ℕ) → ((k : ℕ) → k < DESCRIPTORS → r k ≡ 0) → row_held r ≡ 0
unfolding row_held
row-none r e = sum-none DESCRIPTORS (λ k. ind (not (eqb (r k) 0))) (λ k l. rw (e k l))

row-change : (r : ℕ → ℕ) (j v : ℕ) → j < DESCRIPTORS → row_held (upd r j v) + ind (not (eqb (r j) 0)) ≡ row_held r + ind (not (eqb v 0))
unfolding row_held
row-change r j v l =
    sum-change DESCRIPTORS (λ k. ind (not (eqb (r k) 0))) (λ k. ind (not (eqb (upd r j v k) 0))) j l (λ k _ n. ap (λ (x : ℕ). ind (not (eqb x 0))) (upd_other r j v k n))
    ∙ ap (λ (x : ℕ). sum DESCRIPTORS (λ k. ind (not (eqb (r k) 0))) + ind (not (eqb x 0))) (upd_same r j v)

-- a free descriptor is given
pub row-gains : (r : ℕ → ℕ) (j v : ℕ) → j < DESCRIPTORS → r j ≡ 0 → row_held (upd r j (v + 1)) ≡ row_held r + 1
row-gains r j v l e =
    let a : ind (not (eqb (r j) 0)) ≡ 0 = rw e in
    let b : ind (not (eqb (v + 1) 0)) ≡ 1 = rw (ne_eqb (v + 1) 0 (λ z. omega arith)) in
    omega (arith, row-change r j (v + 1) l)

-- one that is held is emptied
pub row-loses : (r : ℕ → ℕ) (j : ℕ) → j < DESCRIPTORS → (r j ≡ 0 → ⊥) → row_held (upd r j 0) + 1 ≡ row_held r
row-loses r j l n = let a : ind (not (eqb (r j) 0)) ≡ 1 = rw (ne_eqb (r j) 0 n) in omega (arith, row-change r j 0 l)

-- of all processes, if those of all but p stay
pub all-change : (f g : ℕ → ℕ) (p : ℕ) → p < PROCESSES → ((q : ℕ) → (q ≡ p → ⊥) → g q ≡ f q) → sum PROCESSES g + f p ≡ sum PROCESSES f + g p
all-change f g p l e = sum-change PROCESSES f g p l (λ q _ n. e q n)
