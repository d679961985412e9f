-- A descriptor whose word is 0 is released by changing nothing.
use Prim.Native.Nat.{ℕ, zero, suc, ◌+◌, ◌*◌}
use mathlib.Core.Path.{◌≡◌, refl, ap}
use mathlib.Core.Bool.{Bool, true, false, cond}
use mathlib.Core.List.{List, [], ◌∷◌}
use borrow.Author.Tests.{eqb-true}
use lib.Dec.{eqb, ltb}
use lib.ListN.{get_or, set}
use Rattle.rules.specs.Layout.{PROCESS_WIDTH, PROCESS_DESCRIPTOR, DESCRIPTORS}
use Rattle.rules.specs.Store.{Store, desc_of, apply_all}
use Rattle.rules.specs.Checks.{held, releasing}
use Rattle.rules.specs.Effects.{release_changes, close_changes, released}
use Rattle.rules.specs.declared.ids.Pid.{Pid}

set_same : (xs : List ℕ) (k : ℕ) → get_or xs k 0 ≡ 0 → set xs k 0 ≡ xs
set_same [] k e = refl
set_same (x ∷ xs) zero e = rw e
set_same (x ∷ xs) (suc k) e = ap (λ (ys : List ℕ). x ∷ ys) (set_same xs k e)

desc-empty : (P : List ℕ) (p i : ℕ) → get_or P (PROCESS_WIDTH * p + (PROCESS_DESCRIPTOR + i)) 0 ≡ 0 → desc_of P p i ≡ 0
unfolding desc_of
desc-empty P p i e = by (ltb i DESCRIPTORS)
  where
    by : (t : Bool) → cond t (get_or P (PROCESS_WIDTH * p + (PROCESS_DESCRIPTOR + i)) 0) 0 ≡ 0
    by true = e
    by false = refl

pub empty-released : (p : Pid) (i : ℕ) (t : Store) → eqb (get_or t.processes (PROCESS_WIDTH * p.0 + (PROCESS_DESCRIPTOR + i)) 0) 0 ≡ true → t ≡ released p i t
unfolding released releasing held close_changes release_changes apply_all
empty-released p i t e =
    let z : get_or t.processes (PROCESS_WIDTH * p.0 + (PROCESS_DESCRIPTOR + i)) 0 ≡ 0 = eqb-true _ _ e in
    rw (desc-empty t.processes p.0 i z, set_same t.processes (PROCESS_WIDTH * p.0 + (PROCESS_DESCRIPTOR + i)) z)
