-- The way up, one step at a time: i of n steps are taken.
use mathlib.Core.Path.{◌≡◌}
use mathlib.Core.Bool.{Bool, true}
use mathlib.Core.List.{List}
use Prim.Native.Nat.{ℕ, suc, ◌+◌, ◌-◌, ◌≤◌, ◌<◌}
use native.Mathlib.Omega.{arith}
use lib.Dec.{eqb}
use lib.ListN.{get_or}
use borrow.Author.Tests.{eq-eqb, ne_eqb}
use Rattle.soundness.specs.Counted.{climbs_by}
use Rattle.rules.specs.Store.{slot}
use Rattle.rules.specs.declared.ids.Slot.{Slot}

module _ (P : List ℕ) (n i d : ℕ) where
  pub climb-top : {z : Bool} → climbs_by P (n - i) d ≡ z → i < n → d ≡ 0 → true ≡ z
  unfolding climbs_by
  climb-top v h e =
      let s : n - i ≡ suc (n - (i + 1)) = omega arith in
      let w = rw s at v in
      rw (eq-eqb d 0 e) at w

  pub climb-on : {z : Bool} → climbs_by P (n - i) d ≡ z → i < n → (d ≡ 0 → ⊥) → (r : Slot) → r ≡ slot (get_or P d 0) → climbs_by P (n - (i + 1)) r.0 ≡ z
  unfolding climbs_by
  climb-on v h e r q =
      let s : n - i ≡ suc (n - (i + 1)) = omega arith in
      let w = rw s at v in
      rw q (rw (ne_eqb d 0 e) at w)

  pub climb-end : {z : Bool} → climbs_by P (n - i) d ≡ z → n ≤ i → eqb d 0 ≡ z
  unfolding climbs_by
  climb-end v h =
      let s : n - i ≡ 0 = omega arith in
      rw s at v
