-- A scan for a free record finds the same in the part of the table that it looks at.
use mathlib.Core.Path.{◌≡◌, refl, sym, ◌∙◌, ap}
use mathlib.Core.Bool.{Bool, true, false, cond}
use mathlib.Core.List.{List}
use Prim.Native.Nat.{ℕ, suc, ◌+◌, ◌*◌, ◌<◌, ◌≤◌}
use native.Mathlib.Nat.{mul-le-mul_left, mul-suc}
use native.Mathlib.Omega.{arith}
use borrow.Author.Tests.{ltb-true}
use lib.Dec.{eqb, ltb}
use lib.ListN.{get_or, take}
use lib.Seq.{get_or-take}
use Rattle.rules.specs.Layout.{FILE_WIDTH, FILE_KIND, FREE, SLOTS, OPEN_FILE_WIDTH, OPEN_REFERENCES, OPEN_FILES}
use Rattle.rules.specs.Scan.{first}
use Rattle.rules.specs.Store.{tab, slot, ofd_of}
use Rattle.rules.specs.Rom.{files_in}
use Rattle.rules.specs.Checks.{slot_free, ofd_free, free_slot, free_ofd}
use Rattle.rules.specs.declared.ids.Slot.{Slot}
use Rattle.rules.specs.declared.ids.Ofd.{Ofd}
use Rattle.rules.proofs.Scans.{first-same}
use Rattle.rules.proofs.Seen.{free-slot-seen}

-- the first n records of w words, taken alone
module _ (w n : ℕ) (T : List ℕ) where
  abbrev part : List ℕ
  part = take (w * n) T

  part_at : (i k : ℕ) → i < n → tab w part i k ≡ tab w T i k
  part_at i k l = by (ltb k w) refl
    where
      by : (b : Bool) → ltb k w ≡ b → cond b (get_or part (w * i + k) 0) 0 ≡ cond b (get_or T (w * i + k) 0) 0
      by false e = refl
      by true e =
          let m : w * suc i ≤ w * n = mul-le-mul_left w l in
          get_or-take (w * n) T (w * i + k) 0 (omega (arith, m, mul-suc w i, ltb-true k w e))

  -- a test of column k
  part-first : (k : ℕ) (t : ℕ → Bool) → first (λ i. t (tab w part i k)) 0 n ≡ first (λ i. t (tab w T i k)) 0 n
  part-first k t = first-same (λ i. t (tab w part i k)) (λ i. t (tab w T i k)) n (λ i l. ap t (part_at i k l))

-- and in what is stored the same as in what is seen
pub slot-all : (F : List ℕ) (r : Slot) → r ≡ free_slot (tab FILE_WIDTH F) → r ≡ free_slot (files_in F)
slot-all F r e = e ∙ sym (free-slot-seen (tab FILE_WIDTH F))

pub slot-part : (F : List ℕ) (r : Slot) → r ≡ free_slot (tab FILE_WIDTH (part FILE_WIDTH SLOTS F)) → r ≡ free_slot (files_in F)
unfolding slot_free
slot-part F r e = slot-all F r (e ∙ ap slot (part-first FILE_WIDTH SLOTS F FILE_KIND (λ v. eqb v FREE)))

pub ofd-part : (O : List ℕ) (r : Ofd) → r ≡ free_ofd (tab OPEN_FILE_WIDTH (part OPEN_FILE_WIDTH OPEN_FILES O)) → r ≡ free_ofd (tab OPEN_FILE_WIDTH O)
unfolding ofd_free
ofd-part O r e = e ∙ ap ofd_of (part-first OPEN_FILE_WIDTH OPEN_FILES O OPEN_REFERENCES (λ v. eqb v 0))
