-- Folds that look at every number or byte with no exit before the end: a flag keeps whether all passed so far, or `|` joins the bytes.
use mathlib.Core.Path.{◌≡◌, refl, ◌∙◌}
use mathlib.Core.Bool.{Bool, true, false, cond, ◌&&◌}
use mathlib.Core.List.{List, [], ◌∷◌}
use Prim.Native.Nat.{ℕ, zero, suc, ◌+◌, ◌-◌}
use native.Mathlib.Numerals.{add-one}
use native.Mathlib.Omega.{arith}
use borrow.Author.Tests.{eqb-true, eqb-false, ne_eqb}
use denote.Param.Members.{Mut}
use lib.Bits.{bit_or}
use lib.Dec.{eqb}
use Rattle.std.specs.declared.ops.Range.{Range}
use Rattle.std.specs.Fn.{Called}
use Rattle.std.specs.Iterator.{Drains}
use Rattle.std.specs.List.{range_with_len, FoldsTo}
use Rattle.std.specs.List.{fold as fold_list}
use Rattle.std.proofs.iter.Yields.{nat_range_steps}
use Rattle.std.proofs.lemmas.Nat.{le_or_l}
use Rattle.std.proofs.lemmas.Iterator.{YieldsList-from_range}
use Rattle.std.proofs.lemmas.Iterator.Consumers.{fold_from_yields_List}
use Rattle.rules.specs.Scan.{turns, fold, all}
use Rattle.rules.specs.Sound.{all_zero}

module _ (p : ℕ → Bool) where
  flags_listed : (f : Bool) (a n : ℕ) → fold_list (λ t x. t && p x) f (range_with_len a n) ≡ cond f (turns (λ j rest. cond (p j) rest false) a n true) false
  unfolding turns
  flags_listed true a zero = refl
  flags_listed false a zero = refl
  flags_listed f a (suc n) = flags_listed (f && p a) (a + 1) n ∙ by f (p a) _ ∙ rw add-one refl
    where
      by : (f b r : Bool) → cond (f && b) r false ≡ cond f (cond b r false) false
      by true b r = refl
      by false b r = refl

  pub flags_in_range : {F : Type 0} {g : Mut F (Bool × (ℕ × Unit {0})) Bool} {f : F} {s : Range ℕ} (a b : ℕ) {r : Bool} → (xs : List ℕ) × (q : F) × Drains nat_range_steps s xs × FoldsTo {P = F × Bool} (λ u x v. Called g u.0 (u.1, (x, tt)) v.1 v.0) (f, true) xs (q, r) → s ≡ record { start = a; end = b } → ((t : Bool) (x : ℕ) (u : Bool) (q : F) → Called g f (t, (x, tt)) u q → (q ≡ f) × (u ≡ (t && p x))) → r ≡ all p a b
  unfolding all fold
  flags_in_range a b ran e calls = fold_from_yields_List _ (λ t x. t && p x) true _ ran (YieldsList-from_range a b (b - a) e refl) calls ∙ flags_listed true a (b - a)

-- ---- bytes joined by `|`: the result is 0 where each is

or-zero : (a b : ℕ) → eqb (bit_or a b) 0 ≡ cond (eqb a 0) (eqb b 0) false
or-zero a b = by (eqb a 0) refl
  where
    none : bit_or a b ≡ 0 → a ≡ 0
    none e = omega (arith, le_or_l a b)

    by : (t : Bool) → eqb a 0 ≡ t → eqb (bit_or a b) 0 ≡ cond t (eqb b 0) false
    by true q = rw (eqb-true a 0 q)
    by false q = ne_eqb (bit_or a b) 0 (λ e. eqb-false a 0 q (none e))

joined-from : (s : ℕ) (xs : List ℕ) → eqb (fold_list bit_or s xs) 0 ≡ cond (eqb s 0) (all_zero xs) false
unfolding all_zero
joined-from s [] = by (eqb s 0)
  where
    by : (b : Bool) → b ≡ cond b true false
    by true = refl
    by false = refl
joined-from s (x ∷ xs) = joined-from (bit_or s x) xs ∙ rw (or-zero s x) (by (eqb s 0) (eqb x 0) _)
  where
    by : (a b r : Bool) → cond (cond a b false) r false ≡ cond a (cond b r false) false
    by true b r = refl
    by false b r = refl

pub joined_zero : (xs : List ℕ) → eqb (fold_list bit_or 0 xs) 0 ≡ all_zero xs
joined_zero xs = joined-from 0 xs
