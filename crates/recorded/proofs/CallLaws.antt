-- Laws of a call on parts of the tables.
use Prim.Native.Nat.{ℕ, min, ◌≤◌, ◌<◌}
use mathlib.Core.Path.{◌≡◌, refl, sym, ◌∙◌, ap}
use mathlib.Core.Bool.{Bool, true, false}
use mathlib.Core.List.{List, ◌++◌}
use native.Mathlib.Omega.{arith}
use borrow.Author.Tests.{leb-true, leb-false}
use lib.Dec.{leb}
use lib.ListN.{length, take, drop, drop_of_length-le}
use Rattle.rules.specs.Store.{fixed, store}
use Rattle.rules.specs.Calls.{Call}
use Rattle.rules.specs.Step.{step}
use Rattle.rules.specs.declared.answer.Answer.{Answer}
use Rattle.rules.proofs.Lists.{take_all}
use Rattle.store.specs.Lent.{Lent, lent, lent_of}
use Rattle.recorded.specs.declared.records.Sizes.{Sizes}
use Rattle.recorded.specs.Called.{put_back, called_on}

-- a part of a table is no longer than the table
module _ (m : ℕ) (X : List ℕ) {n : ℕ} (e : n ≡ min m (length X)) where
  pub take-least : take n X ≡ take m X
  take-least = by (leb m (length X)) refl
    where
      by : (t : Bool) → leb m (length X) ≡ t → take n X ≡ take m X
      by true h = let l : m ≤ length X = leb-true m (length X) h in let q : n ≡ m = omega arith in rw q
      by false h = let l : length X < m = leb-false m (length X) h in take_all X n (omega arith) ∙ sym (take_all X m (omega arith))

  pub drop-least : drop n X ≡ drop m X
  drop-least = by (leb m (length X)) refl
    where
      by : (t : Bool) → leb m (length X) ≡ t → drop n X ≡ drop m X
      by true h = let l : m ≤ length X = leb-true m (length X) h in let q : n ≡ m = omega arith in rw q
      by false h =
          let l : length X < m = leb-false m (length X) h in
          let a : length X ≤ n = omega arith in
          let b : length X ≤ m = omega arith in
          drop_of_length-le X a ∙ sym (drop_of_length-le X b)

module _ (n : Sizes) (F C E P Q R : List ℕ) (c : Call) {f k e p : ℕ} (hf : f ≡ min n.files (length F)) (hk : k ≡ min n.contents (length C)) (he : e ≡ min n.open_files (length E))
    (hp : p ≡ min n.processes (length P)) {q : List ℕ} (hq : q ≡ take n.policy Q) {a : Answer} {b F' C' E' P' : List ℕ}
    (h : lent a b (store F' C' E' P') ≡ lent_of (step (fixed q R) (store (take f F) (take k C) (take e E) (take p P)) c)) where
  pub called : lent a b (store (F' ++ drop f F) (C' ++ drop k C) (E' ++ drop e E) (P' ++ drop p P)) ≡ called_on n Q R (store F C E P) c
  unfolding called_on
  called =
      rw (drop-least n.files F hf, drop-least n.contents C hk, drop-least n.open_files E he, drop-least n.processes P hp)
      (ap (λ (l : Lent). lent l.answer l.buffer (put_back n l.store (store F C E P)))
      (rw (take-least n.files F hf, take-least n.contents C hk, take-least n.open_files E he, take-least n.processes P hp, hq) at h))
