-- Laws of a borrowing read on parts of the tables.
use Prim.Native.Nat.{ℕ, min}
use mathlib.Core.Path.{◌≡◌, ap}
use mathlib.Core.List.{List, ◌++◌}
use lib.ListN.{length, take, drop, take-append-drop}
use Rattle.rules.specs.Store.{fixed, store}
use Rattle.rules.specs.Step.{step_borrow}
use Rattle.rules.specs.declared.ids.Pid.{Pid}
use Rattle.rules.specs.declared.ids.Fd.{Fd}
use Rattle.borrow.specs.Lent.{LentBack, lent_back, of_outcome}
use Rattle.recorded.specs.declared.records.Sizes.{Sizes}
use Rattle.recorded.specs.Called.{put_back}
use Rattle.recorded.specs.Borrowed.{borrowed_on}
use Rattle.recorded.proofs.CallLaws.{take-least, drop-least}

module _ (n : Sizes) (F C E P Q R : List ℕ) (p : Pid) (i : Fd) (count : ℕ) {f e q : ℕ} (hf : f ≡ min n.files (length F)) (he : e ≡ min n.open_files (length E)) (hq : q ≡ min n.processes (length P))
    {C₁ Q₁ : List ℕ} (h_c : C₁ ≡ take n.contents C) (h_q : Q₁ ≡ take n.policy Q) {r : ℕ} {b E' : List ℕ}
    (h : lent_back r b (store (take f F) C₁ E' (take q P)) ≡ of_outcome (step_borrow (fixed Q₁ R) (store (take f F) C₁ (take e E) (take q P)) p i count)) where
  part : lent_back r b (store (take n.files F) (take n.contents C) E' (take n.processes P)) ≡ of_outcome (step_borrow (fixed (take n.policy Q) R) (store (take n.files F) (take n.contents C) (take n.open_files E) (take n.processes P)) p i count)
  part = rw (take-least n.files F hf, take-least n.open_files E he, take-least n.processes P hq, h_c, h_q) at h

  whole : lent_back r b (put_back n (store (take n.files F) (take n.contents C) E' (take n.processes P)) (store F C E P)) ≡ borrowed_on n Q R (store F C E P) p i count
  unfolding borrowed_on
  whole = ap (λ (l : LentBack). lent_back l.refusal l.bytes (put_back n l.store (store F C E P))) part

  -- what is only read comes back as it was
  pub borrowed : lent_back r b (store F C (E' ++ drop e E) P) ≡ borrowed_on n Q R (store F C E P) p i count
  borrowed = rw (drop-least n.open_files E he) (rw (take-append-drop n.files F, take-append-drop n.contents C, take-append-drop n.processes P) at whole)
