-- A call, or a borrowing read, is `act` or `act_borrow` where the store is sound and a refusal where it is not; so a list of them on a sound store needs one
-- test.
use mathlib.Core.Path.{◌≡◌, refl, ap, ◌∙◌}
use mathlib.Core.Bool.{Bool, true, false, cond}
use mathlib.Core.List.{List, [], ◌∷◌}
use Prim.Native.Nat.{ℕ}
use Rattle.rules.specs.Store.{Store, Fixed}
use Rattle.rules.specs.Sound.{sound}
use Rattle.rules.specs.Calls.{Call}
use Rattle.rules.specs.Step.{Outcome, Session, refused_reply, act, step, act_borrow, step_borrow, Action, Calls, Borrows, serve, answers, final, run}
use Rattle.rules.specs.declared.ids.Pid.{Pid}
use Rattle.rules.specs.declared.ids.Fd.{Fd}
use Rattle.rules.specs.declared.refusal.Refusal.TheVariants.{Unsound}
use Rattle.preservation.specs.Claims.{act_serve, act_answers, act_final, act_run}
use Rattle.preservation.proofs.Preserved.{serve-sound}

-- the refusal, with the buffer as lent: a borrowing read has none
abbrev pub untaken : Store → (buffer : List ℕ) → Outcome
untaken s buffer = record { reply = refused_reply Unsound 0 buffer; store = s }

-- ---- one

module _ (K : Fixed) (s : Store) where
  tested-by : (made : Outcome) (buffer : List ℕ) (P : Outcome → Type 0) → (sound K s ≡ true → P made) → (sound K s ≡ false → P (untaken s buffer)) → P (cond (sound K s) made (untaken s buffer))
  tested-by made buffer P f g = by (sound K s) refl
    where
      by : (b : Bool) → sound K s ≡ b → P (cond b made (untaken s buffer))
      by true e = f e
      by false e = g e

  -- what holds of `act` on a sound store, and of the refusal on any other, holds of the call
  pub step_by : (c : Call) (P : Outcome → Type 0) → (sound K s ≡ true → P (act K s c)) → (sound K s ≡ false → P (untaken s c.buffer)) → P (step K s c)
  unfolding step
  step_by c = tested-by (act K s c) c.buffer

  pub borrow-by : (p : Pid) (i : Fd) (n : ℕ) (P : Outcome → Type 0) → (sound K s ≡ true → P (act_borrow K s p i n)) → (sound K s ≡ false → P (untaken s [])) → P (step_borrow K s p i n)
  unfolding step_borrow
  borrow-by p i n = tested-by (act_borrow K s p i n) []

  pub tested-call : (c : Call) → sound K s ≡ true → step K s c ≡ act K s c
  unfolding step
  tested-call c e = rw e

  pub tested-borrow : (p : Pid) (i : Fd) (n : ℕ) → sound K s ≡ true → step_borrow K s p i n ≡ act_borrow K s p i n
  unfolding step_borrow
  tested-borrow p i n e = rw e

  tested : (a : Action) → sound K s ≡ true → serve K s a ≡ act_serve K s a
  unfolding serve act_serve
  tested (Calls c) e = tested-call c e
  tested (Borrows p i n) e = tested-borrow p i n e

-- ---- a list

pub tested-once : (K : Fixed) (s : Store) (xs : List Action) → sound K s ≡ true → run K s xs ≡ act_run K s xs
unfolding answers final act_answers act_final
tested-once K s [] e = refl
tested-once K s (a ∷ xs) e =
    ap (λ (r : Session). record { replies = (serve K s a).reply ∷ r.replies; store = r.store }) (tested-once K (serve K s a).store xs (serve-sound K s a e))
    ∙ ap (λ (x : Outcome). record { replies = x.reply ∷ act_answers K x.store xs; store = act_final K x.store xs }) (tested K s a e)
