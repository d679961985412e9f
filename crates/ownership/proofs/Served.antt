-- A call and a borrowing read alike: what holds of the outcome of every decision that has passed its checks, and of the refusal of an unsound store, holds of
-- the action.
use mathlib.Core.List.{List, []}
use Prim.Native.Nat.{ℕ}
use Rattle.rules.specs.Store.{Store, Fixed, view}
use Rattle.rules.specs.Rom.{seen}
use Rattle.rules.specs.Step.{Outcome, outcome_of, into, handed, act, act_borrow, Action, Calls, Borrows, serve}
use Rattle.rules.specs.Decisions.{Decision}
use Rattle.rules.proofs.Passed.{Fit, fit-map, Permit, permitted, borrow-permitted}
use Rattle.preservation.proofs.SoundStore.{AllSound, means-sound}
use Rattle.preservation.proofs.TestedOnce.{untaken, step_by, borrow-by}
use Rattle.ownership.specs.History.{as_call}

pub serve-by : (K : Fixed) (s : Store) (a : Action) (P : Outcome → Type 0) →
    ((put : List ℕ → List ℕ) (d : Decision) → AllSound K s → Fit (Permit K (seen K.rom (view s)) (as_call a)) d → P (outcome_of K.rom s (as_call a) put d)) →
    ((buffer : List ℕ) → P (untaken s buffer)) → P (serve K s a)
unfolding serve as_call act act_borrow
serve-by K s (Calls c) P f g = step_by K s c P (λ e. f (into c.buffer) _ ((means-sound K s).holds e) (permitted K (seen K.rom (view s)) c)) (λ _. g c.buffer)
serve-by K s (Borrows p i n) P f g =
    borrow-by K s p i n P (λ e. f handed _ ((means-sound K s).holds e) (fit-map (λ m o e b. b.permit) (borrow-permitted K (seen K.rom (view s)) p i n))) (λ _. g [])
