-- A refused call leaves the store and the buffer as they were; a refused borrowing read the store, and it hands back nothing.
use mathlib.Core.Path.{◌≡◌, refl}
use mathlib.Core.List.{List, []}
use Prim.Native.Nat.{ℕ}
use Rattle.std.specs.Prelude.{Ok, Err}
use Rattle.rules.specs.Store.{Store, Fixed, view}
use Rattle.rules.specs.Refusals.{GRANTED}
use Rattle.rules.specs.Rom.{seen}
use Rattle.rules.specs.Calls.{Call}
use Rattle.rules.specs.Decide.{decide, decide_borrow}
use Rattle.rules.specs.Step.{Outcome, reply_to, store_after, outcome_of, into, act, step, handed, read_of, act_borrow, step_borrow}
use Rattle.rules.specs.declared.ids.Pid.{Pid}
use Rattle.rules.specs.declared.ids.Fd.{Fd}
use Rattle.rules.specs.Decisions.{Decision}
use Rattle.preservation.specs.Claims.{IsGranted, IsLent}
use Rattle.preservation.proofs.TestedOnce.{step_by, borrow-by}

-- refused, x leaves the store s and the buffer
abbrev Leaves : Store → (buffer : List ℕ) → Outcome → Type 0
Leaves s buffer x = (x.reply.refusal ≡ GRANTED → ⊥) → (x.store ≡ s) × (x.reply.buffer ≡ buffer)

decided : (R : List ℕ) (s : Store) (c : Call) (put : List ℕ → List ℕ) (d : Decision) → Leaves s (put []) (outcome_of R s c put d)
unfolding outcome_of reply_to store_after
decided R s c put (Err stop) f = (refl, refl)
decided R s c put (Ok grant) f = absurd (f refl)

module _ (K : Fixed) (s : Store) where
  pub refused-call : (c : Call) → (IsGranted K s c → ⊥) → ((step K s c).store ≡ s) × ((step K s c).reply.buffer ≡ c.buffer)
  refused-call c = step_by K s c (Leaves s c.buffer) (λ _. unfold act in decided K.rom s c (into c.buffer) (decide K (seen K.rom (view s)) c)) (λ _ _. (refl, refl))

  pub refused-borrow : (p : Pid) (i : Fd) (n : ℕ) → (IsLent K s p i n → ⊥) → ((step_borrow K s p i n).store ≡ s) × ((step_borrow K s p i n).reply.buffer ≡ [])
  refused-borrow p i n = borrow-by K s p i n (Leaves s []) (λ _. unfold act_borrow in decided K.rom s (read_of p i n) handed (decide_borrow K (seen K.rom (view s)) p i n)) (λ _ _. (refl, refl))
