-- With a table of another length than the store's, or with a factory part that is not sound, every call and every borrowing read is refused with 1.
use mathlib.Core.Path.{◌≡◌, refl}
use mathlib.Core.Bool.{true}
use mathlib.Core.List.{List}
use Prim.Native.Nat.{ℕ, ◌+◌}
use lib.ListN.{length}
use Rattle.rules.specs.Layout.{RIGHTS_SIZE}
use Rattle.rules.specs.Store.{Store, Fixed}
use Rattle.rules.specs.Refusals.{refusal_number}
use Rattle.rules.specs.Sound.{policy_sound, sound}
use Rattle.rules.specs.Rom.{rom_sound}
use Rattle.rules.specs.Step.{Action, Calls, Borrows, serve}
use Rattle.preservation.specs.Claims.{sizes, SIZES}
use Rattle.preservation.proofs.Tests.{means-every, means-and, means-last, means-eq, means-test}
use Rattle.preservation.proofs.StoreChanges.{Sized}
use Rattle.preservation.proofs.SoundStore.{means-sound}
use Rattle.preservation.proofs.TestedOnce.{step_by, borrow-by}

policy-size : (Q : List ℕ) → policy_sound Q ≡ true → length Q ≡ RIGHTS_SIZE + RIGHTS_SIZE
unfolding policy_sound
policy-size Q e = ((means-every (means-and (means-eq (length Q) (RIGHTS_SIZE + RIGHTS_SIZE)) (means-and (means-test _) (means-last (means-test _))))).holds e).0

sound-sizes : (K : Fixed) (s : Store) → sound K s ≡ true → sizes K s ≡ SIZES
sound-sizes K s e =
    let w = (means-sound K s).holds e in
    let z : Sized s = w.store.sized in
    rw (z.files-size, z.contents-size, z.open-files-size, z.processes-size, policy-size K.policy w.policy)

-- a store that is not sound
unsound : (K : Fixed) (s : Store) (a : Action) → (sound K s ≡ true → ⊥) → (serve K s a).reply.refusal ≡ 1
unfolding serve refusal_number
unsound K s (Calls c) n = step_by K s c (λ x. x.reply.refusal ≡ 1) (λ e. absurd (n e)) (λ _. refl)
unsound K s (Borrows p i m) n = borrow-by K s p i m (λ x. x.reply.refusal ≡ 1) (λ e. absurd (n e)) (λ _. refl)

pub other-size : (K : Fixed) (s : Store) (a : Action) → (sizes K s ≡ SIZES → ⊥) → (serve K s a).reply.refusal ≡ 1
other-size K s a n = unsound K s a (λ e. n (sound-sizes K s e))

pub other-part : (K : Fixed) (s : Store) (a : Action) → (rom_sound K.rom ≡ true → ⊥) → (serve K s a).reply.refusal ≡ 1
other-part K s a n = unsound K s a (λ e. n ((means-sound K s).holds e).part)
