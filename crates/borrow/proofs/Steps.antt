-- The steps of a borrowing read give what the rules give.
use Prim.Native.Nat.{ℕ}
use mathlib.Core.Path.{◌≡◌, refl}
use mathlib.Core.Bool.{Bool, true, false, cond}
use mathlib.Core.List.{List, []}
use Rattle.rules.specs.Store.{Fixed, Store, View, view}
use Rattle.rules.specs.Rom.{seen}
use Rattle.rules.specs.Calls.{Call}
use Rattle.rules.specs.Checks.{ofd_held}
use Rattle.rules.specs.Decide.{read_open, decide_read, decide_borrow}
use Rattle.rules.specs.Effects.{carry_out}
use Rattle.rules.specs.Sound.{sound}
use Rattle.rules.specs.Step.{refused_reply, reply_to, store_after, outcome_of, handed, read_of, act_borrow, step_borrow}
use Rattle.rules.specs.declared.ids.Pid.{Pid}
use Rattle.rules.specs.declared.ids.Fd.{Fd}
use Rattle.rules.specs.declared.ids.Ofd.{Ofd}
use Rattle.rules.specs.declared.refusal.Refusal.TheVariants.{Unsound}
use Rattle.rules.specs.declared.decision.Output.{Output}
use Rattle.rules.specs.declared.decision.Effect.{Effect}
use Rattle.rules.specs.Decisions.{Decision, Refused}
use Rattle.rules.proofs.Passed.{Fit, granting, refusing, need-fit}
use Rattle.borrow.specs.Lent.{LentBack, lent_back, of_outcome}
use Rattle.borrow.specs.Judged.{judged, refusal_of, bytes_lent, offset_moved, moved_on}

module _ (K : Fixed) (s : Store) (p : Pid) (i : Fd) (n : ℕ) where
  abbrev w : View
  w = seen K.rom (view s)

  -- all that is done is that the offset moves
  abbrev Moves : ℕ → Output → Effect → Type 0
  Moves n o e = (c : Call) (t : Store) → offset_moved (ofd_held (view s).desc p i) o t ≡ carry_out c e t

  moves-fit : Fit Moves (decide_borrow K w p i n)
  unfolding decide_borrow decide_read read_open
  moves-fit = need-fit _ _ _ (λ _. need-fit _ _ _ (λ _. need-fit _ _ _ (λ _. need-fit _ _ _ (λ _. need-fit _ _ _ (λ _. granting _ _ _ (λ c t. unfold offset_moved carry_out in refl))))))

  -- a decision in steps
  abbrev steps : Decision → LentBack
  steps d = lent_back (refusal_of d) (bytes_lent K.rom s.contents d) (moved_on (ofd_held (view s).desc p i) d s)

  decided : {d : Decision} → Fit Moves d → steps d ≡ of_outcome (outcome_of K.rom s (read_of p i n) handed d)
  unfolding refusal_of bytes_lent moved_on outcome_of reply_to store_after
  decided (granting _ _ _ m) = rw (m (read_of p i n) s)
  decided (refusing r k) = refl

  in-steps : steps (judged K s p i n) ≡ of_outcome (step_borrow K s p i n)
  unfolding judged step_borrow act_borrow
  in-steps = by (sound K s)
    where
      by : (b : Bool) → steps (cond b (decide_borrow K w p i n) (Refused Unsound 0))
          ≡ of_outcome (cond b (outcome_of K.rom s (read_of p i n) handed (decide_borrow K w p i n)) (record { reply = refused_reply Unsound 0 []; store = s }))
      by true = decided moves-fit
      by false = unfold refusal_of bytes_lent moved_on in refl

  pub lent_back_lem : (d : Decision) (e : Ofd) (f : ℕ) (bs : List ℕ) (t : Store) → d ≡ judged K s p i n → e ≡ ofd_held (view s).desc p i → f ≡ refusal_of d → bs ≡ bytes_lent K.rom s.contents d → t ≡ moved_on e d s
      → lent_back f bs t ≡ of_outcome (step_borrow K s p i n)
  lent_back_lem d e f bs t a b c g h = rw (c, g, h, b, a) in-steps
