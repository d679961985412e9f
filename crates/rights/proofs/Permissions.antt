-- How `permission_over(..)?` meets what the rules make of the two answers, b of the bits and l of the label, for `search asked`. The answer p is
-- `by_both b l`: the laws name no table, so that the search reads b and l off the goal.
--     grants, forbids   what follows, or the refusal, against `allowed`
--     goes, stops       the same in a walk, against `searched` once its directory is one
use Prim.Native.Nat.{ℕ}
use mathlib.Core.Path.{◌≡◌, refl, sym, ap, ◌∙◌}
use mathlib.Core.Bool.{Bool, true, false, cond}
use Rattle.std.specs.Prelude.{Ok, Err, IsErrAnd}
use Rattle.rules.specs.Choice.{every}
use Rattle.rules.specs.Store.{Table, is_slot}
use Rattle.rules.specs.Rights.{WRITE}
use Rattle.rules.specs.Walk.{need_at, bits_allow}
use Rattle.rules.specs.Checks.{need}
use Rattle.rules.specs.DecidePaths.{may_name}
use Rattle.rules.specs.declared.ids.Slot.{Slot}
use Rattle.rules.specs.declared.request.Subject.{Subject}
use Rattle.rules.specs.declared.refusal.Refusal.{Refusal}
use Rattle.rules.specs.declared.refusal.Refusal.TheVariants.{BitsForbid, LabelForbids}
use Rattle.rules.specs.Decisions.{Walk, Stopped, Decision, Refused, at_no_name}
use Rattle.rules.proofs.Choices.{steps, passed_on}
use Rattle.rights.specs.Permissions.{Permission, by_both}

-- what follows, or the refusal
unfoldable pub if_allowed : Permission → Decision → Decision
if_allowed (Ok x) d = d
if_allowed (Err r) d = Refused r 0

unfoldable pub if_allowed_at : Permission → ℕ → Walk → Walk
if_allowed_at (Ok x) k w = w
if_allowed_at (Err r) k w = Stopped r k

pub allowed-by : (b l : Bool) (d : Decision) → need b BitsForbid (need l LabelForbids d) ≡ if_allowed (by_both b l) d
unfolding need by_both if_allowed
allowed-by true true d = refl
allowed-by true false d = refl
allowed-by false l d = refl

pub searched-by : (b l : Bool) (k : ℕ) (w : Walk) → need_at b BitsForbid k (need_at l LabelForbids k w) ≡ if_allowed_at (by_both b l) k w
unfolding need_at by_both if_allowed_at
searched-by true true k w = refl
searched-by true false k w = refl
searched-by false l k w = refl

module _ (b l : Bool) (p : Permission) (is : p ≡ by_both b l) where
  pub grants : (z d : Decision) → p ≡ Ok tt → z ≡ d → z ≡ need b BitsForbid (need l LabelForbids d)
  unfolding if_allowed
  grants z d e h = rw (allowed-by, ← is, e) h

  pub forbids : (r : Refusal) (d : Decision) → p ≡ Err r → Refused r 0 ≡ need b BitsForbid (need l LabelForbids d)
  unfolding if_allowed
  forbids r d e = rw (allowed-by, ← is, e)

  pub forbidden : (z d : Decision) (r : Refusal) → p ≡ Err r → IsErrAnd z (λ y. y ≡ at_no_name r) → z ≡ need b BitsForbid (need l LabelForbids d)
  forbidden z d r e h = passed_on z _ h ∙ forbids r d e

  pub goes : (z w : Walk) (k : ℕ) → p ≡ Ok tt → z ≡ w → z ≡ need_at b BitsForbid k (need_at l LabelForbids k w)
  unfolding if_allowed_at
  goes z w k e h = rw (searched-by, ← is, e) h

  pub stops : (r : Refusal) (w : Walk) (k : ℕ) → p ≡ Err r → Stopped r k ≡ need_at b BitsForbid k (need_at l LabelForbids k w)
  unfolding if_allowed_at
  stops r w k e = rw (searched-by, ← is, e)

-- ---- a name of the file in s: that it is of the store is asked first, and is the bits' refusal

module _ (file : Table) (who : Subject) (d s : Slot) (l r : Bool) (is : r ≡ is_slot s) where
  pub names-stored : (p : Permission) → r ≡ true → p ≡ by_both (bits_allow file who d WRITE) l → p ≡ by_both (may_name file who d s) l
  unfolding may_name every
  names-stored p e q = rw (sym is ∙ e) (q ∙ ap (λ (b : Bool). by_both b l) (same (bits_allow file who d WRITE)))
    where
      same : (b : Bool) → b ≡ cond b true false
      same true = refl
      same false = refl

  pub names-other : r ≡ false → Err BitsForbid ≡ by_both (may_name file who d s) l
  unfolding may_name every by_both
  names-other e = rw (sym is ∙ e) (by (bits_allow file who d WRITE))
    where
      by : (b : Bool) → Err BitsForbid ≡ by_both (cond b false false) l
      by true = refl
      by false = refl

pub ruleset asked = (grants, forbids, forbidden, goes, stops, steps)
