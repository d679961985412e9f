-- How a branch of the code meets a choice of the rules, for `search steps`. A test of the code is a flag b, or the answer r of a call that
-- ensures `r ≡ b`.
--     took, left              `if b`, taken or left, against `cond b x y`
--     every-, some-, implies- `if !b { return false; }`, `if b { return true; }`, `if a { return b; } true` against the lists of tests
--     refuse-, pass-          `if !b { return Refused(..); }` against `need` and `need_at`
use Prim.Native.Nat.{ℕ}
use mathlib.Core.Path.{◌≡◌, refl, sym, ap, ◌∙◌}
use mathlib.Core.Bool.{Bool, true, false, not, cond}
use mathlib.Core.List.{List, [], ◌∷◌}
use borrow.Author.Tests.{not-true, not-false}
use Rattle.std.specs.Prelude.{Result, Err, IsErrAnd}
use Rattle.std.proofs.lemmas.Result.{err_from_is_err_and}
use Rattle.rules.specs.Choice.{every, some, implies}
use Rattle.rules.specs.Walk.{need_at}
use Rattle.rules.specs.Checks.{need}
use Rattle.rules.specs.declared.refusal.Refusal.{Refusal}
use Rattle.rules.specs.declared.decision.Stop.{Stop}
use Rattle.rules.specs.Decisions.{Walk, Stopped, Decision, Refused, at_no_name}

module _ {A : Type 0} where
  pub took : (z x y : A) (b : Bool) → b ≡ true → z ≡ x → z ≡ cond b x y
  took z x y b e p = rw e p

  pub left : (z x y : A) (b : Bool) → b ≡ false → z ≡ y → z ≡ cond b x y
  left z x y b e p = rw e p

  pub took_of : (z x y : A) (b r : Bool) → r ≡ b → r ≡ true → z ≡ x → z ≡ cond b x y
  took_of z x y b r q e p = took z x y b (sym q ∙ e) p

  pub left-of : (z x y : A) (b r : Bool) → r ≡ b → r ≡ false → z ≡ y → z ≡ cond b x y
  left-of z x y b r q e p = left z x y b (sym q ∙ e) p

  pub not-took : (z x y : A) (b : Bool) → not b ≡ true → z ≡ y → z ≡ cond b x y
  not-took z x y b e p = left z x y b (not-true b e) p

  pub not_left : (z x y : A) (b : Bool) → not b ≡ false → z ≡ x → z ≡ cond b x y
  not_left z x y b e p = took z x y b (not-false b e) p

  pub took-not : (z x y : A) (b r : Bool) → r ≡ b → not r ≡ true → z ≡ y → z ≡ cond b x y
  took-not z x y b r q e p = left-of z x y b r q (not-true r e) p

  pub left_not : (z x y : A) (b r : Bool) → r ≡ b → not r ≡ false → z ≡ x → z ≡ cond b x y
  left_not z x y b r q e p = took_of z x y b r q (not-false r e) p

pub same_not : (r b : Bool) → r ≡ b → not r ≡ not b
same_not r b q = rw q

-- ---- lists of tests

pub every-last : (z b : Bool) → z ≡ b → z ≡ every (b ∷ [])
unfolding every
every-last z true e = e
every-last z false e = e

module _ (b : Bool) (ts : List Bool) where
  pub every-fails : b ≡ false → false ≡ every (b ∷ ts)
  unfolding every
  every-fails e = rw e

  pub every-passes : (z : Bool) → b ≡ true → z ≡ every ts → z ≡ every (b ∷ ts)
  unfolding every
  every-passes z e p = rw e p

  pub every-flag-no : not b ≡ true → false ≡ every (b ∷ ts)
  every-flag-no e = every-fails (not-true b e)

  pub every-flag-yes : (z : Bool) → not b ≡ false → z ≡ every ts → z ≡ every (b ∷ ts)
  every-flag-yes z e p = every-passes z (not-false b e) p

  pub every-no : (r : Bool) → r ≡ b → not r ≡ true → false ≡ every (b ∷ ts)
  every-no r q e = every-fails (sym q ∙ not-true r e)

  pub every-yes : (z r : Bool) → r ≡ b → not r ≡ false → z ≡ every ts → z ≡ every (b ∷ ts)
  every-yes z r q e p = every-passes z (sym q ∙ not-false r e) p

  pub some-passes : b ≡ true → true ≡ some (b ∷ ts)
  unfolding some
  some-passes e = rw e

  pub some-fails : (z : Bool) → b ≡ false → z ≡ some ts → z ≡ some (b ∷ ts)
  unfolding some
  some-fails z e p = rw e p

  pub some-yes : (r : Bool) → r ≡ b → r ≡ true → true ≡ some (b ∷ ts)
  some-yes r q e = some-passes (sym q ∙ e)

  pub some-no : (z r : Bool) → r ≡ b → r ≡ false → z ≡ some ts → z ≡ some (b ∷ ts)
  some-no z r q e p = some-fails z (sym q ∙ e) p

pub some-last : (z b : Bool) → z ≡ b → z ≡ some (b ∷ [])
unfolding some
some-last z true e = e
some-last z false e = e

module _ (a b : Bool) where
  pub implies-passes : (z : Bool) → a ≡ true → z ≡ b → z ≡ implies a b
  unfolding implies
  implies-passes z e p = rw e p

  pub implies-fails : a ≡ false → true ≡ implies a b
  unfolding implies
  implies-fails e = rw e

  pub implies-yes : (z r : Bool) → r ≡ a → r ≡ true → z ≡ b → z ≡ implies a b
  implies-yes z r q e p = implies-passes z (sym q ∙ e) p

  pub implies-no : (r : Bool) → r ≡ a → r ≡ false → true ≡ implies a b
  implies-no r q e = implies-fails (sym q ∙ e)

-- ---- checks in order

pub refuse-not : (b r : Bool) (f : Refusal) (d : Decision) → r ≡ b → not r ≡ true → Refused f 0 ≡ need b f d
unfolding need
refuse-not b r f d q e = rw (sym q ∙ not-true r e)

pub pass-not : (z d : Decision) (b r : Bool) (f : Refusal) → r ≡ b → not r ≡ false → z ≡ d → z ≡ need b f d
unfolding need
pass-not z d b r f q e p = rw (sym q ∙ not-false r e) p

pub refuse-flag : (b : Bool) (f : Refusal) (d : Decision) → not b ≡ true → Refused f 0 ≡ need b f d
refuse-flag b f d e = refuse-not b b f d refl e

pub pass-flag : (z d : Decision) (b : Bool) (f : Refusal) → not b ≡ false → z ≡ d → z ≡ need b f d
pass-flag z d b f e p = pass-not z d b b f refl e p

pub stop-not : (b r : Bool) (f : Refusal) (k : ℕ) (w : Walk) → r ≡ b → not r ≡ true → Stopped f k ≡ need_at b f k w
unfolding need_at
stop-not b r f k w q e = rw (sym q ∙ not-true r e)

pub go-not : (z w : Walk) (b r : Bool) (f : Refusal) (k : ℕ) → r ≡ b → not r ≡ false → z ≡ w → z ≡ need_at b f k w
unfolding need_at
go-not z w b r f k q e p = rw (sym q ∙ not-false r e) p

pub stop-flag : (b : Bool) (f : Refusal) (k : ℕ) (w : Walk) → not b ≡ true → Stopped f k ≡ need_at b f k w
stop-flag b f k w e = stop-not b b f k w refl e

pub go-flag : (z w : Walk) (b : Bool) (f : Refusal) (k : ℕ) → not b ≡ false → z ≡ w → z ≡ need_at b f k w
go-flag z w b f k e p = go-not z w b b f k refl e p

-- the same of a refusal that stands in a `Stop`
pub refused : (b r : Bool) (f : Refusal) (z : Stop) (d : Decision) → r ≡ b → r ≡ false → z ≡ at_no_name f → Err z ≡ need b f d
unfolding need
refused b r f z d q e s = rw (sym q ∙ e, s)

pub passed : (z d : Decision) (b r : Bool) (f : Refusal) → r ≡ b → r ≡ true → z ≡ d → z ≡ need b f d
unfolding need
passed z d b r f q e p = rw (sym q ∙ e) p

-- ---- what `?` passes on of an error

pub passed_on : {T E : Type 0} (r : Result T E) (e : E) → IsErrAnd r (λ y. y ≡ e) → r ≡ Err e
passed_on r e h = let d = err_from_is_err_and r h in d.1 ∙ ap Err d.2

pub ruleset flags = (took, left, not-took, not_left)

pub ruleset tests = (every-last, every-flag-no, every-flag-yes, every-no, every-yes, some-last, some-passes, some-fails, some-yes, some-no, implies-passes, implies-fails, implies-yes, implies-no)

pub ruleset checks = (refused, passed, passed_on, refuse-flag, pass-flag, refuse-not, pass-not, stop-flag, go-flag, stop-not, go-not)

pub ruleset steps = (flags, tests, checks, took_of, left-of, took-not, left_not, same_not)
