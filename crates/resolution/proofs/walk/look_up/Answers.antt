use mathlib.Core.Path.{◌≡◌, refl, sym, ap, ◌∙◌}
use mathlib.Core.Bool.{true≢false}
use Rattle.std.specs.Prelude.{Result, Ok, Err, IsErrAnd}
use Rattle.std.specs.Result.{MatchResult, is_ok}
use Rattle.rules.specs.declared.refusal.Refusal.{Refusal}
use Rattle.rules.specs.Decisions.{stop}
use Rattle.std.proofs.Common.{rules}
use Rattle.rights.specs.Permissions.{Permission}
use Rattle.rights.proofs.Permissions.{asked}
use Rattle.rules.proofs.Choices.{passed_on}
use Rattle.resolution.specs.Walks.{lookup_by}
use Rattle.resolution.proofs.walk.look_up.Goals as goal

module _ {T F : Type 0} (m : Result T F) where
  passed : (p : Permission) → is_ok m ≡ is_ok p → (x : T) → m ≡ Ok x → p ≡ Ok tt
  passed (Ok u) e x h = refl
  passed (Err r) e x h = absurd (true≢false (ap is_ok (sym h) ∙ e))

  failed : (P : Unit {0} → Type 0) (Q : Refusal → F → Type 0) (p : Permission) (d : F) → is_ok m ≡ is_ok p → MatchResult p P (λ r. IsErrAnd m (Q r)) → m ≡ Err d → (r : Refusal) × (p ≡ Err r) × Q r d
  failed P Q (Ok u) d e h q = absurd (true≢false (sym e ∙ ap is_ok q))
  failed P Q (Err r) d e h q = (r, refl, rw q at h)

pub returns-then-not-is_directory : goal.returns-then-not-is_directory
unfolding lookup_by
returns-then-not-is_directory c = rw c.at.ensures (search asked)

pub returns-in_err-map_err : goal.returns-in_err-map_err
unfolding lookup_by
returns-in_err-map_err c =
    let (r, e, d) = failed c.map_err.result _ _ c.permission_over.result _ c.map_err.ensures.variant c.map_err.ensures.cases c.in_err-map_err.was in
    let q : c.in_err-map_err.field-0.0 ≡ stop r c.args.k = search (rules, d) in
    let x : c.permission_over.result ≡ Err r = e in
    rw (passed_on _ _ c.from_residual.ensures.1, q) (search asked)

pub returns : goal.returns
unfolding lookup_by
returns c = let e : c.permission_over.result ≡ Ok tt = passed c.map_err.result c.permission_over.result c.map_err.ensures.variant _ c.in_ok-map_err.was in rw (c.enter.ensures, c.find_in.ensures) (search asked)
