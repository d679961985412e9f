-- What the code's walk tests, in the rules' words.
use Prim.Native.Nat.{ℕ, ◌+◌, ◌-◌, ◌≤◌, ◌<◌}
use mathlib.Core.Path.{◌≡◌, refl, sym, ◌∙◌}
use mathlib.Core.Bool.{Bool, true, false, cond, false≢true}
use mathlib.Core.List.{List, [], ◌∷◌}
use native.Mathlib.Omega.{arith}
use borrow.Author.Tests.{le-leb, lt-leb, leb-true, leb-false, ltb-true, ltb-false}
use lib.Dec.{leb, ltb}
use lib.ListN.{length, drop}
use Rattle.rules.specs.Choice.{some}
use Rattle.rules.specs.Store.{Tree}
use Rattle.rules.specs.Paths.{Name, span, is_slash, not_slash, names}
use Rattle.rules.specs.Walk.{on_reached, deeper, here, walk_by, walk}
use Rattle.rules.specs.declared.request.Subject.{Subject}
use Rattle.rules.specs.declared.decision.Location.{Location}
use Rattle.rules.specs.declared.decision.Intent.{Intent}
use Rattle.rules.specs.declared.decision.Intent.TheVariants.{Follow}
use Rattle.rules.specs.Decisions.{Walk}
use Rattle.std.specs.Prelude.{Ok, Err}
use Rattle.resolution.specs.declared.walk.Rest.{Rest}
use Rattle.resolution.specs.PathNames.{name_at}
use Rattle.resolution.specs.Walks.{rest_from, none_left, names_left, RestOf}
use Rattle.resolution.proofs.Names.{names-zero, no_names, more-names, no-slashes, skip-names}

-- no name is left: the walk comes no further
pub on-last : (intent : Intent) (t : Tree) (Q : List ℕ) (who : Subject) (w : Walk) (k : ℕ) (ns : List Name) → ns ≡ [] → on_reached w (λ (at : Location). walk intent t Q who at k ns) ≡ w
unfolding on_reached walk_by
on-last intent t Q who (Ok at) k ns e = rw e
on-last intent t Q who (Err stop) k ns e = refl

pub deep_more : (d : ℕ) → d ≤ 8 → d + 1 ≡ deeper d
unfolding deeper
deep_more d h = rw (le-leb d 8 h)

pub deep-stays : (d : ℕ) → 8 < d → d ≡ deeper d
unfolding deeper
deep-stays d h = rw (lt-leb d 8 h)

-- ---- what is left of a path

module _ (p : List ℕ) where
  pub rest_of : (at k : ℕ) → k ≤ 10 → RestOf p (rest_from p at k)
  rest_of at k h = record { no_slash = no-slashes p at _ refl; few = h }

  pub all_left : names_left p (rest_from p 0 1) ≡ names p
  all_left = skip-names p 0 _ refl 9

  module _ (rest : Rest) where
    pub left-some : none_left p rest ≡ false → (rest.start < length p) × (rest.k ≤ 9)
    unfolding some
    left-some h = by (leb (length p) rest.start) refl (ltb 9 rest.k) refl h
      where
        by : (a : Bool) → leb (length p) rest.start ≡ a → (b : Bool) → ltb 9 rest.k ≡ b → some (a ∷ b ∷ []) ≡ false → (rest.start < length p) × (rest.k ≤ 9)
        by true e b f h = absurd (false≢true (sym h))
        by false e true f h = absurd (false≢true (sym h))
        by false e false f h = (leb-false (length p) rest.start e, ltb-false 9 rest.k f)

    module _ (r : RestOf p rest) where
      own : rest.start ≡ rest.start + span is_slash (drop rest.start p)
      own = omega (arith, r.no_slash)

      pub left-none : none_left p rest ≡ true → names_left p rest ≡ []
      unfolding some
      left-none h = by (leb (length p) rest.start) refl (ltb 9 rest.k) refl h
        where
          by : (a : Bool) → leb (length p) rest.start ≡ a → (b : Bool) → ltb 9 rest.k ≡ b → some (a ∷ b ∷ []) ≡ true → names_left p rest ≡ []
          by true e b f h = no_names p rest.start rest.start own (10 - rest.k) (leb-true (length p) rest.start e)
          by false e true f h = let z : 10 - rest.k ≡ 0 = omega (arith, ltb-true 9 rest.k f) in rw (z, names-zero)
          by false e false f h = absurd (false≢true h)

      -- the first of the names, and those after it
      pub left-more : none_left p rest ≡ false → names_left p rest ≡ name_at p rest.start ∷ names_left p (rest_from p (rest.start + span not_slash (drop rest.start p)) (rest.k + 1))
      left-more h =
          let m : rest.start + span not_slash (drop rest.start p) - rest.start ≡ span not_slash (drop rest.start p) = omega arith in
          more-names p rest.start rest.start own _ refl (10 - rest.k) (10 - (rest.k + 1)) (left-some h).0 (omega (arith, (left-some h).1)) ∙ rw (m, skip-names p (rest.start + span not_slash (drop rest.start p)) _ refl (10 - (rest.k + 1)))

      -- the last name is the one behind which none is left
      pub here-left : (l : Bool) → l ≡ none_left p rest → (intent : Intent) → here (names_left p rest) intent ≡ cond l intent Follow
      unfolding here
      here-left true z intent = rw (left-none (sym z))
      here-left false z intent = rw (left-more (sym z))
