use Prim.Native.Nat.{ℕ, ◌≤◌}
use mathlib.Core.Path.{◌≡◌, ◌∙◌}
use mathlib.Core.List.{List}
use native.Mathlib.Omega.{arith}
use Rattle.rules.specs.Rom.{tree_in}
use Rattle.rules.specs.Paths.{names}
use Rattle.rules.specs.Walk.{start, walk, ROOT}
use Rattle.rules.specs.declared.request.Subject.{Subject}
use Rattle.rules.specs.declared.decision.Location.{Location}
use Rattle.rules.specs.declared.decision.Intent.{Intent}
use Rattle.rules.specs.Decisions.{Walk}
use Rattle.resolution.specs.declared.walk.Rest.{Rest}
use Rattle.resolution.specs.Walks.{rest_from, names_left, RestOf}
use Rattle.resolution.proofs.Walks.{rest_of, all_left}
use Rattle.resolution.proofs.walk.walk_names.Goals as goal

module _ (p : List ℕ) (rest : Rest) (e : rest ≡ rest_from p 0 1) where
  all : RestOf p rest
  all = rw e (rest_of p 0 1 (omega arith))

  module _ (root : Location) (d : root ≡ start 8) where
    follows : root.follows ≤ 8
    follows = let j : root.follows ≡ 8 = rw d in omega (arith, j)

    whole : (intent : Intent) (R F C Q : List ℕ) (who : Subject) (r : Walk) → r ≡ walk intent (tree_in R F C) Q who root rest.k (names_left p rest) → r ≡ walk intent (tree_in R F C) Q who ROOT 1 (names p)
    whole intent R F C Q who r x = x ∙ rw (d, e, all_left p)

pub walk_from-requires-clause-rest_of : goal.walk_from-requires-clause-rest_of
walk_from-requires-clause-rest_of c = search all

pub walk_from-requires-clause-follows_bound : goal.walk_from-requires-clause-follows_bound
walk_from-requires-clause-follows_bound c = search follows

pub returns : goal.returns
returns c = search whole
