-- What each call and each borrowing read keeps, a list of them keeps.
use mathlib.Core.List.{List, [], ◌∷◌}
use Rattle.rules.specs.Store.{Store, Fixed}
use Rattle.rules.specs.Step.{Action, serve, final}

pub final-keeps : (K : Fixed) (P : Store → Type 0) → ((s : Store) (a : Action) → P s → P (serve K s a).store) → (s : Store) (xs : List Action) → P s → P (final K s xs)
unfolding final
final-keeps K P f s [] p = p
final-keeps K P f s (a ∷ xs) p = final-keeps K P f (serve K s a).store xs (f s a p)
