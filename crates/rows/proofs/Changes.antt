-- Laws of lists of changes, by which what the callees ensure is put together.
use mathlib.Core.Path.{◌≡◌, refl}
use mathlib.Core.List.{List, [], ◌∷◌, ◌++◌}
use Rattle.rules.specs.Store.{Store, Change, change, apply_all}

apply_all-append : (xs ys : List Change) (t : Store) → apply_all (xs ++ ys) t ≡ apply_all ys (apply_all xs t)
unfolding apply_all
apply_all-append [] ys t = refl
apply_all-append (x ∷ xs) ys t = apply_all-append xs ys (change x t)

-- one list after another: s₁ is the store between them
pub in-turn : (xs ys : List Change) (s : Store) {s₁ t : Store} → t ≡ apply_all ys s₁ → s₁ ≡ apply_all xs s → t ≡ apply_all (xs ++ ys) s
in-turn xs ys s last first = rw (apply_all-append, ← first) last

-- a list after a single change
pub after-change : (x : Change) (xs : List Change) (s : Store) {s₁ t : Store} → t ≡ apply_all xs s₁ → s₁ ≡ change x s → t ≡ apply_all (x ∷ xs) s
unfolding apply_all
after-change x xs s last first = rw first at last
