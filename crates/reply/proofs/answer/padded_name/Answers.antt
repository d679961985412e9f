use Prim.Native.Nat.{ℕ, zero, suc}
use mathlib.Core.Path.{◌≡◌, refl, ap}
use mathlib.Core.List.{List, [], ◌∷◌}
use lib.ListN.{set, take, replicate}
use lib.Seq.{sets, take-nil}
use Rattle.rules.specs.Directories.{padded}
use Rattle.reply.proofs.answer.padded_name.Goals as goal

sets-past : (x : ℕ) (l : List ℕ) (i : ℕ) (vs : List ℕ) → sets (x ∷ l) (suc i) vs ≡ x ∷ sets l i vs
sets-past x l i [] = refl
sets-past x l i (v ∷ vs) = sets-past x (set l i v) (suc i) vs

filled : (n : ℕ) (D : List ℕ) → sets (replicate n 0) 0 (take n D) ≡ padded n D
unfolding padded
filled zero D = refl
filled (suc n) [] = ap (λ (l : List ℕ). 0 ∷ l) (rw (take-nil n) at (filled n []))
filled (suc n) (x ∷ xs) = rw (sets-past x (replicate n 0) 0 (take n xs)) (ap (λ (l : List ℕ). x ∷ l) (filled n xs))

pub returns : goal.returns
returns c = rw (c.copy.ensures, c.upto.ensures) (filled 16 _)
