use Rattle.std.proofs.Common.{ℕ, ◌≡◌, refl, Bool, true, false, [], ◌∷◌, arith, leb}
use Rattle.std.specs.Prelude.{None}
use Rattle.std.proofs.lemmas.Bool.{leb-true}
use Rattle.rules.specs.Choice.{every}
use Rattle.rules.specs.Rights.{mode_of}
use Rattle.rules.proofs.rights.OpenMode.new.Goals as goal
use Rattle.rules.proofs.rights.OpenMode.new.Goals.{in-1, in-2, in-3, in-4, in-10, in-11, in-12}

-- two tests of which not both pass
not-both : (a b : Bool) → (a ≡ true → b ≡ true → ⊥) → every (a ∷ b ∷ []) ≡ false
unfolding every
not-both true true h = absurd (h refl refl)
not-both true false h = refl
not-both false b h = refl

not_low : (n : ℕ) → (n ≡ 1 → ⊥) → (n ≡ 2 → ⊥) → (n ≡ 3 → ⊥) → (n ≡ 4 → ⊥) → every (leb 1 n ∷ leb n 4 ∷ []) ≡ false
not_low n n1 n2 n3 n4 = not-both _ _ (λ a b. omega (arith, leb-true 1 n a, leb-true n 4 b))

not-high : (n : ℕ) → (n ≡ 10 → ⊥) → (n ≡ 11 → ⊥) → (n ≡ 12 → ⊥) → every (leb 10 n ∷ leb n 12 ∷ []) ≡ false
not-high n n10 n11 n12 = not-both _ _ (λ a b. omega (arith, leb-true 10 n a, leb-true n 12 b))

unknown : (n : ℕ) → (n ≡ 1 → ⊥) → (n ≡ 2 → ⊥) → (n ≡ 3 → ⊥) → (n ≡ 4 → ⊥) → (n ≡ 10 → ⊥) → (n ≡ 11 → ⊥) → (n ≡ 12 → ⊥) → None ≡ mode_of n
unfolding mode_of
unknown n n1 n2 n3 n4 n10 n11 n12 = rw (not_low n n1 n2 n3 n4, not-high n n10 n11 n12) refl

pub returns : goal.returns
unfolding mode_of every
returns c = elim c.match-n.branch [
  | in-1 w ↦ rw (w.truncates-is, w.in-1.is) refl
  | in-2 w ↦ rw (w.truncates-is, w.in-2.is) refl
  | in-3 w ↦ rw (w.truncates-is, w.in-3.is) refl
  | in-4 w ↦ rw (w.truncates-is, w.in-4.is) refl
  | in-10 w ↦ rw (w.truncates-is, w.in-10.is) refl
  | in-11 w ↦ rw (w.truncates-is, w.in-11.is) refl
  | in-12 w ↦ rw (w.truncates-is, w.in-12.is) refl
]

pub returns-in_default : goal.returns-in_default
returns-in_default c = search unknown
