-- A line of the table holds if its rows hold of `act` and each store that a call finds is sound. A row that leaves the store as it is needs no
-- second test, and neither do the policy and the console: each is tested once.
use Prim.Native.Nat.{ℕ}
use mathlib.Core.Path.{◌≡◌, refl, sym, ap₂, subst}
use mathlib.Core.Bool.{Bool, true, false, cond}
use mathlib.Core.List.{List, [], ◌∷◌}
use lib.Dec.{T, eqb, eqb→eq}
use Rattle.rules.specs.Choice.{every}
use Rattle.rules.specs.Store.{Store, store}
use Rattle.rules.specs.Sound.{sound, policy_sound}
use Rattle.rules.specs.Step.{Outcome, act}
use Rattle.rules.specs.Console.{console, console_fixed, console_policy}
use Rattle.rules.proofs.Tests.{test}
use Rattle.cases.specs.Rows.{Now, Row, with_all, same, same_slots, same_store, row_holds, line_holds, holds}
use Rattle.cases.proofs.Quick.{quick_sound, both-pass, no-prompts, sound-of, step-act}

-- a test that is needed only if rows follow
unfoldable pub needed : List Row → Bool → Bool
needed [] b = true
needed (r ∷ rs) b = b

-- what follows a row: on the store before it if it leaves that as it is, else on the store after it, which is tested
unfoldable pub onward : List Now → List Row → (before after : Store) → (Store → Bool) → Bool
onward [] rs before after next = next before
onward (n ∷ ns) rs before after next = every (needed rs (quick_sound [] after) ∷ next after ∷ [])

unfoldable pub check : Store → List Row → Bool
check s [] = true
check s (r ∷ rs) = let x = act console_fixed s r.call in every (row_holds s x r ∷ onward r.leaves rs s x.store (λ t. check t rs) ∷ [])

-- ---- lists and stores that compare as the same are the same

same-eq : (xs ys : List ℕ) → same xs ys ≡ true → xs ≡ ys
unfolding same
same-eq [] [] e = refl
same-eq [] (y ∷ ys) e = absurd (subst T (sym e) tt)
same-eq (x ∷ xs) [] e = absurd (subst T (sym e) tt)
same-eq (x ∷ xs) (y ∷ ys) e = by (eqb x y) refl e (same-eq xs ys)
  where
    by : (b : Bool) → eqb x y ≡ b → cond b (same xs ys) false ≡ true → (same xs ys ≡ true → xs ≡ ys) → x ∷ xs ≡ y ∷ ys
    by true q h rest = ap₂ (λ (a : ℕ) (l : List ℕ). a ∷ l) (eqb→eq x y (subst T (sym q) tt)) (rest h)
    by false q h rest = absurd (subst T (sym h) tt)

store-eq : {F F' C C' E E' P P' : List ℕ} → F ≡ F' → C ≡ C' → E ≡ E' → P ≡ P' → store F C E P ≡ store F' C' E' P'
store-eq p q r u = rw (p, q, r, u)

same-store : (s t : Store) → same_store s t ≡ true → s ≡ t
unfolding same_store same_slots
same-store s t e =
    let slots = test 0 _ e in
    store-eq (same-eq _ _ (test 0 _ slots)) (same-eq _ _ (test 1 _ slots))
    (same-eq _ _ (test 1 _ e)) (same-eq _ _ (test 2 _ e))

-- ---- lines

needed_of : (rs : List Row) {b : Bool} → b ≡ true → needed rs b ≡ true
unfolding needed
needed_of [] e = refl
needed_of (r ∷ rs) e = e

-- a row that leaves nothing other leaves the store as it is
left_alone : (s : Store) (x : Outcome) (r : Row) → r.leaves ≡ [] → row_holds s x r ≡ true → x.store ≡ s
unfolding row_holds with_all
left_alone s x r e h = same-store x.store s (rw e at (test 1 _ h))

module _ (policy : policy_sound console_policy ≡ true) where
  needed-sound : (rs : List Row) (s : Store) → needed rs (quick_sound [] s) ≡ true → needed rs (sound console_fixed s) ≡ true
  unfolding needed
  needed-sound [] s e = refl
  needed-sound (r ∷ rs) s e = sound-of console_fixed policy no-prompts s e

  -- after a row
  onward-holds :
      (now : List Now) (rs : List Row) (before after : Store) → (now ≡ [] → after ≡ before) → sound console_fixed before ≡ true →
      ((s : Store) → needed rs (sound console_fixed s) ≡ true → check s rs ≡ true → line_holds s rs ≡ true) →
      onward now rs before after (λ t. check t rs) ≡ true → line_holds after rs ≡ true
  unfolding onward
  onward-holds [] rs before after alone e rest h = subst (λ (s : Store). line_holds s rs ≡ true) (sym (alone refl)) (rest before (needed_of rs e) h)
  onward-holds (n ∷ ns) rs before after alone e rest h = rest after (needed-sound rs after (test 0 _ h)) (test 1 _ h)

  pub line-holds : (rs : List Row) (s : Store) → needed rs (sound console_fixed s) ≡ true → check s rs ≡ true → line_holds s rs ≡ true
  unfolding line_holds check needed
  line-holds [] s e h = refl
  line-holds (r ∷ rs) s e h =
      let row : row_holds s (act console_fixed s r.call) r ≡ true = test 0 _ h in
      rw (step-act console_fixed s r.call e)
      (both-pass row
      (onward-holds r.leaves rs s (act console_fixed s r.call).store (λ q. left_alone s (act console_fixed s r.call) r q row) e (line-holds rs)
      (test 1 _ h)))

  pub more : (l : List Row) (ls : List (List Row)) → sound console_fixed console ≡ true → check console l ≡ true → holds ls ≡ true → holds (l ∷ ls) ≡ true
  unfolding holds
  more l ls e h rest = both-pass (line-holds l console (needed_of l e) h) rest
