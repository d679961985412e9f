-- What a chain over the numbers a, a + 1, .. up to and without b gives, as a scan: one law for each of `all`, `any`, `find` and `filter` with `count`.
use mathlib.Core.Path.{◌≡◌, refl, ◌∙◌, sym}
use mathlib.Core.Bool.{Bool, true, false, cond, ◌&&◌, ◌||◌}
use mathlib.Core.List.{List, ◌∷◌}
use Prim.Native.Nat.{ℕ, zero, suc, ◌+◌, ◌-◌}
use native.Mathlib.Numerals.{add-one}
use native.Mathlib.Omega.{arith}
use lib.ListN.{length}
use denote.Param.Members.{Mut}
use denote.Ref.{Bor}
use Rattle.std.specs.declared.ops.Range.{Range}
use Rattle.std.specs.declared.iter.Filter.{Filter}
use Rattle.std.specs.Prelude.{Option, Some, None, MatchOption}
use Rattle.std.specs.Bool.{⊤}
use Rattle.std.specs.Fn.{Called, CalledAt}
use Rattle.std.specs.Iterator.{YieldsThen, Drains}
use Rattle.std.specs.List.{range_with_len, list_all, list_any, find, filter, FoldsTo}
use Rattle.std.specs.Option.{unwrap_or, option_map}
use Rattle.std.proofs.iter.Yields.{nat_range_steps}
use Rattle.std.proofs.lemmas.Iterator.{YieldsList-from_range}
use Rattle.std.proofs.lemmas.Iterator.Search.{all_from_yields_List, any_from_yields_List, find_from_yields_List}
use Rattle.std.proofs.lemmas.Iterator.Consumers.{count_from_yields_List, YieldsList-from_filter}
use Rattle.std.specs.Iterator.Adapters.{filter_source, filter_callee, filter_steps}
use Rattle.rules.specs.Scan.{turns, fold, all, any, first, count}

module _ (p : ℕ → Bool) where
  all_listed : (a n : ℕ) → list_all p (range_with_len a n) ≡ turns (λ j rest. cond (p j) rest false) a n true
  unfolding turns
  all_listed a zero = refl
  all_listed a (suc n) = by (p a) (all_listed (a + 1) n)
    where
      by : (b : Bool) {r : Bool} → r ≡ turns (λ j rest. cond (p j) rest false) (a + 1) n true → (b && r) ≡ cond b (turns (λ j rest. cond (p j) rest false) (suc a) n true) false
      by true e = e ∙ rw add-one refl
      by false e = refl

  any_listed : (a n : ℕ) → list_any p (range_with_len a n) ≡ turns (λ j rest. cond (p j) true rest) a n false
  unfolding turns
  any_listed a zero = refl
  any_listed a (suc n) = by (p a) (any_listed (a + 1) n)
    where
      by : (b : Bool) {r : Bool} → r ≡ turns (λ j rest. cond (p j) true rest) (a + 1) n false → (b || r) ≡ cond b true (turns (λ j rest. cond (p j) true rest) (suc a) n false)
      by true e = refl
      by false e = e ∙ rw add-one refl

  count_listed : (a n : ℕ) → length (filter p (range_with_len a n)) ≡ turns (λ j rest. cond (p j) (1 + rest) rest) a n 0
  unfolding turns
  count_listed a zero = refl
  count_listed a (suc n) = by (p a) (filter p (range_with_len (a + 1) n)) (count_listed (a + 1) n)
    where
      by : (b : Bool) (xs : List ℕ) → length xs ≡ turns (λ j rest. cond (p j) (1 + rest) rest) (a + 1) n 0 → length (cond b (a ∷ xs) xs) ≡ cond b (1 + turns (λ j rest. cond (p j) (1 + rest) rest) (suc a) n 0) (turns (λ j rest. cond (p j) (1 + rest) rest) (suc a) n 0)
      by true xs e = let s : length xs ≡ turns (λ j rest. cond (p j) (1 + rest) rest) (suc a) n 0 = e ∙ rw add-one refl in omega arith
      by false xs e = e ∙ rw add-one refl

  find_listed : (a n z : ℕ) → unwrap_or (find p (range_with_len a n)) z ≡ turns (λ j rest. cond (p j) j rest) a n z
  unfolding turns
  find_listed a zero z = refl
  find_listed a (suc n) z = by (p a) (find p (range_with_len (a + 1) n)) (find_listed (a + 1) n z)
    where
      by : (b : Bool) (o : Option ℕ) → unwrap_or o z ≡ turns (λ j rest. cond (p j) j rest) (a + 1) n z → unwrap_or (cond b (Some a) o) z ≡ cond b a (turns (λ j rest. cond (p j) j rest) (suc a) n z)
      by true o e = refl
      by false o e = e ∙ rw add-one refl

module _ {F : Type 0} {g : Mut F (ℕ × Unit {0}) Bool} {s u : Range ℕ} {f : F} (p : ℕ → Bool) (a b : ℕ) where
  pub all_in_range : {r : Bool} → (xs : List ℕ) × (o : Option ℕ) × (j : F) × YieldsThen nat_range_steps s xs o u × FoldsTo (λ p x q. Called g p (x, tt) true q) f xs j × MatchOption o (r ≡ true) (λ x. (r ≡ false) × ((h : F) × Called g j (x, tt) false h)) → s ≡ record { start = a; end = b } → ((x : ℕ) (t : Bool) (q : F) → Called g f (x, tt) t q → (q ≡ f) × (t ≡ p x)) → r ≡ all p a b
  unfolding all fold
  all_in_range ran e calls = all_from_yields_List p u f _ ran (YieldsList-from_range a b (b - a) e refl) calls ∙ all_listed p a (b - a)

  pub any_in_range : {r : Bool} → (xs : List ℕ) × (o : Option ℕ) × (j : F) × YieldsThen nat_range_steps s xs o u × FoldsTo (λ p x q. Called g p (x, tt) false q) f xs j × MatchOption o (r ≡ false) (λ x. (r ≡ true) × ((h : F) × Called g j (x, tt) true h)) → s ≡ record { start = a; end = b } → ((x : ℕ) (t : Bool) (q : F) → Called g f (x, tt) t q → (q ≡ f) × (t ≡ p x)) → r ≡ any p a b
  unfolding any fold
  any_in_range ran e calls = any_from_yields_List p u f _ ran (YieldsList-from_range a b (b - a) e refl) calls ∙ any_listed p a (b - a)

module _ {F : Type 0} {g : Mut F (Bor ℕ × Unit {0}) Bool} {f : F} (p : ℕ → Bool) (a b : ℕ) (calls : (x : ℕ) (t : Bool) (q : F) → CalledAt g f x t q → (q ≡ f) × (t ≡ p x)) where
  same-option : (o : Option ℕ) → option_map (λ x. x) o ≡ o
  same-option None = refl
  same-option (Some x) = refl

  pub find_in_range : {s : Range ℕ} (u : Range ℕ) (r : Option ℕ) → (xs : List ℕ) × (j : F) × YieldsThen nat_range_steps s xs r u × FoldsTo (λ p x q. CalledAt g p x false q) f xs j × MatchOption r ⊤ (λ x. (h : F) × CalledAt g j x true h) → s ≡ record { start = a; end = b } → r ≡ find p (range_with_len a (b - a))
  find_in_range u r ran e = sym (same-option r) ∙ find_from_yields_List p u f r ran (YieldsList-from_range a b (b - a) e refl) calls

  -- the number found, b where there is none
  pub first_in_range : {s : Range ℕ} (u : Range ℕ) (r : Option ℕ) → (xs : List ℕ) × (j : F) × YieldsThen nat_range_steps s xs r u × FoldsTo (λ p x q. CalledAt g p x false q) f xs j × MatchOption r ⊤ (λ x. (h : F) × CalledAt g j x true h) → s ≡ record { start = a; end = b } → unwrap_or r b ≡ first p a b
  unfolding first fold
  first_in_range u r ran e = rw (find_in_range u r ran e) (find_listed p a (b - a) b)

  pub count_in_range : {s : Filter (Range ℕ) F} {r : ℕ} → (xs : List ℕ) × Drains (filter_steps nat_range_steps g) s xs × (r ≡ length xs) → filter_source s ≡ record { start = a; end = b } → filter_callee s ≡ f → r ≡ count p a b
  unfolding count fold
  count_in_range ran e c = count_from_yields_List _ _ ran (YieldsList-from_filter g p (YieldsList-from_range a b (b - a) e refl) c calls) ∙ count_listed p a (b - a)
