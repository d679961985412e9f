-- Laws of `first_names`: the names of the path from `at` on, of which the first stands from s up to e.
use Prim.Native.Nat.{ℕ, zero, suc, ◌+◌, ◌-◌, ◌≤◌, ◌<◌}
use mathlib.Core.Path.{◌≡◌, refl, sym, ◌∙◌}
use mathlib.Core.Bool.{Bool, true, false, cond}
use mathlib.Core.List.{List, [], ◌∷◌}
use native.Mathlib.Decide.{dec_lt}
use native.Mathlib.Omega.{arith}
use borrow.Author.Tests.{ne_eqb}
use lib.Dec.{eqb}
use lib.ListN.{length, get_or, take, drop, drop_of_length-le}
use lib.Seq.{drop-drop, drop-cons, take-nil}
use Rattle.rules.specs.Paths.{Name, span, skip, next_name, name_end, first_names, is_slash, not_slash}
use Rattle.resolution.proofs.Spans.{span-stop, span_more, span-past, span-ends}

pub names-zero : (p : List ℕ) → first_names 0 p ≡ []
unfolding first_names
names-zero p = refl

module _ (p : List ℕ) (at s : ℕ) (a : s ≡ at + span is_slash (drop at p)) where
  rest : skip (drop at p) ≡ drop s p
  unfolding skip
  rest = rw (drop-drop, ← a)

  pub no_names : (n : ℕ) → length p ≤ s → first_names n (drop at p) ≡ []
  unfolding first_names next_name
  no_names zero h = refl
  no_names (suc n) h = rw (rest, drop_of_length-le p h, take-nil)

  -- a byte that is no slash
  begins : s < length p → not_slash (get_or p s 0) ≡ true
  unfolding is_slash not_slash
  begins h = rw (span-ends is_slash p at s a h)

  module _ (e : ℕ) (b : e ≡ s + span not_slash (drop s p)) where
    name : next_name (drop at p) ≡ take (e - s) (drop s p)
    unfolding next_name
    name = let h : e - s ≡ span not_slash (drop s p) = omega arith in rw (rest, h)

    end : drop (name_end (drop at p)) (drop at p) ≡ drop e p
    unfolding name_end
    end = let h : at + (span is_slash (drop at p) + span not_slash (drop s p)) ≡ e = omega arith in rw (rest, drop-drop, h)

    pub name-bytes : s < length p → 1 ≤ length (take (e - s) (drop s p))
    name-bytes h =
        let n : e - s ≡ suc (span not_slash (drop (s + 1) p)) = omega (arith, span_more not_slash p s h (begins h)) in
        rw (n, drop-cons p s 0 h) (omega arith)

    pub more-names : (n m : ℕ) → s < length p → n ≡ suc m → first_names n (drop at p) ≡ take (e - s) (drop s p) ∷ first_names m (drop e p)
    unfolding first_names
    more-names n m h q =
        let z : length (take (e - s) (drop s p)) ≡ 0 → ⊥ = λ w. omega (arith, name-bytes h) in
        rw (q, name, ne_eqb _ _ z, end)

  -- past the slashes
  pub no-slashes : span is_slash (drop s p) ≡ 0
  no-slashes = by (dec_lt s (length p))
    where
      by : Dec (s < length p) → span is_slash (drop s p) ≡ 0
      by (yes h) = span-stop is_slash p s h (span-ends is_slash p at s a h)
      by (no h) = let m : length p ≤ s = omega arith in span-past is_slash p s m

-- slashes before the names may be left out
pub skip-names : (p : List ℕ) (at s : ℕ) → s ≡ at + span is_slash (drop at p) → (n : ℕ) → first_names n (drop s p) ≡ first_names n (drop at p)
unfolding first_names
skip-names p at s a zero = refl
skip-names p at s a (suc n) = by (dec_lt s (length p))
  where
    own : s ≡ s + span is_slash (drop s p)
    own = omega (arith, no-slashes p at s a)

    by : Dec (s < length p) → first_names (suc n) (drop s p) ≡ first_names (suc n) (drop at p)
    by (yes h) = more-names p s s own _ refl (suc n) n h refl ∙ sym (more-names p at s a _ refl (suc n) n h refl)
    by (no h) = let m : length p ≤ s = omega arith in no_names p s s own (suc n) m ∙ sym (no_names p at s a (suc n) m)

pub few-names : (n : ℕ) (p : List ℕ) → length (first_names n p) ≤ n
unfolding first_names
few-names zero p = omega arith
few-names (suc n) p = by (few-names n (drop (name_end p) p)) (eqb (length (next_name p)) 0)
  where
    by : length (first_names n (drop (name_end p) p)) ≤ n → (b : Bool) → length (cond b [] (next_name p ∷ first_names n (drop (name_end p) p))) ≤ suc n
    by h true = omega arith
    by h false = omega (arith, h)

-- ---- the last of a name and those after it

unfoldable pub last_of : Name → List Name → Name
last_of x [] = x
last_of x (n ∷ ns) = last_of n ns

last-from : (x : Name) (ns : List Name) → last_of x ns ≡ get_or (x ∷ ns) (length ns) []
unfolding last_of
last-from x [] = refl
last-from x (n ∷ ns) = last-from n ns

pub last-of : (ns : List Name) → last_of [] ns ≡ get_or ns (length ns - 1) []
unfolding last_of
last-of [] = refl
last-of (n ∷ ns) = let e : suc (length ns) - 1 ≡ length ns = omega arith in rw e (last-from n ns)
