-- The names of a well formed path: each of 1 to 14 bytes other than 0 and slash, and neither "." nor ".."; and its size.
use mathlib.Core.Path.{◌≡◌, refl, sym, ◌∙◌}
use mathlib.Core.Bool.{Bool, true, false, cond, not, false≢true}
use mathlib.Core.List.{List, [], ◌∷◌}
use Prim.Native.Nat.{ℕ, zero, suc, ◌+◌, ◌-◌, ◌≤◌, ◌<◌}
use native.Mathlib.Nat.{not-suc-le-zero}
use native.Mathlib.Omega.{arith}
use lib.Dec.{eqb, leb}
use lib.ListN.{length, get_or, take, drop, length-drop}
use lib.Seq.{length-take-le, get_or-take, get_or-drop}
use borrow.Author.Tests.{eqb-true, eq-eqb}
use Rattle.rules.specs.Layout.{NAME, NAMES, SLASH, PATH}
use Rattle.rules.specs.Choice.{every}
use Rattle.rules.specs.Paths.{Name, is_slash, not_slash, not_zero, span, skip, next_name, name_end, first_names, names, is_dots, name_ok, names_ok, no_zero, size_ok, shape_ok, end_ok, names_fit, path_ok, is_root, last_name}
use Rattle.rules.specs.Calls.{path_below_root}
use Rattle.rules.proofs.Walks.{Each}
use Rattle.preservation.proofs.Tests.{split, means-every, means-and, means-last, means-le, means-not, means-test}

-- ---- spans

span-most : (t : ℕ → Bool) (l : List ℕ) → span t l ≤ length l
unfolding span
span-most t [] = omega arith
span-most t (b ∷ l) = by (t b) (span-most t l)
  where
    by : (c : Bool) → span t l ≤ length l → cond c (suc (span t l)) 0 ≤ suc (length l)
    by true h = omega arith
    by false h = omega arith

span-at : (t : ℕ → Bool) (l : List ℕ) (k : ℕ) → k < span t l → t (get_or l k 0) ≡ true
unfolding span
span-at t [] k h = absurd (not-suc-le-zero h)
span-at t (b ∷ l) k h = by (t b) refl k h (λ j g. span-at t l j g)
  where
    by : (c : Bool) → t b ≡ c → (k : ℕ) → k < cond c (suc (span t l)) 0 → ((j : ℕ) → j < span t l → t (get_or l j 0) ≡ true) → t (get_or (b ∷ l) k 0) ≡ true
    by true e zero g rest = e
    by true e (suc k) g rest = rest k (omega arith)
    by false e k g rest = absurd (not-suc-le-zero g)

-- ---- no byte is 0

pub Clean : List ℕ → Type 0
Clean p = (k : ℕ) → k < length p → get_or p k 0 ≡ 0 → ⊥

not-true : (b : Bool) → not b ≡ true → b ≡ true → ⊥
not-true true e f = false≢true e
not-true false e f = false≢true f

clean-path : (p : List ℕ) → no_zero p ≡ true → Clean p
unfolding no_zero Clean not_zero
clean-path p e k h z = not-true (eqb (get_or p k 0) 0) (span-at not_zero p k (rw (eqb-true (span not_zero p) (length p) e) h)) (eq-eqb (get_or p k 0) 0 z)

clean_drop : (p : List ℕ) (n : ℕ) → Clean p → Clean (drop n p)
unfolding Clean
clean_drop p n c k h z = c (n + k) (omega (arith, rw (length-drop n p) at h)) (sym (get_or-drop n p k 0) ∙ z)

-- ---- one name

pub record GoodBytes (n : Name) : Type 0 where
  pub some_byte : 0 < length n
  pub no_zero : (k : ℕ) → k < length n → get_or n k 0 ≡ 0 → ⊥
  pub no_slash : (k : ℕ) → k < length n → get_or n k 0 ≡ SLASH → ⊥

next-good : (p : List ℕ) → Clean p → 0 < length (next_name p) → GoodBytes (next_name p)
unfolding next_name skip
next-good p c h = record { some_byte = h; no_zero = λ k hk z. at k hk (λ g. tail k g (sym (same k hk) ∙ z)); no_slash = λ k hk z. slash k hk (sym (same k hk) ∙ z) }
  where
    size : length (take (span not_slash (drop (span is_slash p) p)) (drop (span is_slash p) p)) ≡ span not_slash (drop (span is_slash p) p)
    size = length-take-le (span not_slash (drop (span is_slash p) p)) (drop (span is_slash p) p) (span-most not_slash (drop (span is_slash p) p))

    same : (k : ℕ) → k < length (take (span not_slash (drop (span is_slash p) p)) (drop (span is_slash p) p)) → get_or (take (span not_slash (drop (span is_slash p) p)) (drop (span is_slash p) p)) k 0 ≡ get_or (drop (span is_slash p) p) k 0
    same k hk = get_or-take (span not_slash (drop (span is_slash p) p)) (drop (span is_slash p) p) k 0 (rw size at hk)

    tail : (k : ℕ) → k < length (drop (span is_slash p) p) → get_or (drop (span is_slash p) p) k 0 ≡ 0 → ⊥
    tail = unfold Clean in clean_drop p (span is_slash p) c

    at : (k : ℕ) → k < length (take (span not_slash (drop (span is_slash p) p)) (drop (span is_slash p) p)) → (k < length (drop (span is_slash p) p) → ⊥) → ⊥
    at k hk f = f (omega (arith, rw size at hk, span-most not_slash (drop (span is_slash p) p)))

    slash : (k : ℕ) → k < length (take (span not_slash (drop (span is_slash p) p)) (drop (span is_slash p) p)) → get_or (drop (span is_slash p) p) k 0 ≡ SLASH → ⊥
    slash k hk z = not-true (eqb (get_or (drop (span is_slash p) p) k 0) SLASH) (unfold not_slash in span-at not_slash (drop (span is_slash p) p) k (rw size at hk)) (eq-eqb (get_or (drop (span is_slash p) p) k 0) SLASH z)

-- ---- all of them

first_good : (n : ℕ) (p : List ℕ) → Clean p → Each GoodBytes (first_names n p)
unfolding first_names Each
first_good zero p c = tt
first_good (suc n) p c = split (length (next_name p)) 0
    (λ q e. rw e tt)
    (λ q e. rw e (next-good p c (omega arith), first_good n (drop (name_end p) p) (clean_drop p (name_end p) c)))

pub record GoodName (n : Name) : Type 0 where
  pub bytes : GoodBytes n
  pub length_most : length n ≤ NAME
  pub not-dots : is_dots n ≡ true → ⊥

good-names : (ns : List Name) → Each GoodBytes ns → names_ok ns ≡ true → Each GoodName ns
unfolding names_ok name_ok Each
good-names [] b e = tt
good-names (n ∷ ns) b e = by (every (leb (length n) NAME ∷ not (is_dots n) ∷ [])) refl e (λ r. good-names ns b.1 r)
  where
    by : (t : Bool) → every (leb (length n) NAME ∷ not (is_dots n) ∷ []) ≡ t → cond t (names_ok ns) false ≡ true → (names_ok ns ≡ true → Each GoodName ns) → GoodName n × Each GoodName ns
    by true q r rest =
        let w = (means-every (means-and (means-le (length n) NAME) (means-last (means-not (means-test (is_dots n)))))).holds q in
        (record { bytes = b.0; length_most = w.0; not-dots = w.1 }, rest r)
    by false q r rest = absurd (false≢true r)

abbrev pub GoodPath : List ℕ → Type 0
GoodPath p = Each GoodName (names p)

pub path-good : (p : List ℕ) → path_ok p ≡ true → GoodPath p
unfolding path_ok shape_ok names_fit
path-good p e =
    let w = (means-every (means-and (means-every (means-and (means-test (size_ok p)) (means-and (means-test (is_slash (get_or p 0 0))) (means-last (means-test (no_zero p))))))
    (means-and (means-every (means-and (means-le (length (names p)) NAMES) (means-last (means-test (names_ok (names p)))))) (means-last (means-test (end_ok p)))))).holds e in
    good-names (names p) (first_good (NAMES + 1) p (clean-path p w.0.1.1)) w.1.0.1

pub path-size : (p : List ℕ) → path_ok p ≡ true → length p ≤ PATH
unfolding path_ok shape_ok size_ok
path-size p e =
    ((means-every (means-and (means-every (means-and (means-every (means-and (means-le 1 (length p)) (means-last (means-le (length p) PATH)))) (means-and (means-test (is_slash (get_or p 0 0))) (means-last (means-test (no_zero p))))))
    (means-and (means-test (names_fit (names p))) (means-last (means-test (end_ok p)))))).holds e).0.0.1

pub below_root : (p : List ℕ) → path_below_root p ≡ true → GoodPath p × (0 < length (names p))
unfolding path_below_root is_root
below_root p e =
    let w = (means-every (means-and (means-test (path_ok p)) (means-last (means-not (means-test (eqb (length (names p)) 0)))))).holds e in
    (path-good p w.0, some-names w.1)
  where
    some-names : (eqb (length (names p)) 0 ≡ true → ⊥) → 0 < length (names p)
    some-names f = split (length (names p)) 0 (λ q t. absurd (f t)) (λ q t. omega arith)

pub each_at : (P : Name → Type 0) (ns : List Name) (k : ℕ) → k < length ns → Each P ns → P (get_or ns k [])
unfolding Each
each_at P [] k h e = absurd (not-suc-le-zero h)
each_at P (n ∷ ns) zero h e = e.0
each_at P (n ∷ ns) (suc k) h e = each_at P ns k (omega arith) e.1

pub last-good : (p : List ℕ) → GoodPath p → 0 < length (names p) → GoodName (last_name (names p))
last-good p g h = each_at GoodName (names p) (length (names p) - 1) (omega arith) g
