-- Two lists that agree outside a stretch of places: what `set` and `sets` keep, and what blocks they share.
use mathlib.Core.Path.{◌≡◌, refl, sym, ap, ◌∙◌, subst}
use mathlib.Core.List.{List, [], ◌∷◌}
use mathlib.Core.Logic.{◌≢◌}
use Prim.Native.Nat.{ℕ, zero, suc, ◌+◌, ◌-◌, ◌*◌, ◌/◌, ◌%◌, ◌≤◌, ◌<◌, min}
use native.Mathlib.Nat.{div-add-mod', mod-lt}
use native.Mathlib.Omega.{arith}
use native.Mathlib.Decide.{dec_lt, dec_le, ℕ_discrete}
use lib.ListN.{length, get_or, drop, set, length-set, length-take, length-drop, get_or-eq_default}
use lib.Seq.{sets, get_or-set_same, get_or-set_other, get_or-take, get_or-drop, ext_get_or}
use Rattle.rules.specs.Layout.{BLOCK}
use Rattle.rules.specs.Store.{block}

-- ---- one element, or some in a row, put anew

pub get_or-sets_before : (l : List ℕ) (i : ℕ) (vs : List ℕ) (j : ℕ) → j < i → get_or (sets l i vs) j 0 ≡ get_or l j 0
get_or-sets_before l i [] j h = refl
get_or-sets_before l i (v ∷ vs) j h = get_or-sets_before (set l i v) (suc i) vs j (omega arith) ∙ get_or-set_other l i j v 0 (λ e. omega arith)

pub get_or-sets-past : (l : List ℕ) (i : ℕ) (vs : List ℕ) (j : ℕ) → i + length vs ≤ j → get_or (sets l i vs) j 0 ≡ get_or l j 0
get_or-sets-past l i [] j h = refl
get_or-sets-past l i (v ∷ vs) j h = get_or-sets-past (set l i v) (suc i) vs j (omega arith) ∙ get_or-set_other l i j v 0 (λ e. omega arith)

pub get_or-sets-in : (l : List ℕ) (i : ℕ) (vs : List ℕ) (k : ℕ) → i + k < length l → k < length vs → get_or (sets l i vs) (i + k) 0 ≡ get_or vs k 0
get_or-sets-in l i [] k h g = absurd (omega arith)
get_or-sets-in l i (v ∷ vs) zero h g =
    let e : i + 0 ≡ i = omega arith in
    rw e (get_or-sets_before (set l i v) (suc i) vs i (omega arith) ∙ get_or-set_same l i v 0 (omega arith))
get_or-sets-in l i (v ∷ vs) (suc k) h g =
    let e : i + suc k ≡ suc i + k = omega arith in
    rw e (get_or-sets-in (set l i v) (suc i) vs k (rw length-set (omega arith)) (omega arith))

-- ---- equal but for the places from a on and before b

pub record Agree (a b : ℕ) (C C' : List ℕ) : Type 0 where
  pub size : length C ≡ length C'
  pub outside : (i : ℕ) → (a ≤ i → i < b → ⊥) → get_or C i 0 ≡ get_or C' i 0

-- the same element put at the same place
pub agree-set : (a b : ℕ) (C C' : List ℕ) → Agree a b C C' → (i x : ℕ) → Agree a b (set C i x) (set C' i x)
agree-set a b C C' h i x = record { size = simp length-set h.size; outside = λ j out. go j out (ℕ_discrete j i) (dec_lt i (length C)) }
  where
    go : (j : ℕ) → (a ≤ j → j < b → ⊥) → Dec (j ≡ i) → Dec (i < length C) → get_or (set C i x) j 0 ≡ get_or (set C' i x) j 0
    go j out (no ne) q = get_or-set_other C i j x 0 ne ∙ h.outside j out ∙ sym (get_or-set_other C' i j x 0 ne)
    go j out (yes e) (yes lt) =
        let lt' : i < length C' = omega (arith, h.size) in
        rw e (get_or-set_same C i x 0 lt ∙ sym (get_or-set_same C' i x 0 lt'))
    go j out (yes e) (no ge) =
        let g : length (set C i x) ≤ i = rw length-set (omega arith) in
        let g' : length (set C' i x) ≤ i = rw length-set (omega (arith, h.size)) in
        rw e (get_or-eq_default (set C i x) 0 g ∙ sym (get_or-eq_default (set C' i x) 0 g'))

pub agree-sets : (a b : ℕ) (C C' : List ℕ) → Agree a b C C' → (i : ℕ) (vs : List ℕ) → Agree a b (sets C i vs) (sets C' i vs)
agree-sets a b C C' h i [] = h
agree-sets a b C C' h i (v ∷ vs) = agree-sets a b (set C i v) (set C' i v) (agree-set a b C C' h i v) (suc i) vs

-- the first of the places put anew: nothing of the difference is left there
agree-first : (a b : ℕ) (C C' : List ℕ) → Agree a b C C' → (x : ℕ) → Agree (suc a) b (set C a x) (set C' a x)
agree-first a b C C' h x = record { size = simp length-set h.size; outside = λ j out. go j out (ℕ_discrete j a) (dec_lt a (length C)) }
  where
    go : (j : ℕ) → (suc a ≤ j → j < b → ⊥) → Dec (j ≡ a) → Dec (a < length C) → get_or (set C a x) j 0 ≡ get_or (set C' a x) j 0
    go j out (no ne) q = get_or-set_other C a j x 0 ne ∙ h.outside j (λ lo hi. out (omega (arith, ne)) hi) ∙ sym (get_or-set_other C' a j x 0 ne)
    go j out (yes e) (yes lt) =
        let lt' : a < length C' = omega (arith, h.size) in
        rw e (get_or-set_same C a x 0 lt ∙ sym (get_or-set_same C' a x 0 lt'))
    go j out (yes e) (no ge) =
        let g : length (set C a x) ≤ a = rw length-set (omega arith) in
        let g' : length (set C' a x) ≤ a = rw length-set (omega (arith, h.size)) in
        rw e (get_or-eq_default (set C a x) 0 g ∙ sym (get_or-eq_default (set C' a x) 0 g'))

-- all of the places put anew: the lists are equal
pub agree-clear : (a b : ℕ) (C C' : List ℕ) → Agree a b C C' → (vs : List ℕ) → b ≤ a + length vs → sets C a vs ≡ sets C' a vs
agree-clear a b C C' h [] g = ext_get_or 0 C C' h.size (λ i _. h.outside i (λ lo hi. omega arith))
agree-clear a b C C' h (v ∷ vs) g = agree-clear (suc a) b (set C a v) (set C' a v) (agree-first a b C C' h v) vs (omega arith)

-- ---- blocks

size-block : (C : List ℕ) (d : ℕ) → length (block C d) ≡ min BLOCK (length C - BLOCK * d)
size-block C d = simp (length-take, length-drop)

get_or-block : (C : List ℕ) (d i : ℕ) → i < BLOCK → get_or (block C d) i 0 ≡ get_or C (BLOCK * d + i) 0
get_or-block C d i h = get_or-take BLOCK (drop (BLOCK * d) C) i 0 h ∙ get_or-drop (BLOCK * d) C i 0

-- bytes of slot f, past m
size-rest : (C : List ℕ) (d m : ℕ) → length (drop m (block C d)) ≡ min BLOCK (length C - BLOCK * d) - m
size-rest C d m = length-drop m (block C d) ∙ ap (λ (k : ℕ). k - m) (size-block C d)

get_or-rest : (C : List ℕ) (d m i : ℕ) → m + i < BLOCK → get_or (drop m (block C d)) i 0 ≡ get_or C (BLOCK * d + (m + i)) 0
get_or-rest C d m i h = get_or-drop m (block C d) i 0 ∙ get_or-block C d (m + i) h

module _ (f n : ℕ) (C C' : List ℕ) (h : Agree (BLOCK * f) (BLOCK * f + n) C C') (small : n ≤ BLOCK) where
  pub agree-block : (d : ℕ) → d ≢ f → block C d ≡ block C' d
  agree-block d ne =
      ext_get_or 0 (block C d) (block C' d) (size-block C d ∙ ap (λ (k : ℕ). min BLOCK (k - BLOCK * d)) h.size ∙ sym (size-block C' d))
      (λ i lt. at i (omega (arith, size-block C d)))
    where
      at : (i : ℕ) → i < BLOCK → get_or (block C d) i 0 ≡ get_or (block C' d) i 0
      at i lt = get_or-block C d i lt ∙ h.outside (BLOCK * d + i) (λ lo hi. ne (omega arith)) ∙ sym (get_or-block C' d i lt)

  pub agree-rest : (m : ℕ) → n ≤ m → drop m (block C f) ≡ drop m (block C' f)
  agree-rest m le =
      ext_get_or 0 (drop m (block C f)) (drop m (block C' f)) (size-rest C f m ∙ ap (λ (k : ℕ). min BLOCK (k - BLOCK * f) - m) h.size ∙ sym (size-rest C' f m))
      (λ i lt. at i (omega (arith, size-rest C f m)))
    where
      at : (i : ℕ) → m + i < BLOCK → get_or (drop m (block C f)) i 0 ≡ get_or (drop m (block C' f)) i 0
      at i lt = get_or-rest C f m i lt ∙ h.outside (BLOCK * f + (m + i)) (λ lo hi. omega arith) ∙ sym (get_or-rest C' f m i lt)

-- and back: lists whose blocks are equal but for the first n bytes of block f
pub agree-of-blocks : (f n : ℕ) (C C' : List ℕ) → length C ≡ length C' → ((d : ℕ) → d ≢ f → block C d ≡ block C' d) → drop n (block C f) ≡ drop n (block C' f)
    → Agree (BLOCK * f) (BLOCK * f + n) C C'
agree-of-blocks f n C C' size others rest = record { size = size; outside = λ i out. place i out }
  where
    other : (d j : ℕ) → j < BLOCK → d ≢ f → get_or C (BLOCK * d + j) 0 ≡ get_or C' (BLOCK * d + j) 0
    other d j lt ne = sym (get_or-block C d j lt) ∙ ap (λ (l : List ℕ). get_or l j 0) (others d ne) ∙ get_or-block C' d j lt

    own : (j : ℕ) → j < BLOCK → n ≤ j → get_or C (BLOCK * f + j) 0 ≡ get_or C' (BLOCK * f + j) 0
    own j lt le =
        let e : n + (j - n) ≡ j = omega arith in
        let lt' : n + (j - n) < BLOCK = omega arith in
        subst (λ (k : ℕ). get_or C (BLOCK * f + k) 0 ≡ get_or C' (BLOCK * f + k) 0) e
        (sym (get_or-rest C f n (j - n) lt') ∙ ap (λ (l : List ℕ). get_or l (j - n) 0) rest ∙ get_or-rest C' f n (j - n) lt')

    cases : (d j : ℕ) → j < BLOCK → (BLOCK * f ≤ BLOCK * d + j → BLOCK * d + j < BLOCK * f + n → ⊥) → Dec (d ≡ f) → Dec (n ≤ j) → get_or C (BLOCK * d + j) 0 ≡ get_or C' (BLOCK * d + j) 0
    cases d j lt out (no ne) q = other d j lt ne
    cases d j lt out (yes e) (yes le) = rw e (own j lt le)
    cases d j lt out (yes e) (no gt) = absurd (out (omega arith) (omega arith))

    place : (i : ℕ) → (BLOCK * f ≤ i → i < BLOCK * f + n → ⊥) → get_or C i 0 ≡ get_or C' i 0
    place i out =
        let e : BLOCK * (i / BLOCK) + i % BLOCK ≡ i = omega (arith, div-add-mod' i BLOCK) in
        subst (λ (k : ℕ). get_or C k 0 ≡ get_or C' k 0) e
        (cases (i / BLOCK) (i % BLOCK) (mod-lt i (omega arith)) (λ lo hi. out (omega arith) (omega arith)) (ℕ_discrete (i / BLOCK) f) (dec_le n (i % BLOCK)))
