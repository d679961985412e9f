-- Laws of `pack` and `up_to`: how a word is read byte by byte, and that the words of a name are read so.
use Prim.Native.Nat.{ℕ, zero, suc, ◌+◌, ◌-◌, ◌*◌, ◌%◌, ◌^◌, ◌≤◌, ◌<◌}
use mathlib.Core.Path.{◌≡◌, refl, sym, ◌∙◌, ap}
use mathlib.Core.Bool.{Bool, true, false, cond, not}
use mathlib.Core.List.{List, [], ◌∷◌}
use native.Mathlib.Nat.{mul_comm, mul_assoc, mul-add, not-suc-le-zero, le_of_suc-le-suc}
use native.Mathlib.Numerals.{add-one}
use native.Mathlib.Omega.{arith}
use lib.ListN.{length, get_or, take, drop, drop_of_length-le}
use lib.Seq.{drop-cons, drop-drop, get_or-drop, take-nil, length-take-le}
use lib.Pow.{pow-add, pow_mono, pow_pos, shl_exact}
use Rattle.rules.specs.Paths.{Name, span, is_slash, not_slash}
use Rattle.tables.specs.NameWords.{pair, quad, low_word, high_word}
use Rattle.resolution.specs.declared.path_names.Word.{Word}
use Rattle.resolution.proofs.Spans.{span-le}
use Rattle.resolution.specs.PathNames.{pack, up_to, word_from, name_at, name_from}

power : (k : ℕ) → 2 ^ (8 * (k + 1)) ≡ 256 * 2 ^ (8 * k)
power k = let e : 8 * (k + 1) ≡ 8 + 8 * k = omega arith in rw e (pow-add 2 8 (8 * k))

pub packed-below : (n : ℕ) (q : List ℕ) → ((k : ℕ) → get_or q k 0 < 256) → pack (up_to n q) < 2 ^ (8 * n)
unfolding pack up_to
packed-below zero q h = omega arith
packed-below (suc n) [] h = omega (arith, pow_pos (8 * suc n))
packed-below (suc n) (b ∷ bs) h = by (packed-below n bs (λ k. h (suc k))) (not_slash b)
  where
    more : 2 ^ (8 * suc n) ≡ 256 * 2 ^ (8 * n)
    more = let e : 8 * suc n ≡ 8 * (n + 1) = omega arith in rw e (power n)

    by : pack (up_to n bs) < 2 ^ (8 * n) → (t : Bool) → pack (cond t (b ∷ up_to n bs) []) < 2 ^ (8 * suc n)
    by ih true = omega (arith, more, ih, h 0)
    by ih false = omega (arith, pow_pos (8 * suc n))

spread : (a b x : ℕ) → a * (b + 256 * x) ≡ b * a + 256 * a * x
spread a b x = mul-add a b (256 * x) ∙ rw (mul_comm a b, ← mul_assoc a 256 x, mul_comm a 256)

-- ---- a word read byte by byte: the bytes read, and 2 ^ (8 * k) times those that are left

module _ (p : List ℕ) where
  -- nothing is left
  pub none-at-end : (m i : ℕ) → length p ≤ i → up_to m (drop i p) ≡ []
  unfolding up_to
  none-at-end zero i h = refl
  none-at-end (suc m) i h = rw (drop_of_length-le p h)

  pub none-at-slash : (m i : ℕ) → i < length p → not_slash (get_or p i 0) ≡ false → up_to m (drop i p) ≡ []
  unfolding up_to
  none-at-slash zero i h e = refl
  none-at-slash (suc m) i h e = rw (drop-cons p i 0 h, e)

  pub one_more : (m n i : ℕ) → m ≡ suc n → i < length p → not_slash (get_or p i 0) ≡ true → up_to m (drop i p) ≡ get_or p i 0 ∷ up_to n (drop (i + 1) p)
  unfolding up_to
  one_more m n i q h e = rw (q, add-one, drop-cons p i 0 h, e)

  module _ (most at : ℕ) where
    abbrev goal : List ℕ
    goal = up_to most (drop at p)

    pub record Read (word i k : ℕ) : Type 0 where
      pub few : k ≤ most
      pub value : word + 2 ^ (8 * k) * pack (up_to (most - k) (drop i p)) ≡ pack goal
      pub place : i + length (up_to (most - k) (drop i p)) ≡ at + length goal

    pub at-start : Read 0 at 0
    at-start =
        let z : most - 0 ≡ most = omega arith in
        record { few = omega arith; value = rw z (omega arith); place = rw z }

    module _ (word i k : ℕ) (r : Read word i k) where
      done : up_to (most - k) (drop i p) ≡ [] → (word ≡ pack goal) × (i ≡ at + length goal)
      unfolding pack
      done q =
          let v : word + 2 ^ (8 * k) * 0 ≡ pack goal = rw q at r.value in
          let w : i + 0 ≡ at + length goal = rw q at r.place in
          (omega (arith, v), omega (arith, w))

      pub at-end : length p ≤ i → (word ≡ pack goal) × (i ≡ at + length goal)
      at-end h = done (none-at-end (most - k) i h)

      pub at-slash : i < length p → not_slash (get_or p i 0) ≡ false → (word ≡ pack goal) × (i ≡ at + length goal)
      at-slash h e = done (none-at-slash (most - k) i h e)

      pub at_most : most ≤ k → (word ≡ pack goal) × (i ≡ at + length goal)
      unfolding up_to
      at_most h = let z : most - k ≡ 0 = omega arith in done (rw z)

      module _ (h : i < length p) (e : not_slash (get_or p i 0) ≡ true) (l : k < most) where
        abbrev left : List ℕ
        left = up_to (most - (k + 1)) (drop (i + 1) p)

        split : up_to (most - k) (drop i p) ≡ get_or p i 0 ∷ left
        split = one_more (most - k) (most - (k + 1)) i (omega arith) h e

        sum : word + (get_or p i 0 * 2 ^ (8 * k) + 256 * 2 ^ (8 * k) * pack left) ≡ pack goal
        unfolding pack
        sum = let v : word + 2 ^ (8 * k) * (get_or p i 0 + 256 * pack left) ≡ pack goal = rw split at r.value in rw (spread (2 ^ (8 * k)) (get_or p i 0) (pack left)) at v

        pub below : most ≤ 8 → ((j : ℕ) → get_or p j 0 < 256) → word + get_or p i 0 * 2 ^ (8 * k) < 2 ^ 64
        below m b = omega (arith, sum, packed-below most (drop at p) (λ j. rw (get_or-drop at p j 0) (b (at + j))), pow_mono {i = 8 * most} {j = 64} (omega arith))

        pub next : Read (word + get_or p i 0 * 2 ^ (8 * k)) (i + 1) (k + 1)
        unfolding pack
        next = record {
          few = omega arith;
          value = rw (power k) (omega (arith, sum));
          place = let w : i + suc (length left) ≡ at + length goal = rw split at r.place in omega (arith, w);
        }

-- ---- the words of a name

take-six : (m : List ℕ) → quad (get_or m 0 0) (get_or m 1 0) (get_or m 2 0) (get_or m 3 0) + 4294967296 * pair (get_or m 4 0) (get_or m 5 0) ≡ pack (take 6 m)
unfolding pack
take-six [] = refl
take-six (a ∷ []) = omega arith
take-six (a ∷ b ∷ []) = omega arith
take-six (a ∷ b ∷ c ∷ []) = omega arith
take-six (a ∷ b ∷ c ∷ d ∷ []) = omega arith
take-six (a ∷ b ∷ c ∷ d ∷ e ∷ []) = omega arith
take-six (a ∷ b ∷ c ∷ d ∷ e ∷ f ∷ m) = omega arith

low-packed : (m : Name) → low_word m ≡ pack (take 8 m)
unfolding pack low_word
low-packed [] = refl
low-packed (a ∷ []) = omega arith
low-packed (a ∷ b ∷ []) = omega arith
low-packed (a ∷ b ∷ c ∷ []) = omega arith
low-packed (a ∷ b ∷ c ∷ d ∷ []) = omega arith
low-packed (a ∷ b ∷ c ∷ d ∷ e ∷ []) = omega arith
low-packed (a ∷ b ∷ c ∷ d ∷ e ∷ f ∷ []) = omega arith
low-packed (a ∷ b ∷ c ∷ d ∷ e ∷ f ∷ g ∷ []) = omega arith
low-packed (a ∷ b ∷ c ∷ d ∷ e ∷ f ∷ g ∷ h ∷ m) = omega arith

high-packed : (m : Name) → high_word m ≡ pack (take 6 (drop 8 m))
unfolding high_word
high-packed m = rw (← get_or-drop 8 m 0 0, ← get_or-drop 8 m 1 0, ← get_or-drop 8 m 2 0, ← get_or-drop 8 m 3 0, ← get_or-drop 8 m 4 0, ← get_or-drop 8 m 5 0) (take-six (drop 8 m))

-- ---- what is read of a name, and what is left of it

abbrev own : List ℕ → Name
own q = take (span not_slash q) q

up_none : (k : ℕ) → up_to k [] ≡ []
unfolding up_to
up_none zero = refl
up_none (suc k) = refl

up-slash : (k b : ℕ) (bs : List ℕ) → not_slash b ≡ false → up_to k (b ∷ bs) ≡ []
unfolding up_to
up-slash zero b bs e = refl
up-slash (suc k) b bs e = rw e

up-own : (k : ℕ) (q : List ℕ) → up_to k q ≡ take k (own q)
unfolding up_to span
up-own zero q = refl
up-own (suc k) [] = refl
up-own (suc k) (b ∷ bs) = by (up-own k bs) (not_slash b)
  where
    by : up_to k bs ≡ take k (own bs) → (t : Bool) → cond t (b ∷ up_to k bs) [] ≡ take (suc k) (take (cond t (suc (span not_slash bs)) 0) (b ∷ bs))
    by ih true = rw ih
    by ih false = refl

-- after n bytes at most, k at most
up-past : (n k : ℕ) (q : List ℕ) → up_to k (drop (length (up_to n q)) q) ≡ take k (drop n (own q))
unfolding up_to span
up-past zero k q = up-own k q
up-past (suc n) k [] = up_none k ∙ sym (take-nil k)
up-past (suc n) k (b ∷ bs) = by (up-past n k bs) (not_slash b) refl
  where
    by : up_to k (drop (length (up_to n bs)) bs) ≡ take k (drop n (own bs)) → (t : Bool) → not_slash b ≡ t
        → up_to k (drop (length (cond t (b ∷ up_to n bs) [])) (b ∷ bs)) ≡ take k (drop (suc n) (take (cond t (suc (span not_slash bs)) 0) (b ∷ bs)))
    by ih true e = ih
    by ih false e = up-slash k b bs e ∙ sym (take-nil k)

span-past-up : (n : ℕ) (q : List ℕ) → length (up_to n q) + span not_slash (drop (length (up_to n q)) q) ≡ span not_slash q
unfolding up_to span
span-past-up zero q = omega arith
span-past-up (suc n) [] = refl
span-past-up (suc n) (b ∷ bs) = by (span-past-up n bs) (not_slash b) refl
  where
    by : length (up_to n bs) + span not_slash (drop (length (up_to n bs)) bs) ≡ span not_slash bs → (t : Bool) → not_slash b ≡ t
        → length (cond t (b ∷ up_to n bs) []) + span not_slash (drop (length (cond t (b ∷ up_to n bs) [])) (b ∷ bs)) ≡ cond t (suc (span not_slash bs)) 0
    by ih true e = omega (arith, ih)
    by ih false e = rw e refl

none : pack (take 6 []) ≡ 0
unfolding pack
none = refl

-- fewer bytes than asked for are the whole name
whole : (n : ℕ) (q : List ℕ) → length (up_to n q) < n → span not_slash q ≡ length (up_to n q)
unfolding up_to span
whole zero q h = absurd (not-suc-le-zero h)
whole (suc n) [] h = refl
whole (suc n) (b ∷ bs) h = by (whole n bs) (not_slash b) h
  where
    by : (length (up_to n bs) < n → span not_slash bs ≡ length (up_to n bs)) → (t : Bool) → length (cond t (b ∷ up_to n bs) []) < suc n → cond t (suc (span not_slash bs)) 0 ≡ length (cond t (b ∷ up_to n bs) [])
    by ih true h = rw (ih (le_of_suc-le-suc h))
    by ih false h = refl

onward : (p : List ℕ) (n at : ℕ) → at + length (up_to n (drop at p)) + span not_slash (drop (at + length (up_to n (drop at p))) p) ≡ at + span not_slash (drop at p)
onward p n at =
    let e : length (up_to n (drop at p)) + span not_slash (drop (at + length (up_to n (drop at p))) p) ≡ span not_slash (drop at p) = rw drop-drop at (span-past-up n (drop at p)) in
    omega (arith, e)

module _ (p : List ℕ) (start : ℕ) (l : Word) (x : l ≡ word_from 8 p start) where
  abbrev first : ℕ
  first = length (up_to 8 (drop start p))

  low-is : l.word ≡ low_word (name_at p start)
  low-is = rw (x, up-own 8 (drop start p)) (sym (low-packed (name_at p start)))

  pub ends-past : start ≤ l.end
  ends-past = omega (arith, ap (λ (w : Word). w.end) x)

  -- a name of fewer than eight bytes has its first word alone
  pub name-short : l.end - start < 8 → record { low = l.word; high = 0; end = l.end } ≡ name_from p start
  name-short g =
      let f : first < 8 = omega (arith, ap (λ (w : Word). w.end) x) in
      let s : span not_slash (drop start p) ≡ first = whole 8 (drop start p) f in
      let m : length (name_at p start) ≤ 8 = omega (arith, s, f, length-take-le (span not_slash (drop start p)) (drop start p) (span-le not_slash (drop start p))) in
      let d : drop 8 (name_at p start) ≡ [] = drop_of_length-le (name_at p start) m in
      let z : 0 ≡ high_word (name_at p start) = sym (high-packed (name_at p start) ∙ rw d (none)) in
      let e : l.end ≡ start + span not_slash (drop start p) = ap (λ (w : Word). w.end) x ∙ rw s in
      rw (low-is, z, e)

  past : drop l.end p ≡ drop first (drop start p)
  past = rw (x, drop-drop)

  module _ (h : Word) (y : h ≡ word_from 6 p l.end) where
    high_is : h.word ≡ high_word (name_at p start)
    high_is = rw (y, past, up-past 8 6 (drop start p)) (sym (high-packed (name_at p start)))

    end_is : (e : ℕ) → e ≡ h.end + span not_slash (drop h.end p) → e ≡ start + span not_slash (drop start p)
    end_is e z =
        let a : h.end + span not_slash (drop h.end p) ≡ l.end + span not_slash (drop l.end p) = rw y (onward p 6 l.end) in
        let b : l.end + span not_slash (drop l.end p) ≡ start + span not_slash (drop start p) = rw x (onward p 8 start) in
        z ∙ a ∙ b

    pub name-read : (e : ℕ) → e ≡ h.end + span not_slash (drop h.end p) → record { low = l.word; high = h.word; end = e } ≡ name_from p start
    name-read e z = rw (low-is, high_is, end_is e z)

-- ---- the turns of the loop, as the code meets them

not-slash : (b : ℕ) (r : Bool) → r ≡ is_slash b → not_slash b ≡ not r
unfolding is_slash not_slash
not-slash b r q = rw q

module _ (p : List ℕ) (most at word i k : ℕ) (r : Read p most at word i k) where
  made : (word ≡ pack (up_to most (drop at p))) × (i ≡ at + length (up_to most (drop at p))) → record { word = word; end = i } ≡ word_from most p at
  made (a, b) = rw (a, b)

  pub stop-end : length p ≤ i → record { word = word; end = i } ≡ word_from most p at
  stop-end h = made (at-end p most at word i k r h)

  pub stop-full : most ≤ k → record { word = word; end = i } ≡ word_from most p at
  stop-full h = made (at_most p most at word i k r h)

  module _ (h : i < length p) (b : ℕ) (x : b ≡ get_or p i 0) (s : Bool) (q : s ≡ is_slash b) where
    pub stop-slash : s ≡ true → record { word = word; end = i } ≡ word_from most p at
    stop-slash e = made (at-slash p most at word i k r h (rw (← x) (not-slash b s q ∙ rw e)))

    module _ (e : s ≡ false) (l : k < most) (m : most ≤ 8) (y : b < 256) where
      shifted : (b * 2 ^ (8 * k)) % 2 ^ 64 ≡ get_or p i 0 * 2 ^ (8 * k)
      shifted = shl_exact {a = b} 8 (8 * k) 64 y (omega arith) ∙ rw x

      pub fits : ((j : ℕ) → get_or p j 0 < 256) → word + (b * 2 ^ (8 * k)) % 2 ^ 64 < 2 ^ 64
      fits z = rw shifted (below p most at word i k r h (rw (← x) (not-slash b s q ∙ rw e)) l m z)

      pub again : Read p most at (word + (b * 2 ^ (8 * k)) % 2 ^ 64) (i + 1) (k + 1)
      again = rw shifted (next p most at word i k r h (rw (← x) (not-slash b s q ∙ rw e)) l)
