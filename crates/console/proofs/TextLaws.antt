-- Laws of texts as they are read: n bytes are written into X, and the text is left from place i on.
use Prim.Native.Nat.{ℕ, zero, suc, ◌+◌, ◌-◌, ◌≤◌, ◌<◌}
use mathlib.Core.Path.{◌≡◌, refl, sym, ◌∙◌, ap}
use mathlib.Core.Bool.{Bool, true, false, cond}
use mathlib.Core.Logic.{◌⊎◌, inl, inr}
use mathlib.Core.List.{List, [], ◌∷◌}
use native.Mathlib.Omega.{arith}
use native.Mathlib.Numerals.{add-one}
use borrow.Author.Tests.{le-leb, lt-leb, ne_eqb}
use lib.Dec.{eqb}
use lib.ListN.{length, set, take, drop, length-drop}
use lib.Seq.{sets, sets-eq, length-sets, take-append_seam, drop-drop}
use denote.Ref.{Bor}
use Rattle.std.specs.Prelude.{Option, Some, None, MatchOption}
use Rattle.std.specs.List.{slice_range}
use Rattle.std.specs.Option.{unwrap_or, option_copied}
use Rattle.rules.specs.Choice.{every}
use Rattle.rules.specs.Layout.{BLOCK}
use Rattle.rules.proofs.Lists.{upto-of}
use Rattle.console.specs.Texts.{escapes, first_byte, first_width, readable, bytes_in, whole_in, text_bytes, text_length, fitting, text_of}

-- ---- what the rest of a text leaves, m bytes at most: the output, how many bytes, and whether the text is whole

pub record Outcome : Type 0 where
  pub out : List ℕ
  pub count : ℕ
  pub whole : Bool

abbrev pub outcome : (X : List ℕ) (n m : ℕ) (u : List ℕ) → Outcome
outcome X n m u = record { out = sets X n (bytes_in m u); count = n + length (bytes_in m u); whole = whole_in m u }

abbrev at-end : (X : List ℕ) (n : ℕ) → Bool → Outcome
at-end X n w = record { out = X; count = n; whole = w }

alike : {X Y : List ℕ} {n k : ℕ} {v w : Bool} → X ≡ Y → n ≡ k → v ≡ w → at-end X n v ≡ at-end Y k w
alike a b c = cc

module _ (X u : List ℕ) (n : ℕ) where
  no_more : outcome X n 0 u ≡ at-end X n true
  unfolding bytes_in whole_in
  no_more = alike refl (omega arith) refl

  module _ (m : ℕ) (h : 0 < length u) where
    some : eqb (length u) 0 ≡ false
    some = ne_eqb (length u) 0 (λ q. omega arith)

    one : readable u ≡ true → outcome X n (suc m) u ≡ outcome (set X n (unwrap_or (first_byte u) 0)) (n + 1) m (drop (first_width u) u)
    unfolding bytes_in whole_in
    one e = rw (e, some, add-one) (alike refl (omega arith) refl)

    broken : readable u ≡ false → outcome X n (suc m) u ≡ at-end X n false
    unfolding bytes_in whole_in
    broken e = rw (e, some) (alike refl (omega arith) refl)

nothing : (X u : List ℕ) (n m : ℕ) → length u ≤ 0 → outcome X n m u ≡ at-end X n true
unfolding bytes_in whole_in readable every escapes first_byte first_width
nothing X u n zero h = no_more X u n
nothing X [] n (suc m) h = alike refl (omega arith) refl
nothing X (x ∷ u) n (suc m) h = absurd (over h)
  where
    over : suc (length u) ≤ 0 → ⊥
    over h = omega arith

-- ---- what is returned

module _ (text Y : List ℕ) {X : List ℕ} {n : ℕ} where
  whole-text : at-end X n true ≡ outcome Y 0 (length text) text → (Some n ≡ text_length text) × (X ≡ sets Y 0 (text_bytes text))
  unfolding text_length
  whole-text e = (rw (← ap (λ (o : Outcome). o.whole) e) (ap (λ (k : ℕ). Some k) (omega (arith, ap (λ (o : Outcome). o.count) e))), ap (λ (o : Outcome). o.out) e)

  broken-text : at-end X n false ≡ outcome Y 0 (length text) text → (None ≡ text_length text) × (X ≡ sets Y 0 (text_bytes text))
  unfolding text_length
  broken-text e = (rw (← ap (λ (o : Outcome). o.whole) e), ap (λ (o : Outcome). o.out) e)

-- ---- a text in its room

front : (B X : List ℕ) → length B ≤ length X → take (length B) (sets X 0 B) ≡ B
front B X h = rw (sets-eq B X 0 (omega arith)) (take-append_seam B _)

counted : (k : ℕ) (v : Bool) {o : Option ℕ} → o ≡ cond v (Some k) None → MatchOption o (v ≡ false) (λ n. n ≡ k)
counted k true e = rw e refl
counted k false e = rw e refl

module _ (text X : List ℕ) (room : length X ≡ BLOCK) {T : List ℕ} (t : T ≡ sets X 0 (text_bytes text)) {n : ℕ} (p : text_length text ≡ Some n) where
  all : n ≡ length (text_bytes text)
  unfolding text_length
  all = counted (length (text_bytes text)) (whole_in (length text) text) (sym p)

  size : length T ≡ BLOCK
  size = rw (t, length-sets X 0 (text_bytes text)) room

  pub lent : (r : Option (Bor (List ℕ))) → MatchOption r ((n < 0) ⊎ (length T < n)) (λ x. (0 ≤ n) × (n ≤ length T) × (x.now ≡ slice_range T 0 n) × (length x.now + 0 ≡ n)) → option_copied r ≡ text_of text
  unfolding text_of fitting
  lent None (inl h) = absurd (omega arith)
  lent None (inr h) = rw (p, lt-leb n BLOCK (rw size at h))
  lent (Some x) h =
      let e : x.now ≡ take n T = h.2 ∙ upto-of T n in
      rw (p, le-leb n BLOCK (rw size at (h.1)), e, t, all, front (text_bytes text) X (rw (← all, room) (rw size at (h.1))))

-- ---- a turn

pub start : (text X : List ℕ) → outcome X 0 (length text - 0) (drop 0 text) ≡ outcome X 0 (length text) text
start text X = let e : length text - 0 ≡ length text = omega arith in rw e

module _ (text X Y : List ℕ) (i n : ℕ) (inv : outcome X n (length text - n) (drop i text) ≡ outcome Y 0 (length text) text) where
  pub end : length text ≤ n → (Some n ≡ text_length text) × (X ≡ sets Y 0 (text_bytes text))
  end h =
      let e : length text - n ≡ 0 = omega arith in
      whole-text text Y (sym (no_more X (drop i text) n) ∙ rw e at inv)

  pub all_read : length text ≤ i → (Some n ≡ text_length text) × (X ≡ sets Y 0 (text_bytes text))
  all_read h = whole-text text Y (sym (nothing X (drop i text) n (length text - n) (omega (arith, length-drop i text))) ∙ inv)

  module _ (l : n < length text) (k : i < length text) {u : List ℕ} (p : u ≡ drop i text) where
    fuel : outcome X n (suc (length text - (n + 1))) (drop i text) ≡ outcome Y 0 (length text) text
    fuel = let e : length text - n ≡ suc (length text - (n + 1)) = omega arith in rw e at inv

    left : 0 < length (drop i text)
    left = omega (arith, length-drop i text)

    ended : readable (drop i text) ≡ false → (None ≡ text_length text) × (X ≡ sets Y 0 (text_bytes text))
    ended e = broken-text text Y (sym (broken X (drop i text) n (length text - (n + 1)) left e) ∙ fuel)

    unread : None ≡ first_byte u → readable (drop i text) ≡ false
    unfolding readable every
    unread q = rw (← p, ← q)

    pub no_byte : None ≡ first_byte u → (None ≡ text_length text) × (X ≡ sets Y 0 (text_bytes text))
    no_byte q = ended (unread q)

    module _ {b : ℕ} (q : Some b ≡ first_byte u) {w : ℕ} (r : w ≡ first_width u) where
      first : first_byte (drop i text) ≡ Some b
      first = rw (← p) (sym q)

      width : w ≡ first_width (drop i text)
      width = r ∙ rw p

      short : length text - i < w → readable (drop i text) ≡ false
      unfolding readable every
      short j = rw (first, lt-leb (first_width (drop i text)) (length (drop i text)) (rw (← width) (omega (arith, length-drop i text))))

      pub no_room : length text - i < w → (None ≡ text_length text) × (X ≡ sets Y 0 (text_bytes text))
      no_room j = ended (short j)

      long : w ≤ length text - i → readable (drop i text) ≡ true
      unfolding readable every
      long j = rw (first, le-leb (first_width (drop i text)) (length (drop i text)) (rw (← width) (omega (arith, length-drop i text))))

      written : unwrap_or (first_byte (drop i text)) 0 ≡ b
      written = rw first

      pub more : w ≤ length text - i → {Z : List ℕ} → Z ≡ set X n b → outcome Z (n + 1) (length text - (n + 1)) (drop (i + w) text) ≡ outcome Y 0 (length text) text
      more j {Z} z = rw (z, ← written, width, ← drop-drop) (sym (one X (drop i text) n (length text - (n + 1)) left (long j)) ∙ fuel)
