-- Names by their words: two names are the same where both words are.
use Rattle.std.proofs.Common.{◌≡◌, ℕ, ◌+◌, ◌*◌, ◌<◌, Bool, true, false, eqb, List, get_or, drop, sym, refl, ap, ◌∙◌, arith, get_or-drop, eq-eqb, eqb-true}
use mathlib.Core.Bool.{false≢true}
use Rattle.rules.specs.Directories.{dirent_at, has_name}
use Rattle.rules.specs.Paths.{Name, same_at, same_name}
use Rattle.rules.proofs.Scans.{all_yes, all_done, all-at}
use Rattle.tables.specs.NameWords.{pair, quad, low_word, high_word}

-- ---- the words of a directory entry, by the directory's bytes

first-at : (D : List ℕ) (a : ℕ) → get_or (drop a D) 0 0 ≡ get_or D a 0
first-at D a =
    let e : a + 0 ≡ a = omega arith in
    get_or-drop a D 0 0 ∙ ap (λ (k : ℕ). get_or D k 0) e

pub low-at : (D : List ℕ) (a : ℕ) → low_word (drop a D) ≡ quad (get_or D a 0) (get_or D (a + 1) 0) (get_or D (a + 2) 0) (get_or D (a + 3) 0) + 4294967296 * quad (get_or D (a + 4) 0) (get_or D (a + 5) 0) (get_or D (a + 6) 0) (get_or D (a + 7) 0)
unfolding low_word
low-at D a = rw (first-at D a, get_or-drop a D 1 0, get_or-drop a D 2 0, get_or-drop a D 3 0, get_or-drop a D 4 0, get_or-drop a D 5 0, get_or-drop a D 6 0, get_or-drop a D 7 0)

pub high-at : (D : List ℕ) (a : ℕ) → high_word (drop a D) ≡ quad (get_or D (a + 8) 0) (get_or D (a + 9) 0) (get_or D (a + 10) 0) (get_or D (a + 11) 0) + 4294967296 * pair (get_or D (a + 12) 0) (get_or D (a + 13) 0)
unfolding high_word
high-at D a = rw (get_or-drop a D 8 0, get_or-drop a D 9 0, get_or-drop a D 10 0, get_or-drop a D 11 0, get_or-drop a D 12 0, get_or-drop a D 13 0)

-- ---- equal words have equal bytes

module _ {Z : Type 0} where
  split-pair : (a b x y : ℕ) → a < 256 → x < 256 → pair a b ≡ pair x y → (a ≡ x → b ≡ y → Z) → Z
  split-pair a b x y h k e z = z (omega arith) (omega arith)

  split-quad : (a b c d x y u v : ℕ) → a < 256 → b < 256 → c < 256 → x < 256 → y < 256 → u < 256 → quad a b c d ≡ quad x y u v
      → (a ≡ x → b ≡ y → c ≡ u → d ≡ v → Z) → Z
  split-quad a b c d x y u v ha hb hc hx hy hu e z =
      let p : pair a b ≡ pair x y = omega arith in
      let q : pair c d ≡ pair u v = omega arith in
      split-pair a b x y ha hx p (λ r s. split-pair c d u v hc hu q (λ t w. z r s t w))

  split-word : (a b x y : ℕ) → a < 4294967296 → x < 4294967296 → a + 4294967296 * b ≡ x + 4294967296 * y → (a ≡ x → b ≡ y → Z) → Z
  split-word a b x y h k e z = z (omega arith) (omega arith)

module _ (m n : Name) where
  same_byte : (k : ℕ) → get_or m k 0 ≡ get_or n k 0 → same_at m n k ≡ true
  unfolding same_at
  same_byte k e = eq-eqb (get_or m k 0) (get_or n k 0) e

  byte-same : (k : ℕ) → k < 14 → same_name m n ≡ true → get_or m k 0 ≡ get_or n k 0
  unfolding same_name same_at
  byte-same k h e = eqb-true (get_or m k 0) (get_or n k 0) (all-at (same_at m n) 0 14 e k (omega arith) h)

  low_same : same_name m n ≡ true → low_word m ≡ low_word n
  unfolding low_word
  low_same e = rw (byte-same 0 (omega arith) e, byte-same 1 (omega arith) e, byte-same 2 (omega arith) e, byte-same 3 (omega arith) e, byte-same 4 (omega arith) e, byte-same 5 (omega arith) e, byte-same 6 (omega arith) e, byte-same 7 (omega arith) e)

  high_same : same_name m n ≡ true → high_word m ≡ high_word n
  unfolding high_word
  high_same e = rw (byte-same 8 (omega arith) e, byte-same 9 (omega arith) e, byte-same 10 (omega arith) e, byte-same 11 (omega arith) e, byte-same 12 (omega arith) e, byte-same 13 (omega arith) e)

  apart : (u v : ℕ) (r : Bool) → (same_name m n ≡ true → u ≡ v) → r ≡ eqb u v → r ≡ false → false ≡ same_name m n
  apart u v r h q e = by (same_name m n) refl
    where
      by : (t : Bool) → same_name m n ≡ t → false ≡ same_name m n
      by true s = absurd (false≢true (sym e ∙ q ∙ eq-eqb u v (h s)))
      by false s = sym s

  pub low-apart : (low : ℕ) (r : Bool) → low ≡ low_word n → r ≡ eqb (low_word m) low → r ≡ false → false ≡ same_name m n
  low-apart low r a q e = apart (low_word m) (low_word n) r low_same (rw a at q) e

  pub high-apart : (high : ℕ) (r : Bool) → high ≡ high_word n → r ≡ eqb (high_word m) high → r ≡ false → false ≡ same_name m n
  high-apart high r a q e = apart (high_word m) (high_word n) r high_same (rw a at q) e

  module _ (bm : (k : ℕ) → get_or m k 0 < 256) (bn : (k : ℕ) → get_or n k 0 < 256) where
    same-words : low_word m ≡ low_word n → high_word m ≡ high_word n → true ≡ same_name m n
    unfolding low_word high_word same_name
    same-words e f =
        split-word (quad (get_or m 0 0) (get_or m 1 0) (get_or m 2 0) (get_or m 3 0)) (quad (get_or m 4 0) (get_or m 5 0) (get_or m 6 0) (get_or m 7 0)) (quad (get_or n 0 0) (get_or n 1 0) (get_or n 2 0) (get_or n 3 0)) (quad (get_or n 4 0) (get_or n 5 0) (get_or n 6 0) (get_or n 7 0)) (omega (arith, bm 0, bm 1, bm 2, bm 3)) (omega (arith, bn 0, bn 1, bn 2, bn 3)) e (λ e₁ e₂.
        split-word (quad (get_or m 8 0) (get_or m 9 0) (get_or m 10 0) (get_or m 11 0)) (pair (get_or m 12 0) (get_or m 13 0)) (quad (get_or n 8 0) (get_or n 9 0) (get_or n 10 0) (get_or n 11 0)) (pair (get_or n 12 0) (get_or n 13 0)) (omega (arith, bm 8, bm 9, bm 10, bm 11)) (omega (arith, bn 8, bn 9, bn 10, bn 11)) f (λ f₁ f₂.
        split-quad (get_or m 0 0) (get_or m 1 0) (get_or m 2 0) (get_or m 3 0) (get_or n 0 0) (get_or n 1 0) (get_or n 2 0) (get_or n 3 0) (bm 0) (bm 1) (bm 2) (bn 0) (bn 1) (bn 2) e₁ (λ p0 p1 p2 p3.
        split-quad (get_or m 4 0) (get_or m 5 0) (get_or m 6 0) (get_or m 7 0) (get_or n 4 0) (get_or n 5 0) (get_or n 6 0) (get_or n 7 0) (bm 4) (bm 5) (bm 6) (bn 4) (bn 5) (bn 6) e₂ (λ p4 p5 p6 p7.
        split-quad (get_or m 8 0) (get_or m 9 0) (get_or m 10 0) (get_or m 11 0) (get_or n 8 0) (get_or n 9 0) (get_or n 10 0) (get_or n 11 0) (bm 8) (bm 9) (bm 10) (bn 8) (bn 9) (bn 10) f₁ (λ p8 p9 p10 p11.
        split-pair (get_or m 12 0) (get_or m 13 0) (get_or n 12 0) (get_or n 13 0) (bm 12) (bn 12) f₂ (λ p12 p13.
        all_done (same_at m n) 14 14 (all_yes (same_at m n) 13 14 (all_yes (same_at m n) 12 14 (all_yes (same_at m n) 11 14 (all_yes (same_at m n) 10 14 (all_yes (same_at m n) 9 14 (all_yes (same_at m n) 8 14 (all_yes (same_at m n) 7 14 (all_yes (same_at m n) 6 14 (all_yes (same_at m n) 5 14 (all_yes (same_at m n) 4 14 (all_yes (same_at m n) 3 14 (all_yes (same_at m n) 2 14 (all_yes (same_at m n) 1 14 (all_yes (same_at m n) 0 14 refl (omega arith) (same_byte 0 p0) refl) (omega arith) (same_byte 1 p1) refl) (omega arith) (same_byte 2 p2) refl) (omega arith) (same_byte 3 p3) refl) (omega arith) (same_byte 4 p4) refl) (omega arith) (same_byte 5 p5) refl) (omega arith) (same_byte 6 p6) refl) (omega arith) (same_byte 7 p7) refl) (omega arith) (same_byte 8 p8) refl) (omega arith) (same_byte 9 p9) refl) (omega arith) (same_byte 10 p10) refl) (omega arith) (same_byte 11 p11) refl) (omega arith) (same_byte 12 p12) refl) (omega arith) (same_byte 13 p13) refl) (omega arith)))))))

    pub word_same : (low high : ℕ) (r q : Bool) → low ≡ low_word n → high ≡ high_word n → r ≡ eqb (low_word m) low → r ≡ true → q ≡ eqb (high_word m) high → q ≡ true
        → true ≡ same_name m n
    word_same low high r q a b x e y f = same-words (eqb-true (low_word m) low (sym x ∙ e) ∙ a) (eqb-true (high_word m) high (sym y ∙ f) ∙ b)

-- entry i of a directory has the name
pub words-there : (D : List ℕ) (i : ℕ) (n : Name) → ((k : ℕ) → get_or D k 0 < 256) → ((k : ℕ) → get_or n k 0 < 256) → (low high : ℕ) (r q : Bool) → low ≡ low_word n → high ≡ high_word n
    → r ≡ eqb (low_word (dirent_at D i)) low → r ≡ true → q ≡ eqb (high_word (dirent_at D i)) high → q ≡ true → true ≡ has_name D n i
unfolding has_name
words-there D i n bd bn low high r q a b x e y f =
    word_same (dirent_at D i) n (λ k. rw (get_or-drop (16 * i) D k 0) (bd (16 * i + k))) bn low high r q a b x e y f
