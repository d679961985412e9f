-- Laws of hex as it is read.
use Prim.Native.Nat.{ℕ, suc, ◌+◌, ◌-◌, ◌*◌, ◌/◌, ◌%◌, ◌≤◌, ◌<◌, min}
use mathlib.Core.Path.{◌≡◌, refl, sym, ◌∙◌}
use mathlib.Core.Bool.{Bool, true, false, cond, false≢true}
use mathlib.Core.List.{List, [], ◌∷◌}
use native.Mathlib.Numerals.{add-one}
use native.Mathlib.Omega.{arith}
use borrow.Author.Tests.{leb-true, leb-false}
use lib.Dec.{leb}
use lib.ListN.{length, get_or, set, take, drop, length-drop}
use lib.Seq.{sets, drop-cons}
use Rattle.rules.proofs.Lists.{sets-out}
use Rattle.rules.specs.Choice.{every, some}
use Rattle.rules.specs.Paths.{span}
use Rattle.script_rules.specs.Text.{bytes_of, hex_value, is_hex, is_digit, is_letter}
use Rattle.script_rules.specs.Blocks.{text_of}
use Rattle.script_rules.specs.declared.line.Line.TheVariants as line
use Rattle.script_text.specs.Hex.{pairs}

-- two digits make a byte
pub length-bytes : (t : List ℕ) → length t / 2 ≡ length (bytes_of t)
unfolding bytes_of
length-bytes [] = refl
length-bytes (a ∷ []) = refl
length-bytes (a ∷ b ∷ t) = omega (arith, length-bytes t)

pub length_pairs : (t : List ℕ) → length t / 2 ≡ length (pairs t)
unfolding pairs
length_pairs [] = refl
length_pairs (a ∷ []) = refl
length_pairs (a ∷ b ∷ t) = omega (arith, length_pairs t)

-- how many are read
pub count : (t : List ℕ) (k : ℕ) → min (length t / 2) k ≡ min (length (pairs t)) k
count t k = rw (length_pairs t)

-- ---- reading: i bytes are read

few : (t : List ℕ) → length t ≤ 1 → pairs t ≡ []
unfolding pairs
few [] h = refl
few (a ∷ []) h = refl
few (a ∷ b ∷ t) h = absurd (over h)
  where
    over : suc (suc (length t)) ≤ 1 → ⊥
    over h = omega arith

module _ (t X : List ℕ) (i : ℕ) {z : List ℕ} (inv : sets X i (pairs (drop (2 * i) t)) ≡ z) where
  read-full : length X ≤ i → X ≡ z
  read-full h = sym (sets-out (pairs (drop (2 * i) t)) X i h) ∙ inv

  read-all : length t / 2 ≤ i → X ≡ z
  read-all h = let e : length (drop (2 * i) t) ≤ 1 = omega (arith, length-drop (2 * i) t) in rw (few (drop (2 * i) t) e) at inv

  pub read_done : min (length t / 2) (length X) ≤ i → X ≡ z
  read_done h = by (leb (length X) i) refl
    where
      by : (b : Bool) → leb (length X) i ≡ b → X ≡ z
      by true e = read-full (leb-true (length X) i e)
      by false e = read-all (omega (arith, leb-false (length X) i e))

  pub read_more : i < length t / 2 → {v : ℕ} → v ≡ (hex_value (get_or t (2 * i) 0) * 16 + hex_value (get_or t (2 * i + 1) 0)) % 256
      → sets (set X i v) (i + 1) (pairs (drop (2 * (i + 1)) t)) ≡ z
  unfolding pairs
  read_more h {v} q = ends (2 * (i + 1)) (i + 1) two (add-one i)
    where
      two : drop (2 * i) t ≡ get_or t (2 * i) 0 ∷ (get_or t (2 * i + 1) 0 ∷ drop (2 * (i + 1)) t)
      two =
          let e : 2 * (i + 1) ≡ suc (2 * i + 1) = omega arith in
          let f : suc (2 * i) ≡ 2 * i + 1 = omega arith in
          drop-cons t (2 * i) 0 (omega arith) ∙ rw f (rw e (rw (drop-cons t (2 * i + 1) 0 (omega arith))))

      ends : (m j : ℕ) → drop (2 * i) t ≡ get_or t (2 * i) 0 ∷ (get_or t (2 * i + 1) 0 ∷ drop m t) → j ≡ suc i → sets (set X i v) j (pairs (drop m t)) ≡ z
      ends m j a e = rw (e, q) (rw a at inv)

-- ---- of digits of hex, a pair is a byte

value-small : (b : ℕ) → is_hex b ≡ true → hex_value b ≤ 15
unfolding is_hex is_digit is_letter hex_value some every
value-small b e = by (leb 48 b) (leb b 57) (leb 97 b) (leb b 102) refl refl refl refl e
  where
    by : (p q r s : Bool) → leb 48 b ≡ p → leb b 57 ≡ q → leb 97 b ≡ r → leb b 102 ≡ s
        → cond (cond p (cond q true false) false) true (cond (cond r (cond s true false) false) true false) ≡ true → cond (leb b 57) (b - 48) (b - 87) ≤ 15
    by p true r s e1 e2 e3 e4 h = let a : b ≤ 57 = leb-true b 57 e2 in rw e2 (omega arith)
    by true false true true e1 e2 e3 e4 h = let a : b ≤ 102 = leb-true b 102 e4 in rw e2 (omega arith)
    by false false true true e1 e2 e3 e4 h = let a : b ≤ 102 = leb-true b 102 e4 in rw e2 (omega arith)
    by true false true false e1 e2 e3 e4 h = absurd (false≢true h)
    by true false false s e1 e2 e3 e4 h = absurd (false≢true h)
    by false false true false e1 e2 e3 e4 h = absurd (false≢true h)
    by false false false s e1 e2 e3 e4 h = absurd (false≢true h)

-- a text of digits of hex alone
data AllHex : List ℕ → Type 0 where
  none : AllHex []
  one : (b : ℕ) (bs : List ℕ) → is_hex b ≡ true → AllHex bs → AllHex (b ∷ bs)

run-hex : (xs : List ℕ) → AllHex (take (span is_hex xs) xs)
unfolding span
run-hex [] = none
run-hex (x ∷ xs) = by (is_hex x) refl (run-hex xs)
  where
    by : (t : Bool) → is_hex x ≡ t → AllHex (take (span is_hex xs) xs) → AllHex (take (cond (is_hex x) (suc (span is_hex xs)) 0) (x ∷ xs))
    by true e h = rw e (one x (take (span is_hex xs) xs) e h)
    by false e h = rw e none

same : (t : List ℕ) → AllHex t → pairs t ≡ bytes_of t
unfolding pairs bytes_of
same [] h = refl
same (a ∷ []) h = refl
same (a ∷ b ∷ t) (one _ _ p (one _ _ q h)) =
    let x : hex_value a ≤ 15 = value-small a p in
    let y : hex_value b ≤ 15 = value-small b q in
    let m : (hex_value a * 16 + hex_value b) % 256 ≡ hex_value a * 16 + hex_value b = omega arith in
    rw (m, same t h)

-- the text of a line of data
pub pairs-bytes : (S : List ℕ) → pairs (text_of line.Data S) ≡ bytes_of (text_of line.Data S)
unfolding text_of
pairs-bytes S = same _ (run-hex _)
