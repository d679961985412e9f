-- Laws of an answer's text: its length, and its parts written one after the other.
use Prim.Native.Nat.{ℕ, ◌+◌, ◌-◌, ◌*◌, ◌/◌, ◌≤◌, ◌<◌, min}
use mathlib.Core.Path.{◌≡◌, refl, ap}
use mathlib.Core.List.{List, [], ◌∷◌, ◌++◌}
use native.Mathlib.Omega.{arith}
use Rattle.std.specs.Prelude.{Some, None}
use Rattle.std.specs.Int.{to_le_bytes, w32}
use lib.ListN.{length, get_or, take, length-append, length-take}
use Rattle.rules.specs.declared.answer.Answer.{Answer}
use Rattle.script_rules.specs.Text.{decimal, hex_of, little}
use Rattle.script_rules.specs.Answers.{stat_bytes, field_bytes, data_of, answer_text}
use borrow.Author.Tests.{le-leb, lt-leb, ne_eqb}
use Rattle.script_output.specs.Writes.{Room, Wrote, lines_of, writes, written}
use Rattle.script_rules.proofs.Texts.{length-hex}

pub hex-append : (xs ys : List ℕ) → hex_of (xs ++ ys) ≡ hex_of xs ++ hex_of ys
unfolding hex_of
hex-append [] ys = refl
hex-append (x ∷ xs) ys = rw (hex-append xs ys)

-- a word's bytes
pub word-bytes : (n : ℕ) → to_le_bytes w32 n ≡ little 4 n
unfolding little
word-bytes n =
    let a : n / 65536 ≡ n / 256 / 256 = omega arith in
    let b : n / 16777216 ≡ n / 256 / 256 / 256 = omega arith in
    rw (a, b) refl

pub stat-length : (f : List ℕ) → length (stat_bytes f) ≡ 16
unfolding stat_bytes little
stat-length f = refl

pub fields-none : (f : List ℕ) → get_or f 0 0 ≡ 0 → field_bytes f ≡ []
unfolding field_bytes
fields-none f e = rw e

pub fields-some : (f : List ℕ) → (get_or f 0 0 ≡ 0 → ⊥) → field_bytes f ≡ stat_bytes f
unfolding field_bytes
fields-some f e = rw (ne_eqb (get_or f 0 0) 0 e)

pub data-length : (a : Answer) (buffer : List ℕ) → length (data_of a buffer) ≡ length (take a.name_length a.name) + length (field_bytes a.fields) + length (take a.value buffer)
unfolding data_of
data-length a buffer = rw (length-append, length-append) (omega arith)

pub text-length : (a : Answer) (buffer : List ℕ) → length (answer_text a buffer) ≡ 21 + (length (decimal a.refusal) + length (decimal a.value)) + 2 * length (data_of a buffer)
unfolding answer_text
text-length a buffer = simp (length-append, length-hex) (omega arith)

-- ---- the fields

module _ (f : List ℕ) where
  pub none-length : get_or f 0 0 ≡ 0 → 0 ≡ length (field_bytes f)
  none-length e = rw (fields-none f e)

  pub some-length : (get_or f 0 0 ≡ 0 → ⊥) → 16 ≡ length (field_bytes f)
  some-length e = rw (fields-some f e, stat-length)

  module _ (X : List ℕ) (at : ℕ) where
    pub none-text : get_or f 0 0 ≡ 0 → Wrote X at (hex_of (field_bytes f)) X at
    unfolding hex_of
    none-text e = record { output = rw (fields-none f e); ends = rw (fields-none f e) (omega arith) }

    module _ {B : List ℕ} (b : B ≡ stat_bytes f) (e : (get_or f 0 0 ≡ 0 → ⊥)) where
      pub some-room : Room X at (hex_of (field_bytes f)) → Room X at (hex_of B)
      some-room h = rw (b, ← fields-some f e) h

      pub some-text : {Y : List ℕ} {g : ℕ} → Wrote X at (hex_of B) Y g → Wrote X at (hex_of (field_bytes f)) Y g
      some-text p = rw (fields-some f e, ← b) p

-- ---- the data

pub length-first : (n : ℕ) (bytes : List ℕ) → min (length bytes) n ≡ length (take n bytes)
length-first n bytes = rw length-take (omega arith)

module _ (a : Answer) (buffer : List ℕ) where
  pub data-sum : (x y z : ℕ) → x ≡ length (take a.name_length a.name) → y ≡ length (field_bytes a.fields) → z ≡ length (take a.value buffer) → x + y + z ≡ length (data_of a buffer)
  data-sum x y z p q r = omega (arith, data-length a buffer)

  pub text-sum : (x y z : ℕ) → x ≡ length (decimal a.refusal) → y ≡ length (decimal a.value) → z ≡ length (data_of a buffer) → 21 + (x + y) + 2 * z ≡ length (answer_text a buffer)
  text-sum x y z p q r = omega (arith, text-length a buffer)

-- ---- the lines, of which the last has the hex of the whole data

pub lines-text : (a : Answer) (buffer : List ℕ) → lines_of a buffer ≡ answer_text a buffer
unfolding answer_text data_of
lines-text a buffer = rw (hex-append, hex-append)

module _ (a : Answer) (buffer X : List ℕ) (at n : ℕ) (l : n ≡ length (answer_text a buffer)) {r : ℕ} (q : r ≡ length X - at) where
  pub too_long : r < n → writes None X ≡ written X at (answer_text a buffer)
  unfolding written
  too_long h = rw (lt-leb (length (answer_text a buffer)) (length X - at) (omega arith))

  module _ (g : n ≤ r) where
    pub has_room : Room X at (lines_of a buffer)
    has_room = omega (arith, ap length (lines-text a buffer), text-length a buffer)

    pub enough : {Y : List ℕ} {e : ℕ} → Wrote X at (lines_of a buffer) Y e → writes (Some n) Y ≡ written X at (answer_text a buffer)
    unfolding written
    enough w = rw (le-leb (length (answer_text a buffer)) (length X - at) (omega arith), l, w.output, ← lines-text a buffer)
