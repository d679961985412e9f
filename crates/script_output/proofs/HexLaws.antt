-- Laws of hex as it is written.
use Prim.Native.Nat.{ℕ, suc, ◌+◌, ◌*◌, ◌/◌, ◌%◌, ◌≤◌, ◌<◌}
use mathlib.Core.Path.{◌≡◌}
use mathlib.Core.List.{List, ◌∷◌}
use native.Mathlib.Numerals.{add-one}
use native.Mathlib.Omega.{arith}
use lib.ListN.{length, get_or, set, drop, drop_of_length-le}
use lib.Seq.{sets, drop-cons}
use Rattle.script_rules.specs.Text.{hex_of, hex_digit}
use Rattle.script_rules.proofs.Texts.{length-hex}
use Rattle.script_output.specs.Writes.{Room, Wrote}

-- ---- writing: i bytes are written

module _ (bs X : List ℕ) (at i : ℕ) {z : List ℕ} (inv : sets X (at + 2 * i) (hex_of (drop i bs)) ≡ z) where
  pub write_done : length bs ≤ i → X ≡ z
  unfolding hex_of
  write_done h = rw (drop_of_length-le bs h) at inv

  pub write-more : i < length bs → {u v : ℕ} → u ≡ hex_digit (get_or bs i 0 / 16) → v ≡ hex_digit (get_or bs i 0 % 16)
      → sets (set (set X (at + 2 * i) u) (at + 2 * i + 1) v) (at + 2 * (i + 1)) (hex_of (drop (i + 1) bs)) ≡ z
  unfolding hex_of
  write-more h {u} {v} p q = ends (i + 1) (at + 2 * (i + 1)) (at + 2 * i + 1) (rw (add-one, drop-cons bs i 0 h)) (omega arith) (omega arith)
    where
      ends : (m j k : ℕ) → drop i bs ≡ get_or bs i 0 ∷ drop m bs → j ≡ suc (suc (at + 2 * i)) → k ≡ suc (at + 2 * i) → sets (set (set X (at + 2 * i) u) k v) j (hex_of (drop m bs)) ≡ z
      ends m j k a e f = rw (e, f, p, q) (rw a at inv)

module _ (X : List ℕ) (at : ℕ) (bs : List ℕ) where
  pub hex-room : Room X at (hex_of bs) → at + 2 * length bs ≤ length X
  hex-room h = omega (arith, length-hex bs)

  pub hex-wrote : {Y : List ℕ} {e i : ℕ} → e ≡ at + 2 * i → i ≤ length bs → length bs ≤ i → Y ≡ sets X at (hex_of bs) → Wrote X at (hex_of bs) Y e
  hex-wrote q l m p = record { output = p; ends = omega (arith, length-hex bs) }
