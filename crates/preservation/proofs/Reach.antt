-- What a walk from the root says of depths.
use mathlib.Core.Path.{◌≡◌, ap, ◌∙◌}
use Prim.Native.Nat.{ℕ, suc, ◌<◌}
use native.Mathlib.Omega.{arith}
use Rattle.preservation.proofs.Tables.{Tables, dirent_row}
use Rattle.preservation.proofs.Sound.{Sound}
use Rattle.rules.specs.Layout.{SLOTS, DIRENTS, NAME, FILE_KIND, FREE, DIRECTORY}

-- slot d is reached from the root by k names
pub data Reach (m : Tables) : ℕ → ℕ → Type 0 where
  root : Reach m 0 0
  down : {k u : ℕ} (p : ℕ) → Reach m k u → m.file u FILE_KIND ≡ DIRECTORY → p < DIRENTS → (dirent_row m.byte u p NAME ≡ 0 → ⊥) → Reach m (suc k) (dirent_row m.byte u p NAME)

pub reach-small : (m : Tables) → Sound m → {k d : ℕ} → Reach m k d → d < SLOTS
reach-small m h root = omega arith
reach-small m h (down {u = u} p r ku hp n) = ((h.tree.dirs u (reach-small m h r) ku).dirents p hp).slot_small

-- a directory's depth is the number of names that lead to it
pub reach-depth : (m : Tables) (h : Sound m) {k d : ℕ} → Reach m k d → m.file d FILE_KIND ≡ DIRECTORY → h.tree.depths.depth d ≡ k
reach-depth m h root _ = h.tree.depths.depth-root
reach-depth m h (down {u = u} p r ku hp n) kd = h.tree.depths.depth-step u (reach-small m h r) ku p hp n kd ∙ ap suc (reach-depth m h r ku)

-- what is reached is in use
pub reach-used : (m : Tables) (h : Sound m) {k d : ℕ} → Reach m k d → m.file d FILE_KIND ≡ FREE → ⊥
reach-used m h root z = omega (arith, h.slots.root-kind, z)
reach-used m h (down {u = u} p r ku hp n) z = ((h.tree.dirs u (reach-small m h r) ku).dirents p hp).slot-used n z
