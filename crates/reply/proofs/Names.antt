-- A listed name has at most 14 bytes, and is one of those that its directory is seen with.
use Prim.Native.Nat.{ℕ, ◌≤◌, min}
use mathlib.Core.Path.{◌≡◌, refl}
use mathlib.Core.Bool.{true, false}
use mathlib.Core.List.{List}
use native.Mathlib.Omega.{arith}
use lib.Dec.{eqb}
use lib.ListN.{length, length-take}
use Rattle.rules.specs.Scan.{first}
use Rattle.rules.specs.Layout.{ROM}
use Rattle.rules.specs.Directories.{dirent_at, is_padding, dirent_name}
use Rattle.rules.proofs.Scans.{first-most}
use Rattle.rules.specs.Rom.{rom_dirents, with_rom, seen_dirents}
use Rattle.rules.specs.declared.ids.Dirent.{Dirent}
use Rattle.rules.specs.declared.answer.Answer.{Answer}
use Rattle.reply.specs.Answers.{with_name}

pub name-short : (D : List ℕ) (i : Dirent) → min (length (dirent_name D i)) 16 ≡ length (dirent_name D i)
unfolding dirent_name
name-short D i = let l : first (is_padding (dirent_at D i.0)) 0 14 ≤ 14 = first-most (is_padding (dirent_at D i.0)) 14 0 14 refl (omega arith) in rw length-take (omega arith)

-- ---- which entries a directory is seen with

module _ (R : List ℕ) (dirents : ℕ → List ℕ) (s n : ℕ) (i : Dirent) (z : Answer) where
  pub listed_root : eqb s 0 ≡ true → z ≡ with_name n (dirent_name (with_rom (dirents 0)) i) → z ≡ with_name n (dirent_name (seen_dirents R dirents s) i)
  unfolding seen_dirents
  listed_root a e = rw a e

  pub listed_rom : eqb s 0 ≡ false → eqb s ROM ≡ true → z ≡ with_name n (dirent_name (rom_dirents R) i) → z ≡ with_name n (dirent_name (seen_dirents R dirents s) i)
  unfolding seen_dirents
  listed_rom a b e = rw (a, b) e

  pub listed_own : eqb s 0 ≡ false → eqb s ROM ≡ false → z ≡ with_name n (dirent_name (dirents s) i) → z ≡ with_name n (dirent_name (seen_dirents R dirents s) i)
  unfolding seen_dirents
  listed_own a b e = rw (a, b) e
