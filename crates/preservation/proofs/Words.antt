-- The words of sound tables are small, so that counters go up without wrapping.
use mathlib.Core.Path.{◌≡◌}
use mathlib.Core.Bool.{Bool, true, false, not}
use Prim.Native.Nat.{ℕ, ◌+◌, ◌*◌, ◌≤◌, ◌<◌}
use native.Mathlib.Omega.{arith}
use native.Mathlib.Decide.{ℕ_discrete}
use lib.Dec.{eqb}
use Rattle.rules.specs.Layout.{SLOTS, BLOCK, DIRENTS, OPEN_FILES, PROCESSES, DESCRIPTORS, NAME}
use Rattle.rules.specs.Layout.{FILE_KIND, FILE_LENGTH, FILE_LINKS, OPEN_OFFSET, OPEN_REFERENCES, DIRECTORY, WORD_MAX}
use Rattle.rules.specs.Store.{up, plus}
use Rattle.preservation.proofs.Sums.{sum, ind, sum-most}
use Rattle.preservation.proofs.Tables.{Tables, col, dirent_row}
use Rattle.preservation.proofs.Sound.{SoundBut, naming, name_count, link_count, holder_count}

pub up_is : (n : ℕ) → n < WORD_MAX → up n ≡ n + 1
unfolding up
up_is n h = omega arith

pub up-most : (n : ℕ) → up n ≤ WORD_MAX
unfolding up
up-most n = omega arith

pub plus-is : (a b : ℕ) → a + b ≤ WORD_MAX → plus a b ≡ a + b
unfolding plus
plus-is a b h = omega arith

-- ---- counts are bounded

ind-most : (b : Bool) → ind b ≤ 1
ind-most true = omega arith
ind-most false = omega arith

pub names-most : (rows : ℕ → ℕ → ℕ) → name_count rows ≤ DIRENTS
unfolding name_count
names-most rows = omega (arith, sum-most DIRENTS 1 (λ p. ind (not (eqb (rows p NAME) 0))) (λ p. ind-most (not (eqb (rows p NAME) 0))))

pub links-most : (kind : ℕ → ℕ) (rows : ℕ → ℕ → ℕ → ℕ) (s : ℕ) → link_count kind rows s ≤ DIRENTS * SLOTS
unfolding link_count
links-most kind rows s = sum-most SLOTS DIRENTS (λ d. sum DIRENTS (λ p. ind (naming kind rows s d p)))
    (λ d. let a : sum DIRENTS (λ p. ind (naming kind rows s d p)) ≤ 1 * DIRENTS = sum-most DIRENTS 1 (λ p. ind (naming kind rows s d p)) (λ p. ind-most (naming kind rows s d p)) in omega arith)

pub holders-most : (desc : ℕ → ℕ → ℕ) (e : ℕ) → holder_count desc e ≤ DESCRIPTORS * PROCESSES
unfolding holder_count
holders-most desc e = sum-most PROCESSES DESCRIPTORS (λ p. sum DESCRIPTORS (λ k. ind (eqb (desc p k) (e + 1))))
    (λ p. let a : sum DESCRIPTORS (λ k. ind (eqb (desc p k) (e + 1))) ≤ 1 * DESCRIPTORS = sum-most DESCRIPTORS 1 (λ k. ind (eqb (desc p k) (e + 1))) (λ k. ind-most (eqb (desc p k) (e + 1))) in omega arith)

-- ---- the words of sound tables

module _ (x : ℕ) (m : Tables) (h : SoundBut x m) where
  pub length_most : (s : ℕ) → s < SLOTS → m.file s FILE_LENGTH ≤ BLOCK
  length_most s hs = by (ℕ_discrete (m.file s FILE_KIND) DIRECTORY)
    where
      by : Dec (m.file s FILE_KIND ≡ DIRECTORY) → m.file s FILE_LENGTH ≤ BLOCK
      by (yes e) = omega (arith, h.tree.lengths s hs e, names-most (dirent_row m.byte s))
      by (no n) = (h.slots.blocks s hs).length_most n

  pub link-most : (s : ℕ) → s < SLOTS → m.file s FILE_LINKS ≤ DIRENTS * SLOTS
  link-most s hs = by (ℕ_discrete s 0)
    where
      by : Dec (s ≡ 0) → m.file s FILE_LINKS ≤ DIRENTS * SLOTS
      by (yes e) = rw e (omega (arith, h.slots.root-links))
      by (no n) = omega (arith, h.tree.links s hs n, links-most (col m.file FILE_KIND) (dirent_row m.byte) s)

  pub references-most : (e : ℕ) → e < OPEN_FILES → m.open_files e OPEN_REFERENCES ≤ DESCRIPTORS * PROCESSES
  references-most e he = omega (arith, h.opens.refs e he, holders-most m.desc e)

  pub offsets-most : (e : ℕ) → e < OPEN_FILES → m.open_files e OPEN_OFFSET ≤ BLOCK
  offsets-most e he = by (ℕ_discrete (m.open_files e OPEN_REFERENCES) 0)
    where
      by : Dec (m.open_files e OPEN_REFERENCES ≡ 0) → m.open_files e OPEN_OFFSET ≤ BLOCK
      by (yes z) = omega (arith, (h.opens.open-files e he).offset-zero z)
      by (no n) = (h.opens.open-files e he).offset-most n
