-- A directory entry as it is written: its row.
use mathlib.Core.Path.{◌≡◌, sym, ap, ◌∙◌}
use mathlib.Core.Bool.{true}
use mathlib.Core.List.{[], ◌∷◌}
use Prim.Native.Nat.{ℕ, ◌+◌, ◌%◌, ◌≤◌, ◌<◌}
use native.Mathlib.Omega.{arith}
use native.Mathlib.Decide.{dec_lt}
use lib.ListN.{length, get_or, length-append, get_or-append, get_or-eq_default}
use lib.Seq.{get_or-append-add}
use Rattle.rules.specs.Layout.{DIRENT_WIDTH, NAME, SLASH}
use Rattle.rules.specs.Paths as paths
use Rattle.rules.specs.Paths.{is_dots}
use Rattle.rules.specs.Directories.{is_padding, padded, dirent}
use Rattle.rules.specs.Sound.{name_sound, name_byte_sound}
use Rattle.rules.specs.declared.ids.Slot.{Slot}
use Rattle.rules.proofs.Lists.{length-padded, padded-at}
use Rattle.preservation.proofs.Tests.{means-every, means-and, means-last, means-imp, means-or, means-eq, means-not, means-test, means-all}
use Rattle.preservation.proofs.Sound.{valid_row}
use Rattle.preservation.proofs.Shown.{valid_row-to, name-row}
use Rattle.preservation.proofs.NameEffects.{row_of}
use Rattle.preservation.proofs.PathNames.{GoodName}

-- ---- the 16 bytes

module _ (name : paths.Name) (s : Slot) where
  pub dirent-length : length (dirent name s) ≡ DIRENT_WIDTH
  unfolding dirent
  dirent-length = length-append (padded NAME name) (s.0 % 256 ∷ 0 ∷ []) ∙ ap (λ (n : ℕ). n + 2) (length-padded NAME name)

  pub row-name : (k : ℕ) → k < NAME → row_of name s k ≡ get_or name k 0
  unfolding dirent
  row-name k h = get_or-append (padded NAME name) (s.0 % 256 ∷ 0 ∷ []) 0 k (rw (length-padded NAME name) h) ∙ padded-at NAME name k h

  row-after : (k : ℕ) → get_or (dirent name s) (NAME + k) 0 ≡ get_or (s.0 % 256 ∷ 0 ∷ []) k 0
  unfolding dirent
  row-after k = rw (length-padded NAME name) at (get_or-append-add (padded NAME name) (s.0 % 256 ∷ 0 ∷ []) k 0)

  pub row-slot : s.0 < 256 → row_of name s NAME ≡ s.0
  row-slot h = row-after 0 ∙ small
    where
      small : s.0 % 256 ≡ s.0
      small = omega arith

  pub row_last : row_of name s (NAME + 1) ≡ 0
  row_last = row-after 1

  pub row-end : (k : ℕ) → DIRENT_WIDTH ≤ k → row_of name s k ≡ 0
  row-end k h = get_or-eq_default (dirent name s) 0 (rw dirent-length h)

  -- ---- a good name makes a valid row

  past : (k : ℕ) → length name ≤ k → get_or name k 0 ≡ 0
  past k h = get_or-eq_default name 0 h

  byte-valid : GoodName name → (k : ℕ) → name_byte_sound name k ≡ true
  unfolding name_byte_sound is_padding
  byte-valid g k = (means-every (means-and (means-not (means-eq (get_or name k 0) SLASH)) (means-last (means-imp (means-eq (get_or name k 0) 0) (means-or (means-eq (k + 1) NAME) (means-eq (get_or name (k + 1) 0) 0)))))).tests
      (at (dec_lt k (length name)), λ z _. past (k + 1) (after z (dec_lt k (length name))))
    where
      at : Dec (k < length name) → get_or name k 0 ≡ SLASH → ⊥
      at (yes l) e = g.bytes.no_slash k l e
      at (no l) e = omega (arith, past k (omega arith), e)

      after : get_or name k 0 ≡ 0 → Dec (k < length name) → length name ≤ k + 1
      after z (yes l) = absurd (g.bytes.no_zero k l z)
      after z (no l) = omega arith

  name-valid : GoodName name → name_sound name ≡ true
  unfolding name_sound is_padding
  name-valid g = (means-every (means-and (means-not (means-eq (get_or name 0 0) 0)) (means-and (means-all NAME (name_byte_sound name) (λ k. name_byte_sound name k ≡ true) (λ k. means-test (name_byte_sound name k))) (means-last (means-not (means-test (is_dots name))))))).tests
      ((λ z. g.bytes.no_zero 0 g.bytes.some_byte z), ((λ k _. byte-valid g k), g.not-dots))

  pub row-valid : GoodName name → valid_row (row_of name s) ≡ true
  row-valid g = valid_row-to (row_of name s) (λ k. get_or name k 0) row-name ∙ sym (name-row name) ∙ name-valid g
