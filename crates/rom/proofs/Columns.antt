-- A column of any file, stored or of the factory part.
use Prim.Native.Nat.{ℕ}
use mathlib.Core.Path.{◌≡◌, refl, ap, ◌∙◌}
use mathlib.Core.Bool.{Bool, true, false, cond}
use mathlib.Core.List.{[]}
use lib.Dec.{eqb, ltb}
use lib.ListN.{get_or}
use Rattle.rules.specs.Layout.{ROM, PLAIN, DIRECTORY}
use Rattle.rules.specs.Store.{Table, words, is_slot}
use Rattle.rules.specs.Rom.{rom_record, rom_words, seen_file}
use Rattle.rules.specs.declared.ids.Slot.{Slot}
use Rattle.rom.specs.Columns.{by_number}

-- by the number
column : (s k : ℕ) (a b : Bool) → cond a (get_or (words (rom_record PLAIN 292)) k 0) (cond b (get_or (words (rom_record DIRECTORY 365)) k 0) 0) ≡ get_or (cond a (words (rom_record PLAIN 292)) (cond b (words (rom_record DIRECTORY 365)) [])) k 0
column s k true b = refl
column s k false true = refl
column s k false false = refl

module _ (file : Table) (s : Slot) (k w p r z : ℕ) where
  pub seen_is : w ≡ file s.0 k → p ≡ get_or (words (rom_record PLAIN 292)) k 0 → r ≡ get_or (words (rom_record DIRECTORY 365)) k 0 → z ≡ cond (is_slot s) w (by_number s p r) → z ≡ seen_file file s.0 k
  unfolding seen_file by_number rom_words
  seen_is a b c e = e ∙ rw (a, b, c) (ap (cond (is_slot s) (file s.0 k)) (column s.0 k (ltb s.0 ROM) (eqb s.0 ROM)))
