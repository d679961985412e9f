-- What the rules see is what is stored, where it is of the store.
use Prim.Native.Nat.{ℕ, ◌≤◌, ◌<◌}
use mathlib.Core.Path.{◌≡◌, refl, ap, subst, fun_ext}
use mathlib.Core.Bool.{Bool, true, false, cond}
use mathlib.Core.List.{[]}
use borrow.Author.Tests.{lt-ltb, le-ltb, ltb-true}
use lib.Dec.{eqb, ltb}
use lib.ListN.{get_or}
use Rattle.rules.specs.Choice.{every, implies}
use Rattle.rules.specs.Layout.{SLOTS, ROM, FILE_KIND, FILE_LABEL, PLAIN, DIRECTORY}
use Rattle.rules.specs.Store.{Table, words, slot, is_slot}
use Rattle.rules.specs.Rights.{asks_write}
use Rattle.rules.specs.Rom.{rom_record, rom_words, seen_file}
use Rattle.rules.specs.Walk.{bits_allow}
use Rattle.rules.specs.Checks.{slot_free, free_slot, closing, dropping, releasing}
use Rattle.rules.specs.declared.ids.Slot.{Slot}
use Rattle.rules.specs.declared.ids.Pid.{Pid}
use Rattle.rules.specs.declared.ids.Fd.{Fd}
use Rattle.rules.specs.declared.ids.Ofd.{Ofd}
use Rattle.rules.specs.declared.rights.Rights.{Rights}
use Rattle.rules.specs.declared.request.Subject.{Subject}
use Rattle.rules.proofs.Scans.{first-same}
use Rattle.rules.proofs.Tests.{test}

pub is-slot : (s : Slot) → is_slot s ≡ true → s.0 < SLOTS
is-slot s e = ltb-true s.0 SLOTS e

pub seen_stored : (file : Table) (s k : ℕ) → s < SLOTS → seen_file file s k ≡ file s k
unfolding seen_file
seen_stored file s k h = rw (lt-ltb s SLOTS h)

-- a whole record
pub row-stored : (file : Table) (s : ℕ) → s < SLOTS → seen_file file s ≡ file s
row-stored file s h = fun_ext (λ k. seen_stored file s k h)

-- a file of the factory part has label 0
pub factory-label : (file : Table) (s : ℕ) → SLOTS ≤ s → seen_file file s FILE_LABEL ≡ 0
unfolding seen_file rom_words
factory-label file s h = rw (le-ltb s SLOTS h) (go (ltb s ROM) (eqb s ROM))
  where
    go : (a b : Bool) → get_or (cond a (words (rom_record PLAIN 292)) (cond b (words (rom_record DIRECTORY 365)) [])) FILE_LABEL 0 ≡ 0
    go true b = refl
    go false true = refl
    go false false = refl

-- only the store's slots are ever free
pub free-slot-seen : (file : Table) → free_slot (seen_file file) ≡ free_slot file
unfolding slot_free
free-slot-seen file = ap slot (first-same (slot_free (seen_file file)) (slot_free file) SLOTS (λ s h. rw (seen_stored file s FILE_KIND h)))

-- what may be written is of the store
pub write-stored : (file : Table) (who : Subject) (s : Slot) (want : Rights) → asks_write want ≡ true → bits_allow file who s want ≡ true → s.0 < SLOTS
unfolding bits_allow implies
write-stored file who s want w e = is-slot s (subst (λ b. implies b (is_slot s) ≡ true) w (test 1 _ e))

-- ---- what closing frees is of the store, so it is decided alike on what is stored and on what is seen

module _ (file open_files : Table) where
  closing-seen : (e : Ofd) (s : Slot) → closing (seen_file file) open_files e s ≡ closing file open_files e s
  unfolding closing every seen_file
  closing-seen e s = by (is_slot s) refl
    where
      by : (b : Bool) → is_slot s ≡ b → closing (seen_file file) open_files e s ≡ closing file open_files e s
      by true q = rw q
      by false q = rw q

  dropping-seen : (e : Ofd) → dropping (seen_file file) open_files e ≡ dropping file open_files e
  unfolding dropping
  dropping-seen e = rw (closing-seen e)

  pub releasing-seen : (desc : Table) (p : Pid) (i : Fd) → releasing (seen_file file) open_files desc p i ≡ releasing file open_files desc p i
  unfolding releasing
  releasing-seen desc p i = rw dropping-seen
